use borrow.Author.Rules.{rules}
use Rattle.pattern_words.specs.Words.{is_digit}
use Rattle.pattern_words.proofs.words.is_digit.Goals as goal

pub returns : goal.returns
unfolding is_digit
returns c = c.is_between.ensures
