use borrow.Author.Rules.{rules}
use mathlib.Core.Path.{sym, ◌∙◌}
use Rattle.pattern_words.specs.Words.{in_word}
use Rattle.pattern_words.proofs.words.is_in_word.Goals as goal

pub returns-then-begins_word : goal.returns-then-begins_word
unfolding in_word
returns-then-begins_word c = simp (sym c.begins_word.ensures ∙ c.if-begins_word.true)

pub returns : goal.returns
unfolding in_word
returns c = simp (sym c.begins_word.ensures ∙ c.if-begins_word.false) c.is_digit.ensures
