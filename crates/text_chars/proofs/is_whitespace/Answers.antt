use borrow.Author.Rules.{rules}
use Rattle.text_chars.specs.Gaps.{is_whitespace, whitespace}
use Rattle.text_chars.proofs.is_whitespace.Goals as goal

pub returns : goal.returns
unfolding is_whitespace whitespace
returns c = c.is_in.ensures
