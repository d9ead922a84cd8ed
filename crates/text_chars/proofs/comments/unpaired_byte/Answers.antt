use borrow.Author.Rules.{rules}
use mathlib.Core.Path.{sym, ◌∙◌}
use Rattle.text_chars.specs.Gaps.{unpaired}
use Rattle.text_chars.proofs.comments.unpaired_byte.Goals as goal

pub returns-then-is_close : goal.returns-then-is_close
unfolding unpaired
returns-then-is_close c = simp (sym c.is_close.ensures ∙ c.if-is_close.true)

pub returns-then-is_open : goal.returns-then-is_open
unfolding unpaired
returns-then-is_open c = simp (sym c.is_close.ensures ∙ c.if-is_close.false, sym c.is_open.ensures ∙ c.if-is_open.true)

pub returns : goal.returns
unfolding unpaired
returns c = simp (sym c.is_close.ensures ∙ c.if-is_close.false, sym c.is_open.ensures ∙ c.if-is_open.false)
