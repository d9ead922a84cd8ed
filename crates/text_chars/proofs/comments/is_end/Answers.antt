use borrow.Author.Rules.{rules}
use mathlib.Core.Path.{sym, ◌∙◌}
use Rattle.text_chars.proofs.comments.is_end.Goals as goal

pub returns-then-is_close : goal.returns-then-is_close
returns-then-is_close c = simp (sym c.is_close.ensures ∙ c.if-is_close.true)

pub returns : goal.returns
returns c = simp (sym c.is_close.ensures ∙ c.if-is_close.false)
