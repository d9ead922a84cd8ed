use borrow.Author.Rules.{rules}
use mathlib.Core.Path.{sym, ◌∙◌}
use native.Mathlib.Omega.{arith}
use Rattle.text_chars.specs.Gaps.{depth_behind}
use native.Mathlib.Numerals.{add-one}
use Rattle.text_chars.proofs.comments.depth_behind.Goals as goal

pub returns-then-depth-eq0 : goal.returns-then-depth-eq0
unfolding depth_behind
returns-then-depth-eq0 c = simp (sym c.is_close.ensures ∙ c.if-is_close.true) (omega arith)

pub returns-then-is_close : goal.returns-then-is_close
unfolding depth_behind
returns-then-is_close c = simp (sym c.is_close.ensures ∙ c.if-is_close.true)

pub returns-then-is_open : goal.returns-then-is_open
unfolding depth_behind
returns-then-is_open c = simp (sym c.is_close.ensures ∙ c.if-is_close.false, sym c.is_open.ensures ∙ c.if-is_open.true) (add-one _)

pub returns : goal.returns
unfolding depth_behind
returns c = simp (sym c.is_close.ensures ∙ c.if-is_close.false, sym c.is_open.ensures ∙ c.if-is_open.false)
