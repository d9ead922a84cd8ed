use borrow.Author.Rules.{rules}
use native.Mathlib.Omega.{arith}
use Rattle.marks.proofs.Takes.{too_large, marked_already, newly_marked}
use Rattle.marks.proofs.take.Goals as goal

pub returns-then-bound-x : goal.returns-then-bound-x
returns-then-bound-x c = too_large _ _ _ (omega arith)

pub returns-then-marks-at-ne0 : goal.returns-then-marks-at-ne0
returns-then-marks-at-ne0 c = marked_already _ _ _ c.if-marks-at-ne0.true

pub returns : goal.returns
returns c = newly_marked _ _ _ (omega arith) c.if-marks-at-ne0.false
