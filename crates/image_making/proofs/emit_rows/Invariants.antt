use borrow.Author.Rules.{rules}
use Prim.Native.Nat.{◌-◌}
use mathlib.Core.Path.{◌≡◌}
use native.Mathlib.Omega.{arith}
use Rattle.image_making.proofs.RowsDone.{Done, next_ready, next_past, next_done}
use Rattle.image_making.proofs.Limits.{none_done}
use Rattle.image_making.proofs.emit_rows.Given as goal

abbrev pub invariant-loop-i : goal.invariant-loop-i
invariant-loop-i l = Done l.text l.spelled l.makings l.sheet l.tables l.n l.i l.counts l.draft
