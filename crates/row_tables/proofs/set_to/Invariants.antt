use Prim.Native.Nat.{◌-◌, ◌≤◌}
use native.Mathlib.Omega.{arith}
use borrow.Author.Rules.{rules}
use Rattle.row_tables.specs.Rows.{ZerosFrom}
use Rattle.row_tables.proofs.Loops.{zeros_start, zeros_more}
use Rattle.row_tables.proofs.set_to.Given as goal

abbrev pub invariant-loop-end : goal.invariant-loop-end
invariant-loop-end l = (l.at ≤ l.end) × ZerosFrom l.table l.end

abbrev pub decreases-loop-end : goal.decreases-loop-end
decreases-loop-end l = l.end - l.at
