use Prim.Native.Nat.{◌-◌, ◌≤◌}
use native.Mathlib.Omega.{arith}
use borrow.Author.Rules.{rules}
use Rattle.row_tables.specs.Rows.{ZerosFrom}
use Rattle.row_tables.proofs.Loops.{zeros_start, zeros_more}
use Rattle.row_tables.proofs.set_to.Goals as goal

pub loop-end-init : goal.loop-end-init
loop-end-init c = (c.requires, zeros_start c.args.table.now)

pub overflow_sub-end : goal.overflow_sub-end
overflow_sub-end c = omega (arith, c.loop-end.invariant.0)

pub overflow_sub-end-in-loop-end : goal.overflow_sub-end-in-loop-end
overflow_sub-end-in-loop-end c = omega (arith, c.loop-end-test.true)

pub bits_of-requires : goal.bits_of-requires
bits_of-requires c = omega (arith, c.loop-end-test.true, c.loop-end.invariant.1.0)

pub returns-then-bits_of-ne0 : goal.returns-then-bits_of-ne0
returns-then-bits_of-ne0 c = c.loop-end.invariant

pub overflow_sub-end-in-loop-end-2 : goal.overflow_sub-end-in-loop-end-2
overflow_sub-end-in-loop-end-2 c = omega (arith, c.loop-end-test.true)

pub loop-end-smaller : goal.loop-end-smaller
loop-end-smaller c = omega (arith, c.loop-end-test.true)

pub loop-end-preserved : goal.loop-end-preserved
loop-end-preserved c = (omega (arith, c.loop-end-test.true), zeros_more c.args.table.now c.loop-end.end (omega (arith, c.loop-end-test.true)) c.loop-end.invariant.1 c.bits_of.ensures (search rules))

pub returns : goal.returns
returns c = c.loop-end.invariant
