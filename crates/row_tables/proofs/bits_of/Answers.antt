use Prim.Native.Nat.{◌+◌}
use native.Mathlib.Omega.{arith}
use borrow.Rule.Slice.PartMut.{mid_len}
use Rattle.row_tables.proofs.Loops.{number_of, bits_more}
use Rattle.row_tables.proofs.bits_of.Goals as goal

pub loop-number-preserved : goal.loop-number-preserved
loop-number-preserved c =
    rw (number_of c.args.table.now c.args.at (c.args.at + 512) c.requires c.loop-number.number-index c.loop-number-test.true)
    (bits_more c.args.table.now c.args.at c.loop-number.number-index c.loop-number.invariant)

pub returns : goal.returns
returns c = λ k h. c.loop-number.invariant k (omega (arith, h, c.loop-number-test.false, mid_len c.args.at (c.args.at + 512) c.args.table.now c.requires))
