use Prim.Native.Nat.{◌+◌, ◌-◌}
use native.Mathlib.Omega.{arith}
use Rattle.literals.proofs.Halves.{half_start, half_small, half_more, half_end}
use Rattle.literals.proofs.half.Goals as goal

pub loop-i-init : goal.loop-i-init
loop-i-init c = half_start _ _ _

pub overflow_mul-value : goal.overflow_mul-value
overflow_mul-value c = omega (arith, half_small c.loop-i.invariant c.requires.1 (omega arith))

pub overflow_add-value-in-loop-i : goal.overflow_add-value-in-loop-i
overflow_add-value-in-loop-i c = omega (arith, half_small c.loop-i.invariant c.requires.1 (omega arith), c.type_inv.bytes (c.args.at + (c.loop-i.i - 1)))

pub loop-i-preserved : goal.loop-i-preserved
loop-i-preserved c = half_more c.loop-i.invariant c.requires.0 (omega arith) (omega (arith, c.type_inv.bytes (c.args.at + (c.loop-i.i - 1))))

pub returns : goal.returns
returns c = half_end c.loop-i.invariant (omega arith)
