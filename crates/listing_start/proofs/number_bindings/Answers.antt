use native.Mathlib.Omega.{arith}
use Rattle.listing_start.proofs.Numbers.{number_more, number_end}
use Rattle.listing_start.proofs.number_bindings.Goals as goal

pub loop-i-preserved : goal.loop-i-preserved
loop-i-preserved c = number_more c.loop-i.invariant c.requires (omega (arith, c.loop-i-test.true, c.loop-i.invariant.kept, c.requires))

pub returns : goal.returns
returns c = number_end c.loop-i.invariant c.requires (omega (arith, c.loop-i-test.false, c.loop-i.invariant.kept, c.requires))
