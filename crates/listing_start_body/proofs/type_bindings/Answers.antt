use native.Mathlib.Omega.{arith}
use Rattle.listing_start.proofs.Limits.{limits}
use Rattle.listing_start_body.proofs.Filling.{type_more_lem, type_end}
use Rattle.listing_start_body.proofs.type_bindings.Goals as goal

pub bounds-locals-i : goal.bounds-locals-i
bounds-locals-i c = omega (arith, c.loop-i-test.true, c.requires.1.binding_count_lem, (limits _ c.requires.0).bindings, c.loop-i.invariant.kept, c.requires.2)

pub loop-i-preserved : goal.loop-i-preserved
loop-i-preserved c = type_more_lem c.args.image.now c.loop-i.invariant (limits _ c.requires.0).bindings c.requires.2 (omega (arith, c.loop-i-test.true, c.requires.1.binding_count_lem)) c.binding_at.ensures

pub returns : goal.returns
returns c = type_end c.args.image.now c.loop-i.invariant (omega (arith, c.loop-i-test.false, c.requires.1.binding_count_lem))
