use Prim.Native.Nat.{◌<◌}
use mathlib.Core.Path.{ap}
use native.Mathlib.Omega.{arith}
use lib.ListN.{length}
use Rattle.image.specs.Tables.{type_count}
use Rattle.image.proofs.Bools.{below_at}
use Rattle.image_marks.proofs.Adts.{adts_start, adts_more, adts_refused, adts_end}
use Rattle.image_marks.proofs.take_adts.Goals as goal

pub loop-t-init : goal.loop-t-init
loop-t-init c = adts_start _ c.requires.1 c.requires.2 c.requires.3

pub take_variants-requires : goal.take_variants-requires
take_variants-requires c =
    let known = c.requires in
    let long = ap length known.1 in
    let lt : c.loop-t.t < type_count c.args.image.now = omega (arith, known.0.type_count_lem) in
    (known.0, lt, omega arith, known.2, below_at _ _ _ known.3 lt)

pub returns-then-not-take_variants : goal.returns-then-not-take_variants
returns-then-not-take_variants c = adts_refused _ _ _ c.loop-t.invariant (omega (arith, c.requires.0.type_count_lem)) c.if-not-take_variants.true c.take_variants.ensures

pub loop-t-preserved : goal.loop-t-preserved
loop-t-preserved c = adts_more _ _ _ c.loop-t.invariant (omega (arith, c.requires.0.type_count_lem)) c.if-not-take_variants.false c.take_variants.ensures

pub returns : goal.returns
returns c = adts_end _ _ _ c.loop-t.invariant (omega (arith, c.requires.0.type_count_lem))
