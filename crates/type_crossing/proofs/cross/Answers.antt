use mathlib.Core.Path.{◌≡◌}
use native.Mathlib.Omega.{arith}
use Rattle.type_crossing.proofs.Crossings.{none_crossed, no_reference, reference_crossed, all_crossed}
use Rattle.type_crossing.proofs.cross.Goals as goal

pub loop-derefs-init : goal.loop-derefs-init
loop-derefs-init c = none_crossed _ _ _

pub returns-then-row-ne7 : goal.returns-then-row-ne7
returns-then-row-ne7 c = no_reference _ _ _ c.loop-derefs.invariant c.loop-derefs-test.true c.type_in-row.ensures c.if-row-ne7.true

pub loop-derefs-preserved : goal.loop-derefs-preserved
loop-derefs-preserved c = reference_crossed _ _ _ c.loop-derefs.invariant c.loop-derefs-test.true c.type_in-row.ensures c.if-row-ne7.false c.behind_reference-behind.ensures

pub returns : goal.returns
returns c =
    let all : c.loop-derefs.derefs ≡ 257 = omega (arith, c.loop-derefs.invariant.within, c.loop-derefs-test.false) in
    rw all at (all_crossed _ _ _ c.loop-derefs.invariant c.loop-derefs-test.false)
