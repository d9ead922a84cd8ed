use native.Mathlib.Omega.{arith}
use mathlib.Core.Path.{◌≡◌, refl}
use Prim.Native.Nat.{suc, ◌-◌}
use Rattle.node_typing.proofs.Passing.{pass_begins, row_passed, pass_ends}
use Rattle.node_typing.proofs.type_rows.Goals as goal

pub loop-i-init : goal.loop-i-init
loop-i-init c = (pass_begins _ _ _ _ _ _ _ _ _ c.requires.3.0 refl c.requires.3.1, c.requires.1.makings_long, c.requires.1.waiting_long)

pub type_row-row-requires : goal.type_row-row-requires
type_row-row-requires c = (c.requires.0, record { nodes_long = c.requires.1.nodes_long; makings_long = c.loop-i.invariant.1; waiting_long = c.loop-i.invariant.2 }, omega (arith, c.loop-i.invariant.0.within, c.requires.2, c.loop-i-test.true), omega (arith, c.loop-i.invariant.0.deep, c.requires.2, c.loop-i-test.true), c.loop-i.invariant.0.known)

pub loop-i-preserved : goal.loop-i-preserved
loop-i-preserved c =
    let up : c.loop-i.i ≡ suc (c.loop-i.i - 1) = omega (arith, c.loop-i-test.true) in
    (row_passed _ _ _ _ _ _ c.requires.0.holds (c.loop-i.i - 1) (rw up at c.loop-i.invariant.0) c.type_row-row.ensures c.first_refused-refused.ensures, omega (arith, c.type_row-row.auto, c.loop-i.invariant.1), omega (arith, c.type_row-row.auto, c.loop-i.invariant.2))

pub returns : goal.returns
returns c =
    let none : c.loop-i.i ≡ 0 = omega (arith, c.loop-i-test.false) in
    pass_ends _ _ _ _ _ _ (rw none at c.loop-i.invariant.0) _ _ refl
