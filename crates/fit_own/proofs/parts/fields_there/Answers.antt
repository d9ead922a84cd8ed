use Prim.Native.Nat.{◌+◌, ◌*◌}
use mathlib.Core.Path.{◌≡◌, sym, ◌∙◌}
use Rattle.std.proofs.Math.Nat.{sub-add-eq, sub-eq-zero_of_le}
use Rattle.fit_shapes.proofs.Fielding.{some_left}
use native.Mathlib.Omega.{arith}
use Rattle.fit_own.proofs.Wording.{fields_end, field_missing, field_next}
use Rattle.fit_own.proofs.parts.fields_there.Goals as goal

pub returns-then-fields-list_at : goal.returns-then-fields-list_at
returns-then-fields-list_at c = field_missing _ _ _ _ (some_left c.loop-k-test.true) c.list_at.ensures c.if-fields-list_at.true ∙ sym c.loop-k.invariant

pub loop-k-preserved : goal.loop-k-preserved
loop-k-preserved c =
    let on : c.args.at + 2 * (c.loop-k.k + 1) ≡ c.args.at + 2 * c.loop-k.k + 2 = omega arith in
    rw (on, sub-add-eq) (c.loop-k.invariant ∙ field_next _ _ _ _ (some_left c.loop-k-test.true) c.list_at.ensures c.if-fields-list_at.false (omega (arith, c.well_formed)))

pub returns : goal.returns
returns c = fields_end _ _ _ _ (sub-eq-zero_of_le c.loop-k-test.false) ∙ sym c.loop-k.invariant
