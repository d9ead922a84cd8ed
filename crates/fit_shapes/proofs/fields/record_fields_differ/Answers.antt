use Prim.Native.Nat.{◌+◌, ◌*◌}
use mathlib.Core.Path.{◌≡◌, sym, ◌∙◌}
use Rattle.std.proofs.Math.Nat.{sub-add-eq, sub-eq-zero_of_le}
use native.Mathlib.Omega.{arith}
use Rattle.fit_shapes.proofs.Fielding.{differ_again, differ_next, differ_end, some_left}
use Rattle.fit_shapes.proofs.fields.record_fields_differ.Goals as goal

pub returns-then-stands_again : goal.returns-then-stands_again
returns-then-stands_again c = differ_again _ _ _ (some_left c.loop-k-test.true) c.list_at-f.ensures (sym c.stands_again.ensures ∙ c.if-stands_again.true) ∙ sym c.loop-k.invariant

pub loop-k-preserved : goal.loop-k-preserved
loop-k-preserved c =
    let on : c.args.from + 2 * (c.loop-k.k + 1) ≡ c.args.from + 2 * c.loop-k.k + 2 = omega arith in
    rw (on, sub-add-eq) (c.loop-k.invariant ∙ differ_next _ _ _ (some_left c.loop-k-test.true) c.list_at-f.ensures (sym c.stands_again.ensures ∙ c.if-stands_again.false))

pub returns : goal.returns
returns c = differ_end _ _ _ (sub-eq-zero_of_le c.loop-k-test.false) ∙ sym c.loop-k.invariant
