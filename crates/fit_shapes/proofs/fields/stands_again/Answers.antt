use Prim.Native.Nat.{◌+◌, ◌*◌}
use mathlib.Core.Path.{◌≡◌, sym, ◌∙◌}
use Rattle.std.proofs.Math.Nat.{sub-add-eq, sub-eq-zero_of_le}
use native.Mathlib.Omega.{arith}
use Rattle.fit_shapes.proofs.Fielding.{again_absent, again_there, again_here, again_next, again_end, some_left}
use Rattle.fit_shapes.proofs.fields.stands_again.Goals as goal

pub returns-then-f-eq65535 : goal.returns-then-f-eq65535
returns-then-f-eq65535 c = again_absent _ _ c.if-f-eq65535.true

pub returns-then-list_at-f : goal.returns-then-list_at-f
returns-then-list_at-f c = again_here _ _ _ (some_left c.loop-k-test.true) c.list_at.ensures c.if-list_at-f.true c.if-f-eq65535.false ∙ sym c.loop-k.invariant ∙ again_there _ _ c.if-f-eq65535.false

pub loop-k-preserved : goal.loop-k-preserved
loop-k-preserved c =
    let on : c.args.from + 2 * (c.loop-k.k + 1) ≡ c.args.from + 2 * c.loop-k.k + 2 = omega arith in
    rw (on, sub-add-eq) (c.loop-k.invariant ∙ again_next _ _ _ (some_left c.loop-k-test.true) c.list_at.ensures c.if-list_at-f.false)

pub returns : goal.returns
returns c = again_end _ _ _ _ (sub-eq-zero_of_le c.loop-k-test.false) ∙ sym c.loop-k.invariant ∙ again_there _ _ c.if-f-eq65535.false
