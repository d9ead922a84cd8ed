use Prim.Native.Nat.{◌+◌}
use mathlib.Core.Path.{◌≡◌, sym, ◌∙◌}
use Rattle.std.proofs.Math.Nat.{sub-add-eq, sub-eq-zero_of_le}
use Rattle.fit_shapes.proofs.Fielding.{some_left}
use native.Mathlib.Omega.{arith}
use Rattle.fit_variants.proofs.Apart.{apart_again, apart_next, apart_end}
use Rattle.fit_variants.proofs.discriminants.discriminants_apart.Goals as goal

pub returns-then-discriminant_stands : goal.returns-then-discriminant_stands
returns-then-discriminant_stands c = apart_again _ _ _ (some_left c.loop-k-test.true) c.discriminant_of-d.ensures c.discriminant_stands.ensures c.if-discriminant_stands.true ∙ sym c.loop-k.invariant

pub loop-k-preserved : goal.loop-k-preserved
loop-k-preserved c =
    let on : c.args.from + (c.loop-k.k + 1) ≡ c.args.from + c.loop-k.k + 1 = omega arith in
    rw (on, sub-add-eq) (c.loop-k.invariant ∙ apart_next _ _ _ (some_left c.loop-k-test.true) c.discriminant_of-d.ensures c.discriminant_stands.ensures c.if-discriminant_stands.false)

pub returns : goal.returns
returns c = apart_end _ _ _ (sub-eq-zero_of_le c.loop-k-test.false) ∙ sym c.loop-k.invariant
