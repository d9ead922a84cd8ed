use mathlib.Core.Path.{sym, ◌∙◌}
use Rattle.std.proofs.Math.Nat.{sub-add-eq, sub-eq-zero_of_le}
use Rattle.fit_shapes.proofs.Fielding.{some_left}
use Rattle.fit_variants.proofs.Apart.{stands_here, stands_next, stands_end}
use Rattle.fit_variants.proofs.discriminants.discriminant_stands.Goals as goal

pub returns-then-same_discriminant : goal.returns-then-same_discriminant
returns-then-same_discriminant c = stands_here _ _ _ _ (some_left c.loop-v-test.true) c.discriminant_of-other.ensures c.same_discriminant.ensures c.if-same_discriminant.true ∙ sym c.loop-v.invariant

pub loop-v-preserved : goal.loop-v-preserved
loop-v-preserved c = rw sub-add-eq (c.loop-v.invariant ∙ stands_next _ _ _ _ (some_left c.loop-v-test.true) c.discriminant_of-other.ensures c.same_discriminant.ensures c.if-same_discriminant.false)

pub returns : goal.returns
returns c = stands_end _ _ _ _ (sub-eq-zero_of_le c.loop-v-test.false) ∙ sym c.loop-v.invariant
