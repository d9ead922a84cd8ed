use native.Mathlib.Omega.{arith}
use Rattle.fit_shapes.proofs.Fielding.{variant_absent, variant_foreign, variant_inside, variant_own}
use Rattle.fit_shapes.proofs.fields.variant_fields.Goals as goal

pub returns-then-v-eq65535 : goal.returns-then-v-eq65535
returns-then-v-eq65535 c = variant_absent _ _ _ c.if-v-eq65535.true

pub has_variant-requires : goal.has_variant-requires
has_variant-requires c = (c.requires.0, c.requires.1, c.requires.2)

pub returns-then-not-has_variant : goal.returns-then-not-has_variant
returns-then-not-has_variant c = variant_foreign _ _ _ c.if-v-eq65535.false c.has_variant.ensures (c.if-not-has_variant.true)

pub variant_at-row-requires : goal.variant_at-row-requires
variant_at-row-requires c = (c.requires.1, omega (arith, c.requires.1.variant_count_lem, variant_inside _ _ c.if-v-eq65535.false c.requires.3))

pub returns : goal.returns
returns c = variant_own _ _ _ c.if-v-eq65535.false c.has_variant.ensures (c.if-not-has_variant.false) c.variant_at-row.ensures c.requires.0 (variant_inside _ _ c.if-v-eq65535.false c.requires.3)
