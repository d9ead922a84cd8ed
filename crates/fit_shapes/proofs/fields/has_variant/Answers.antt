use native.Mathlib.Omega.{arith}
use Rattle.fit_shapes.proofs.Fielding.{variant_other, variant_before, variant_within}
use Rattle.fit_shapes.proofs.fields.has_variant.Goals as goal

pub type_at-row-requires : goal.type_at-row-requires
type_at-row-requires c = (c.requires.1, omega (arith, c.requires.1.type_count_lem, c.requires.2))

pub returns-then-row-ne6 : goal.returns-then-row-ne6
returns-then-row-ne6 c = variant_other _ _ c.type_at-row.ensures c.requires.0 c.requires.2 _ c.if-row-ne6.true

pub returns-then-v-row : goal.returns-then-v-row
returns-then-v-row c = variant_before _ _ _ c.type_at-row.ensures c.if-row-ne6.false c.if-v-row.true

pub returns : goal.returns
returns c = variant_within _ _ _ c.type_at-row.ensures c.if-row-ne6.false c.if-v-row.false
