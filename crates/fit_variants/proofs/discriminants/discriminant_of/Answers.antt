use native.Mathlib.Omega.{arith}
use Rattle.fit_variants.proofs.Apart.{discriminant_lies, halves_are}
use Rattle.fit_variants.proofs.discriminants.discriminant_of.Goals as goal

pub variant_at-row-requires : goal.variant_at-row-requires
variant_at-row-requires c = (c.requires.1, omega (arith, c.requires.1.variant_count_lem, c.requires.2))

pub overflow_cast-at-2 : goal.overflow_cast-at-2
overflow_cast-at-2 c = omega arith

pub half-requires : goal.half-requires
half-requires c = (omega (arith, discriminant_lies _ _ c.variant_at-row.ensures c.requires.0 c.requires.1 c.requires.2), omega arith)

pub half-requires-2 : goal.half-requires-2
half-requires-2 c = (omega (arith, discriminant_lies _ _ c.variant_at-row.ensures c.requires.0 c.requires.1 c.requires.2), omega arith)

pub returns : goal.returns
returns c = halves_are _ _ c.variant_at-row.ensures c.requires.1 (discriminant_lies _ _ c.variant_at-row.ensures c.requires.0 c.requires.1 c.requires.2) c.half.ensures c.half-2.ensures
