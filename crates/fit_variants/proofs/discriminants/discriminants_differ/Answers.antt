use borrow.Enum.Refused.{opened}
use mathlib.Core.Path.{refl, sym, ◌∙◌}
use native.Mathlib.Omega.{arith}
use Rattle.image.specs.declared.kinds.AdtKind.{AdtKind}
use Rattle.meaning.specs.Fit.{discriminants_differ}
use Rattle.fit_variants.specs.Discriminants.{discriminants}
use Rattle.fit_shapes.proofs.Shaped.{no_enum, adt_inside}
use Rattle.fit_variants.proofs.Apart.{differ_by}
use Rattle.fit_variants.proofs.Defaults.{no_discriminants}
use Rattle.fit_variants.proofs.discriminants.discriminants_differ.Goals as goal

pub type_at-row-requires : goal.type_at-row-requires
type_at-row-requires c = (c.requires.1, omega (arith, c.requires.1.type_count_lem, c.requires.2))

pub returns-then-row-ne6 : goal.returns-then-row-ne6
returns-then-row-ne6 c = sym (no_enum _ _ c.type_at-row.ensures c.requires.0 c.requires.2 c.if-row-ne6.true)

pub discriminants_apart-requires : goal.discriminants_apart-requires
discriminants_apart-requires c = (c.requires.0, c.requires.1, adt_inside _ _ c.type_at-row.ensures c.requires.0 c.requires.2 c.if-row-ne6.false)

pub returns-in-Enum : goal.returns-in-Enum
unfolding discriminants_differ discriminants
returns-in-Enum c = c.discriminants_apart.ensures ∙ differ_by _ _ AdtKind.Enum c.type_at-row.ensures c.if-row-ne6.false c.from.ensures c.in-Enum.is

pub returns-in_default : goal.returns-in_default
returns-in_default c = no_discriminants _ _ _ (opened c.in_default.in_default-own.keys2) ∙ differ_by _ _ _ c.type_at-row.ensures c.if-row-ne6.false c.from.ensures refl
