use borrow.Enum.Refused.{opened}
use borrow.Author.Rules.{rules}
use native.Mathlib.Omega.{arith}
use Rattle.place.specs.PlaceTypes.{field_ty}
use Rattle.image.specs.Types.{shape_by}
use Rattle.image.proofs.Known.{tuple_listed, adt_variants_lem}
use Rattle.place.proofs.Defaults.{no_field_lem}
use Rattle.place_parts.proofs.field_ty.Goals as goal

pub field_of-requires : goal.field_of-requires
field_of-requires c = (c.requires.0, tuple_listed _ _ c.in-Tuple.is c.requires.2)

pub adt_field_ty-requires : goal.adt_field_ty-requires
adt_field_ty-requires c =
    let variants = adt_variants_lem _ _ c.in-Adt.is c.requires.2 in
    (c.requires.0, c.requires.1, omega (arith, variants.0, variants.1))

pub returns-in-Tuple : goal.returns-in-Tuple
unfolding field_ty shape_by
returns-in-Tuple c = rw c.in-Tuple.is c.field_of.ensures

pub returns-in-Adt : goal.returns-in-Adt
unfolding field_ty shape_by
returns-in-Adt c = rw (c.in-Adt.is, ← c.from.ensures) (c.adt_field_ty.ensures _ (adt_variants_lem _ _ c.in-Adt.is c.requires.2).0)

pub returns-in_default : goal.returns-in_default
returns-in_default c = no_field_lem _ _ _ _ (opened c.in_default.in_default-own.keys3)
