use borrow.Enum.Refused.{opened}
use borrow.Author.Rules.{rules}
use Rattle.place.specs.PlaceTypes.{projection_ty}
use Rattle.place.proofs.Defaults.{leads_nowhere}
use Rattle.place_types.proofs.projection_ty.Goals as goal

pub ty_projection-requires : goal.ty_projection-requires
ty_projection-requires c = (c.requires.0, c.requires.1, rw c.in-Ty.is at c.requires.2)

pub variant_projection-requires : goal.variant_projection-requires
variant_projection-requires c =
    let named = rw c.in-Variant.is at c.requires.2 in
    (c.requires.0, c.requires.1, named.1)

pub returns-in-Ty : goal.returns-in-Ty
unfolding projection_ty
returns-in-Ty c = rw c.in-Ty.is c.ty_projection.ensures

pub returns-in-Variant : goal.returns-in-Variant
unfolding projection_ty
returns-in-Variant c = rw c.in-Variant.is c.variant_projection.ensures

pub returns-in-Part : goal.returns-in-Part
unfolding projection_ty
returns-in-Part c = rw c.in-Part.is c.part_projection.ensures

pub returns-in_default : goal.returns-in_default
returns-in_default c = leads_nowhere _ _ _ (opened c.in_default.in_default-own.keys4)
