use borrow.Enum.Refused.{opened}
use borrow.Author.Rules.{rules}
use Rattle.place.specs.PlaceTypes.{adt_field_ty}
use Rattle.place.proofs.Ranges.{first_of_range}
use Rattle.place.proofs.Defaults.{no_adt_field}
use Rattle.place_parts.proofs.adt_field_ty.Goals as goal

pub variant_field-requires : goal.variant_field-requires
variant_field-requires c = c.requires

pub variant_field-requires-in-Union : goal.variant_field-requires-in-Union
variant_field-requires-in-Union c = c.requires

pub returns-in-Struct : goal.returns-in-Struct
unfolding adt_field_ty
returns-in-Struct c count some = rw (c.in-Struct.is, first_of_range c.args.v count some) c.variant_field.ensures

pub returns-in-Union : goal.returns-in-Union
unfolding adt_field_ty
returns-in-Union c count some = rw (c.in-Union.is, first_of_range c.args.v count some) c.variant_field-in-Union.ensures

pub returns-in_default : goal.returns-in_default
returns-in_default c count some = no_adt_field _ _ _ _ c.in_default.in_default-own.keys3
