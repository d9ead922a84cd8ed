use borrow.Enum.Refused.{opened}
use borrow.Author.Rules.{rules}
use Rattle.place.specs.PlaceTypes.{downcast_ty}
use Rattle.image.specs.Types.{shape_by}
use Rattle.place.proofs.Defaults.{no_variant}
use Rattle.place_parts.proofs.downcast_ty.Goals as goal

pub returns-in-Adt : goal.returns-in-Adt
unfolding downcast_ty shape_by
returns-in-Adt c image = rw (c.in-Adt.is, ← c.from.ensures) c.adt_downcast_ty.ensures

pub returns-in_default : goal.returns-in_default
returns-in_default c image = no_variant image _ _ _ _ (opened c.in_default.in_default-own.keys2)
