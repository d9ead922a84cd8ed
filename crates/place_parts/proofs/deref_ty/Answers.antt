use borrow.Enum.Refused.{opened}
use borrow.Author.Rules.{rules}
use Rattle.place.specs.PlaceTypes.{deref_ty}
use Rattle.image.specs.Types.{shape_by}
use Rattle.place.proofs.Defaults.{no_deref}
use Rattle.place_parts.proofs.deref_ty.Goals as goal

pub returns-in-Reference : goal.returns-in-Reference
unfolding deref_ty shape_by
returns-in-Reference c image = rw c.in-Reference.is

pub returns-in_default : goal.returns-in_default
returns-in_default c image = no_deref image _ _ (opened c.in_default.in_default-own.keys2)
