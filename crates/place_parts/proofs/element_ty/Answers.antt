use borrow.Enum.Refused.{opened}
use borrow.Author.Rules.{rules}
use Rattle.place.specs.PlaceTypes.{element_ty}
use Rattle.image.specs.Types.{shape_by}
use Rattle.place.proofs.Defaults.{no_element}
use Rattle.place_parts.proofs.element_ty.Goals as goal

pub returns-in-Array : goal.returns-in-Array
unfolding element_ty shape_by
returns-in-Array c image = rw c.in-Array.is

pub returns-in-Slice : goal.returns-in-Slice
unfolding element_ty shape_by
returns-in-Slice c image = rw c.in-Slice.is

pub returns-in_default : goal.returns-in_default
returns-in_default c image = no_element image _ _ (opened c.in_default.in_default-own.keys3)
