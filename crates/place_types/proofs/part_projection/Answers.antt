use borrow.Enum.Refused.{opened}
use borrow.Author.Rules.{rules}
use Rattle.place.specs.PlaceTypes.{part_projection}
use Rattle.place.proofs.Defaults.{not_of_part}
use Rattle.place_types.proofs.part_projection.Goals as goal

pub returns-in-Index : goal.returns-in-Index
unfolding part_projection
returns-in-Index c = rw c.in-Index.is

pub returns-in-IndexFromEnd : goal.returns-in-IndexFromEnd
unfolding part_projection
returns-in-IndexFromEnd c = rw c.in-IndexFromEnd.is

pub returns-in-Subslice : goal.returns-in-Subslice
unfolding part_projection
returns-in-Subslice c = rw c.in-Subslice.is

pub returns-in_default : goal.returns-in_default
returns-in_default c = not_of_part _ _ (opened c.in_default.in_default-own.keys4)
