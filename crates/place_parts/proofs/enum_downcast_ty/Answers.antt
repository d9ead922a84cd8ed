use Rattle.place.specs.PlaceTypes.{adt_downcast_ty}
use Rattle.place.proofs.Ranges.{before_range, past_range, in_range_lem}
use Rattle.place_parts.proofs.enum_downcast_ty.Goals as goal

pub returns-then-v-from : goal.returns-then-v-from
unfolding adt_downcast_ty
returns-then-v-from c = rw (before_range _ _ _ c.if-v-from.true)

pub returns-then-count-v : goal.returns-then-count-v
unfolding adt_downcast_ty
returns-then-count-v c = rw (past_range _ _ _ c.if-v-from.false c.if-count-v.true)

pub returns : goal.returns
unfolding adt_downcast_ty
returns c = rw (in_range_lem _ _ _ c.if-v-from.false c.if-count-v.false)
