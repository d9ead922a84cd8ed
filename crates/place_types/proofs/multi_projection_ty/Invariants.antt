use Rattle.place.proofs.Far.{Far}
use Rattle.place_types.proofs.multi_projection_ty.Given as goal

abbrev pub invariant-loop-elem : goal.invariant-loop-elem
invariant-loop-elem l = Far l.image l.initial.here l.elem-items l.here l.elem-index
