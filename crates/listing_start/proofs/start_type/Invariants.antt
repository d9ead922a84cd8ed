use Rattle.listing_start.proofs.Leading.{Trying}
use Rattle.listing_start.proofs.start_type.Given as goal

abbrev pub invariant-loop-t : goal.invariant-loop-t
invariant-loop-t l = Trying l.image l.row l.t
