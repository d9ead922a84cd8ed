use Rattle.listing_start.proofs.Leading.{Leading}
use Rattle.listing_start.proofs.leads_to.Given as goal

abbrev pub invariant-loop : goal.invariant-loop
invariant-loop l = Leading l.image l.t l.derefs l.here l.counter
