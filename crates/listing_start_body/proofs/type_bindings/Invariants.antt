use Rattle.listing_start_body.proofs.Filling.{Typing}
use Rattle.listing_start_body.proofs.type_bindings.Given as goal

abbrev pub invariant-loop-i : goal.invariant-loop-i
invariant-loop-i l = Typing l.image l.initial.locals l.i l.locals
