use Rattle.listing_text.proofs.Loops.{Going}
use Rattle.listing_places.proofs.Texts.{locals_from}
use Rattle.listing_places.proofs.locals.put_locals.Given as goal

abbrev pub invariant-loop-i : goal.invariant-loop-i
invariant-loop-i l = Going l.initial.out l.initial.written (locals_from l.locals l.count 0) (locals_from l.locals l.count l.i) l.written l.out
