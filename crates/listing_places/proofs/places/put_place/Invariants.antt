use Rattle.views.specs.Views.{elems_at}
use Rattle.listing_text.specs.Listing.{elems_text}
use Rattle.listing_text.proofs.Loops.{Going}
use Rattle.listing_places.proofs.Texts.{elems_from}
use Rattle.listing_places.proofs.places.put_place.Given as goal

abbrev pub invariant-loop-j : goal.invariant-loop-j
invariant-loop-j l = Going l.initial.out l.initial.written (elems_text (elems_at l.row 17 l.count)) (elems_from l.row l.count l.j) l.written l.out
