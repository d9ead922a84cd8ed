use lib.ListN.{get_or}
use Rattle.views.specs.Views.{path_of}
use Rattle.listing_text.specs.Listing.{place_text}
use Rattle.listing_text.proofs.Pieces.{and_then_lem}
use Rattle.listing_text.proofs.Loops.{going_start, going_more, going_end}
use Rattle.listing_places.proofs.Texts.{elems_begin, elems_more, elems_end}
use Rattle.listing_places.proofs.places.put_place.Goals as goal

pub loop-j-init : goal.loop-j-init
loop-j-init c = going_start c.put_decimal-written.ensures (elems_begin c.args.row.now (get_or c.args.row.now 16 0))

pub loop-j-preserved : goal.loop-j-preserved
loop-j-preserved c = going_more c.loop-j.invariant c.put_elem-written.ensures c.put_elem-written.auto.out (elems_more c.args.row.now (get_or c.args.row.now 16 0) c.loop-j.j c.elem_at.result c.loop-j-test.true c.elem_at.ensures)

pub returns : goal.returns
unfolding place_text path_of
returns c = and_then_lem c.put_decimal-written.ensures (going_end c.loop-j.invariant (elems_end c.args.row.now (get_or c.args.row.now 16 0) c.loop-j.j c.loop-j-test.false))
