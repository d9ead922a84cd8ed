use Rattle.listing_text.specs.Words.{local_word, space, newline}
use Rattle.listing_text.specs.Numbers.{decimal}
use Rattle.listing_text.specs.Listing.{local_text}
use Rattle.listing_text.proofs.Pieces.{and_then_lem, two_then}
use Rattle.listing_places.proofs.locals.put_local.Goals as goal

pub returns : goal.returns
unfolding local_text local_word space newline
returns c = two_then local_word (decimal c.args.l.0) c.put_numbered-number.ensures (and_then_lem c.put-begun.ensures (and_then_lem c.put_local_ty-ended.ensures c.put.ensures))
