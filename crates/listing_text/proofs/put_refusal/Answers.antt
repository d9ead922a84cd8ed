use Rattle.listing_text.specs.Words.{refused_word, space}
use Rattle.listing_text.specs.Numbers.{decimal}
use Rattle.listing_text.specs.Listing.{refusal_text}
use Rattle.listing_text.proofs.Pieces.{two_then}
use Rattle.listing_text.proofs.put_refusal.Goals as goal

pub returns : goal.returns
unfolding refusal_text refused_word space
returns c = two_then refused_word (decimal c.args.number) c.put_numbered-first.ensures (two_then space (decimal c.args.pattern.0) c.put_numbered-second.ensures c.put_line.ensures)
