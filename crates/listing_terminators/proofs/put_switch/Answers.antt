use borrow.Author.Rules.{rules}
use Rattle.listing_text.specs.Words.{switch_word, space}
use Rattle.listing_text.specs.Numbers.{decimal}
use Rattle.listing_text.specs.Listing.{terminator_text}
use Rattle.listing_text.proofs.Pieces.{and_then_lem, two_then}
use Rattle.listing_terminators.proofs.put_switch.Goals as goal

pub returns : goal.returns
unfolding terminator_text switch_word space
returns c = two_then switch_word (decimal c.args.local.0) c.put_numbered-tested.ensures (and_then_lem c.put-begun.ensures (and_then_lem c.put_hex_halves-value.ensures (two_then space (decimal c.args.then.0) c.put_numbered-first.ensures c.put_line.ensures)))
