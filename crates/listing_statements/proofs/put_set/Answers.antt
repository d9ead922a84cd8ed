use borrow.Author.Rules.{rules}
use lib.ListN.{get_or}
use Rattle.listing_text.specs.Words.{set_word, space, newline}
use Rattle.listing_text.specs.Numbers.{decimal}
use Rattle.listing_text.specs.Listing.{statement_text}
use Rattle.listing_text.proofs.Pieces.{and_then_lem, two_then}
use Rattle.listing_statements.proofs.put_set.Goals as goal

pub returns : goal.returns
unfolding statement_text set_word space newline
returns c = two_then set_word (decimal (get_or c.args.row.now 2 0)) c.put_numbered-target.ensures (and_then_lem c.put-begun.ensures (and_then_lem c.put_rvalue-ended.ensures c.put.ensures))
