use Rattle.listing_text.specs.Words.{block_word, newline}
use Rattle.listing_text.specs.Numbers.{decimal}
use Rattle.listing_text.specs.Listing.{block_text}
use Rattle.listing_text.proofs.Pieces.{and_then_lem, three_then}
use Rattle.listing_blocks.proofs.put_block.Goals as goal

pub returns : goal.returns
unfolding block_text block_word
returns c = three_then block_word (decimal c.args.b.0) newline c.put_line-begun.ensures (and_then_lem c.put_statements-lines.ensures c.put_terminator.ensures)
