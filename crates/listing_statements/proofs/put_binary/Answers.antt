use borrow.Author.Rules.{rules}
use Rattle.listing_text.specs.Words.{and_copy_word}
use Rattle.listing_text.proofs.Pieces.{and_then_lem}
use Rattle.listing_statements.proofs.put_binary.Goals as goal

pub returns : goal.returns
unfolding and_copy_word
returns c = and_then_lem c.put-begun.ensures (and_then_lem c.put_left-left.ensures c.put_of_place.ensures)
