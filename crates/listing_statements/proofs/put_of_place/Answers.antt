use borrow.Author.Rules.{rules}
use Rattle.listing_text.proofs.Pieces.{and_then_lem}
use Rattle.listing_statements.proofs.put_of_place.Goals as goal

pub returns : goal.returns
returns c = and_then_lem c.put-begun.ensures c.put_place.ensures
