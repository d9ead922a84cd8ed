use Rattle.listing_text.proofs.Pieces.{and_then_lem}
use Rattle.listing_text.proofs.numbers.put_numbered.Goals as goal

pub returns : goal.returns
returns c = and_then_lem c.put-begun.ensures c.put_decimal.ensures
