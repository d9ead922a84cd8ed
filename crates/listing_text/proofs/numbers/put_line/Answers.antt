use mathlib.Core.List.{append_assoc}
use Rattle.listing_text.specs.Words.{newline}
use Rattle.listing_text.proofs.Pieces.{and_then_lem}
use Rattle.listing_text.proofs.numbers.put_line.Goals as goal

pub returns : goal.returns
unfolding newline
returns c = rw append_assoc at (and_then_lem c.put_numbered-begun.ensures c.put.ensures)
