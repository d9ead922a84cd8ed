use borrow.Author.Tests.{le-leb, lt-leb}
use Rattle.listing_text.specs.Numbers.{constant_bytes}
use Rattle.listing_text.proofs.Pieces.{and_then_lem}
use Rattle.listing_text.proofs.numbers.put_constant_bytes.Goals as goal

pub returns-then-count-le8 : goal.returns-then-count-le8
unfolding constant_bytes
returns-then-count-le8 c = rw (le-leb _ 8 c.if-count-le8.true) c.put_hex_bytes.ensures

pub returns : goal.returns
unfolding constant_bytes
returns c = rw (lt-leb _ 8 c.if-count-le8.false) (and_then_lem c.put_hex_bytes-begun.ensures c.put_hex_bytes-2.ensures)
