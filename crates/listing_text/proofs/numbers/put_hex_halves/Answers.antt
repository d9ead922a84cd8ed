use borrow.Author.Tests.{eq-eqb, ne_eqb}
use Rattle.listing_text.specs.Numbers.{hex_halves}
use Rattle.listing_text.proofs.Pieces.{and_then_lem}
use Rattle.listing_text.proofs.numbers.put_hex_halves.Goals as goal

pub returns-then-high-eq0 : goal.returns-then-high-eq0
unfolding hex_halves
returns-then-high-eq0 c = rw (eq-eqb _ 0 c.if-high-eq0.true) c.put_hex.ensures

pub returns : goal.returns
unfolding hex_halves
returns c = rw (ne_eqb _ 0 c.if-high-eq0.false) (and_then_lem c.put_hex-begun.ensures c.put_hex_digits.ensures)
