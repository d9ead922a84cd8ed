use native.Mathlib.Omega.{arith}
use Rattle.listing_text.proofs.Digits.{one_hex, more_hex}
use Rattle.listing_text.proofs.numbers.+put_hex.Goals as goal

pub returns-then-n-lt16 : goal.returns-then-n-lt16
returns-then-n-lt16 t c = one_hex c.args.n c.if-n-lt16.true c.hex_digit.ensures c.put_byte.ensures

pub put_hex-high-requires : goal.put_hex-high-requires
put_hex-high-requires t c = (omega (arith, c.decreases, c.if-n-lt16.false), tt)

pub returns : goal.returns
returns t c = more_hex c.args.n c.if-n-lt16.false c.ranges.n.fits c.hex_digit-2.ensures c.put_hex-high.ensures c.put_byte-2.ensures
