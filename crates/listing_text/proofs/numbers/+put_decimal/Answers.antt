use native.Mathlib.Omega.{arith}
use Rattle.listing_text.proofs.Digits.{one_decimal, more_decimal}
use Rattle.listing_text.proofs.numbers.+put_decimal.Goals as goal

pub returns-then-n-lt10 : goal.returns-then-n-lt10
returns-then-n-lt10 t c = one_decimal c.args.n c.if-n-lt10.true c.put_byte.ensures

pub put_decimal-high-requires : goal.put_decimal-high-requires
put_decimal-high-requires t c = (omega (arith, c.decreases, c.if-n-lt10.false), tt)

pub returns : goal.returns
returns t c = more_decimal c.args.n c.if-n-lt10.false c.ranges.n.fits c.put_decimal-high.ensures c.put_byte-2.ensures
