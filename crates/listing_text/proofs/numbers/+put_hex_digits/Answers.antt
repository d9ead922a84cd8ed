use native.Mathlib.Omega.{arith}
use Rattle.listing_text.proofs.Digits.{no_hex_digits, more_hex_digits}
use Rattle.listing_text.proofs.numbers.+put_hex_digits.Goals as goal

pub returns-then-digits-eq0 : goal.returns-then-digits-eq0
returns-then-digits-eq0 t c = no_hex_digits c.args.digits c.args.n c.if-digits-eq0.true c.put.ensures

pub overflow_sub-digits : goal.overflow_sub-digits
overflow_sub-digits t c = omega (arith, c.if-digits-eq0.false)

pub put_hex_digits-high-requires : goal.put_hex_digits-high-requires
put_hex_digits-high-requires t c = (omega (arith, c.decreases, c.if-digits-eq0.false), tt)

pub returns : goal.returns
returns t c = more_hex_digits c.args.digits c.args.n c.if-digits-eq0.false c.hex_digit.ensures c.put_hex_digits-high.ensures c.put_byte.ensures
