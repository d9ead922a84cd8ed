use Prim.Native.Nat.{◌/◌, ◌%◌}
use Rattle.listing_text.proofs.Digits.{two_digits}
use Rattle.listing_text.proofs.numbers.put_low_byte.Goals as goal

pub returns : goal.returns
returns c = two_digits (c.args.n % 256 / 16) (c.args.n % 16) c.hex_digit.ensures c.put_byte-high.ensures c.hex_digit-2.ensures c.put_byte.ensures
