use Prim.Native.Nat.{◌-◌}
use Rattle.listing_text.specs.Numbers.{hex_bytes}
use Rattle.listing_text.proofs.Loops.{Going}
use Rattle.listing_text.proofs.numbers.put_hex_bytes.Given as goal

abbrev pub invariant-loop : goal.invariant-loop
invariant-loop l = Going l.initial.out l.initial.written (hex_bytes l.count l.n) (hex_bytes (l.count - l.counter) l.left) l.written l.out
