-- Four bytes, read as a number. Assumes nothing.
use Prim.Native.Nat.{ℕ, ◌+◌, ◌*◌}
use mathlib.Core.Path.{◌≡◌}
use mathlib.Core.List.{List, [], ◌∷◌}
use native.Mathlib.Omega.{arith}
use lib.ListN.{length, get_or}
use Rattle.image.specs.Bytes.{little_endian}

pub little_endian_four : (bytes : List ℕ) → length bytes ≡ 4 → get_or bytes 0 0 + 256 * (get_or bytes 1 0 + 256 * (get_or bytes 2 0 + 256 * get_or bytes 3 0)) ≡ little_endian bytes
unfolding little_endian
little_endian_four [] e = absurd (omega arith)
little_endian_four (a ∷ []) e = absurd (omega arith)
little_endian_four (a ∷ b ∷ []) e = absurd (omega arith)
little_endian_four (a ∷ b ∷ c ∷ []) e = absurd (omega arith)
little_endian_four (a ∷ b ∷ c ∷ d ∷ []) e = omega arith
little_endian_four (a ∷ b ∷ c ∷ d ∷ x ∷ xs) e = absurd (omega arith)
