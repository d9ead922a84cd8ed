-- One byte further in a unicode escape, and the bound of its value. Assumes nothing.
use Rattle.std.specs.Prelude.{None}
use Prim.Native.Nat.{ℕ, ◌+◌, ◌*◌, ◌^◌, ◌<◌, ◌≤◌}
use mathlib.Core.Path.{◌≡◌}
use mathlib.Core.Bool.{cond}
use mathlib.Core.List.{List}
use native.Mathlib.Omega.{arith}
use native.Mathlib.Numerals.{add-one}
use native.Mathlib.Nat.{pow-suc, pow-le-pow_right}
use lib.Dec.{eqb, ltb}
use lib.ListN.{length, get_or, drop}
use Rattle.text_chars.proofs.Loops.{on, over}
use Rattle.pattern_tokens.specs.Literals.{hex_digit, escaped, unicode_from}

module _ (bytes : List ℕ) (at digits v : ℕ) where
  pub unicode_on : at < length bytes → unicode_from at digits v (drop at bytes)
      ≡ cond (ltb (hex_digit (get_or bytes at 0)) 16) (cond (ltb digits 6) (unicode_from (at + 1) (digits + 1) (v * 16 + hex_digit (get_or bytes at 0)) (drop (at + 1) bytes)) None)
      (cond (eqb digits 0) None
      (cond (eqb (get_or bytes at 0) 95) (unicode_from (at + 1) digits v (drop (at + 1) bytes))
      (cond (eqb (get_or bytes at 0) 125) (escaped v at)
      None)))
  unfolding unicode_from
  unicode_on h = rw (on bytes at h, add-one at, add-one digits)

  pub unicode_over : length bytes ≤ at → unicode_from at digits v (drop at bytes) ≡ None
  unfolding unicode_from
  unicode_over h = rw (over bytes at h)

-- a value of so many hexadecimal digits
pub digits_on : (v d x : ℕ) → v < 16 ^ d → x < 16 → v * 16 + x < 16 ^ (d + 1)
digits_on v d x h hx = rw (add-one d, pow-suc 16 d) (omega arith)

pub digits_fit : (v d : ℕ) → v < 16 ^ d → d ≤ 6 → v < 16777216
digits_fit v d h l =
    let p = pow-le-pow_right {n = 16} (omega arith) {i = d} {j = 6} l in
    omega (arith, p)
