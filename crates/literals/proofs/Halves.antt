-- The loop that reads a half, the highest byte first: where it begins, a turn, and its end. Assumes nothing.
use Prim.Native.Nat.{ℕ, suc, ◌+◌, ◌*◌, ◌-◌, ◌^◌, ◌≤◌, ◌<◌}
use mathlib.Core.Path.{◌≡◌, refl}
use mathlib.Core.List.{List}
use native.Mathlib.Nat.{pow-suc, pow-le-pow_right}
use native.Mathlib.Omega.{arith}
use lib.ListN.{length, get_or, take, drop}
use lib.Seq.{drop-cons}
use Rattle.image.specs.Bytes.{little_endian}

-- the bytes from at + left to at + count are read
pub record Halving (bytes : List ℕ) (at count left value : ℕ) : Type 0 where
  pub read : value ≡ little_endian (take (count - left) (drop (at + left) bytes))
  pub small : value < 256 ^ (count - left)
  pub within : left ≤ count

-- where the loop begins
pub half_start : (bytes : List ℕ) (at count : ℕ) → Halving bytes at count count 0
unfolding little_endian
half_start bytes at count =
    let none : count - count ≡ 0 = omega arith in
    record { read = rw none; small = rw none (omega arith); within = omega arith }

module _ {bytes : List ℕ} {at count left value : ℕ} (h : Halving bytes at count left value) where
  -- where a byte is left, the value has at most seven
  pub half_small : count ≤ 8 → 0 < left → value < 72057594037927936
  half_small few more =
      let most : 256 ^ (count - left) ≤ 256 ^ 7 = pow-le-pow_right {n = 256} (omega arith) {j = 7} (omega arith) in
      let v = h.small in
      omega arith

  -- a turn reads one byte more
  pub half_more : at + count ≤ length bytes → 0 < left → get_or bytes (at + (left - 1)) 0 < 256 → Halving bytes at count (left - 1) (get_or bytes (at + (left - 1)) 0 + 256 * value)
  unfolding little_endian
  half_more fits more byte =
      let next : count - (left - 1) ≡ suc (count - left) = omega arith in
      let place : suc (at + (left - 1)) ≡ at + left = omega arith in
      let v = h.small in
      record {
        read = rw (next, drop-cons bytes (at + (left - 1)) 0 (omega arith), place, ← h.read) refl;
        small = rw (next, pow-suc) (omega arith);
        within = omega arith;
      }

  -- the loop's end
  pub half_end : left ≡ 0 → value ≡ little_endian (take count (drop at bytes))
  half_end done =
      let all : count - left ≡ count = omega arith in
      let first : at + left ≡ at = omega arith in
      rw (all, first) at h.read
