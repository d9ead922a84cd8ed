-- One digit further, and values in halves. Assumes nothing.
use Rattle.std.specs.Prelude.{Some, None}
use Prim.Native.Nat.{ℕ, suc, ◌+◌, ◌-◌, ◌*◌, ◌^◌, ◌/◌, ◌<◌, ◌≤◌}
use mathlib.Core.Path.{◌≡◌}
use mathlib.Core.Bool.{Bool, true, false, cond}
use mathlib.Core.List.{List, [], ◌∷◌}
use native.Mathlib.Omega.{arith}
use native.Mathlib.Nat.{le_trans}
use borrow.Author.Tests.{lt-ltb, le-ltb}
use lib.ListN.{length, get_or, take, drop}
use lib.Seq.{take-nil}
use lib.Pow as pow
use Rattle.text_chars.proofs.Loops.{on, over}
use Rattle.pattern_words.specs.Words.{is_digit}
use Rattle.decimal_values.specs.Values.{decimal_from, in_halves}

module _ (text : List ℕ) (at to v : ℕ) where
  pub decimal_on : at < to → at < length text → decimal_from v (take (to - at) (drop at text))
      ≡ decimal_from (cond (is_digit (get_or text at 0)) (v * 10 + (get_or text at 0 - 48)) v) (take (to - (at + 1)) (drop (at + 1) text))
  unfolding decimal_from
  decimal_on h k =
      let e : to - at ≡ suc (to - (at + 1)) = omega arith in
      rw (on text at k, e)

  pub decimal_over : length text ≤ at → decimal_from v (take (to - at) (drop at text)) ≡ v
  unfolding decimal_from
  decimal_over h = rw (over text at h, take-nil (to - at))

  pub decimal_end : to ≤ at → decimal_from v (take (to - at) (drop at text)) ≡ v
  unfolding decimal_from
  decimal_end h =
      let e : to - at ≡ 0 = omega arith in
      rw (e)

-- digits make a value no less
pub decimal_grows : (v : ℕ) (bytes : List ℕ) → v ≤ decimal_from v bytes
unfolding decimal_from
decimal_grows v [] = omega arith
decimal_grows v (b ∷ bytes) =
    let rest = decimal_grows (cond (is_digit b) (v * 10 + (b - 48)) v) bytes in
    let first = longer (is_digit b) in
    omega arith
  where
    longer : (p : Bool) → v ≤ cond p (v * 10 + (b - 48)) v
    longer true = omega arith
    longer false = omega arith

-- a value below the bound, by its halves
pub halves : (low high : ℕ) → low < 2 ^ 64 → high < 2 ^ 64 → in_halves (high * 2 ^ 64 + low) ≡ Some (low, high)
unfolding in_halves
halves low high l h = rw (pow.high high 64 l, pow.low high 64 l, lt-ltb high (2 ^ 64) h)

-- a value that has reached the bound, whatever follows
pub too_long : (upper low : ℕ) (bytes : List ℕ) → low < 2 ^ 64 → 2 ^ 64 ≤ upper → in_halves (decimal_from (upper * 2 ^ 64 + low) bytes) ≡ None
unfolding in_halves
too_long upper low bytes l h =
    let more = pow.shr_mono 64 (decimal_grows (upper * 2 ^ 64 + low) bytes) in
    let top = rw (pow.high upper 64 l) at more in
    rw (le-ltb (decimal_from (upper * 2 ^ 64 + low) bytes / 2 ^ 64) (2 ^ 64) (le_trans h top))

-- ten times a value and a digit more, half by half
pub carried : (low high d lc lh upper : ℕ) → lc * 2 ^ 64 + lh ≡ low * 10 + d → upper ≡ high * 10 + lc → upper * 2 ^ 64 + lh ≡ (high * 2 ^ 64 + low) * 10 + d
carried low high d lc lh upper e f = omega arith
