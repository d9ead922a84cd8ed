-- Tests on marks and values, as the code makes them. Assumes nothing.
use Rattle.std.specs.Prelude.{Some, None}
use Prim.Native.Nat.{ℕ, ◌+◌, ◌*◌, ◌^◌, ◌<◌, ◌≤◌}
use mathlib.Core.Path.{◌≡◌, refl, sym}
use mathlib.Core.Bool.{Bool, true, false, cond, ◌||◌, ◌&&◌}
use native.Mathlib.Omega.{arith}
use lib.Dec.{eqb, ltb}
use borrow.Author.Tests.{ltb-true, ltb-false, lt-ltb, le-ltb}
use Rattle.decimal_values.specs.Results.{Value}
use Rattle.pattern_grammar.specs.Lexemes.{over}
use Rattle.parsing_machine.specs.Waiting.{closes}
use Rattle.parsing_moves.specs.Rows.{over_in}

cond_same : (b x : Bool) → cond b x x ≡ x
cond_same true x = refl
cond_same false x = refl

-- a mark that is no closing one closes nothing
pub closes_not : (top m : ℕ) → eqb top 11 ≡ false → eqb m 3 ≡ false → closes top m ≡ false
unfolding closes
closes_not top m e f = rw e (rw f (cond_same (eqb top 9 || eqb top 10) false))

-- a value in halves, held against 2^127
by_test : (a b c d : ℕ) → (a < b → c < d) → (b ≤ a → d ≤ c) → ltb a b ≡ ltb c d
by_test a b c d f g = by (ltb a b) refl
  where
    by : (x : Bool) → ltb a b ≡ x → x ≡ ltb c d
    by true e = sym (lt-ltb c d (f (ltb-true a b e)))
    by false e = sym (le-ltb c d (g (ltb-false a b e)))

same_half : (k low high : ℕ) → high ≡ k → ltb 0 low ≡ ltb (k * 2 ^ 64) (high * 2 ^ 64 + low)
same_half k low high e = by_test 0 low (k * 2 ^ 64) (high * 2 ^ 64 + low) (λ h. omega (arith, h, e)) (λ h. omega (arith, h, e))

other_half : (k low high : ℕ) → (high ≡ k → ⊥) → low < 2 ^ 64 → ltb k high ≡ ltb (k * 2 ^ 64) (high * 2 ^ 64 + low)
other_half k low high n l = by_test k high (k * 2 ^ 64) (high * 2 ^ 64 + low) (λ h. omega (arith, h, l)) (λ h. omega (arith, h, n, l))

pub over_equal : (low high : ℕ) → high ≡ 9223372036854775808 → ltb 0 low ≡ ltb (2 ^ 127) (high * 2 ^ 64 + low)
over_equal low high e = same_half 9223372036854775808 low high e

pub over_other :
    (low high : ℕ) → (high ≡ 9223372036854775808 → ⊥) → low < 2 ^ 64 → ltb 9223372036854775808 high ≡ ltb (2 ^ 127) (high * 2 ^ 64 + low)
over_other low high n l = other_half 9223372036854775808 low high n l

and_one : (b : Bool) → (b && true) ≡ b
and_one true = refl
and_one false = refl

-- a value over 16 bytes, one that is not behind a minus, and one that is
pub over_over : (value : Value) (minus : Bool) → value ≡ None → true ≡ over_in minus value
unfolding over
over_over value minus e = rw e refl

pub over_plain : (value : Value) (minus : Bool) (low high : ℕ) → value ≡ Some (low, high) → minus ≡ false → false ≡ over_in minus value
unfolding over
over_plain value minus low high e f = rw e (rw f refl)

pub over_minus :
    (value : Value) (minus : Bool) (low high : ℕ) (r : Bool) → value ≡ Some (low, high) → minus ≡ true → r ≡ ltb (2 ^ 127) (high * 2 ^ 64 + low)
    → r ≡ over_in minus value
unfolding over
over_minus value minus low high r e f g = rw e (rw f (rw (and_one (ltb (2 ^ 127) (high * 2 ^ 64 + low))) g))
