-- Numbers of a range. Assumes nothing.
use Prim.Native.Nat.{ℕ, zero, suc, ◌+◌, ◌-◌, ◌≤◌, ◌<◌}
use mathlib.Core.Path.{◌≡◌, refl, sym}
use mathlib.Core.Bool.{true, false}
use mathlib.Core.Logic.{⊎_elim}
use native.Mathlib.Nat.{eq-or-lt_of_le}
use native.Mathlib.Omega.{arith}
use borrow.Author.Tests.{eq-eqb, ne_eqb}
use lib.ListN.{get_or}
use Rattle.image.specs.Lists.{member, up_from}

-- the first number of a range that is not empty
pub first_of_range : (from count : ℕ) → 0 < count → get_or (up_from from count) 0 0 ≡ from
unfolding up_from
first_of_range from zero h = absurd (omega arith)
first_of_range from (suc count) h = refl

-- a number before the range
pub before_range : (v from count : ℕ) → v < from → member v (up_from from count) ≡ false
unfolding member up_from
before_range v from zero h = refl
before_range v from (suc count) h = rw (ne_eqb v from (λ e. omega arith)) (before_range v (from + 1) count (omega arith))

-- a number behind the range
pub past_range : (v from count : ℕ) → from ≤ v → count ≤ v - from → member v (up_from from count) ≡ false
unfolding member up_from
past_range v from zero h l = refl
past_range v from (suc count) h l = rw (ne_eqb v from (λ e. omega arith)) (past_range v (from + 1) count (omega arith) (omega arith))

-- a number of the range
pub in_range_lem : (v from count : ℕ) → from ≤ v → v - from < count → member v (up_from from count) ≡ true
unfolding member up_from
in_range_lem v from zero h l = absurd (omega arith)
in_range_lem v from (suc count) h l =
    ⊎_elim
    (λ (e : from ≡ v). rw (eq-eqb v from (sym e)))
    (λ (lt : from < v). rw (ne_eqb v from (λ e. omega arith)) (in_range_lem v (from + 1) count (omega arith) (omega arith)))
    (eq-or-lt_of_le h)
