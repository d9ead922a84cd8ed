-- A number that is none of the kinds' numbers has the default of their list. Assumes nothing.
use Prim.Native.Nat.{ℕ, zero, suc, ◌+◌, ◌≤◌}
use mathlib.Core.Path.{◌≡◌}
use mathlib.Core.List.{List}
use native.Mathlib.Omega.{arith}
use lib.ListN.{length, get_or, get_or-eq_default}

-- k is none of the n numbers from a on, as the last arm of a `match` knows it
abbrev pub NoneOf : ℕ → ℕ → ℕ → Type 0
NoneOf k a zero = Unit
NoneOf k a (suc n) = NoneOf k a n × (k ≡ a + n → ⊥)

pub past : (k a n : ℕ) → a ≤ k → NoneOf k a n → a + n ≤ k
past k a zero h w = omega arith
past k a (suc n) h w = let before = past k a n h w.0 in omega (arith, w.1)

pub default {ℓ} : {A : Type ℓ} (l : List A) (d : A) (k : ℕ) → NoneOf k 0 (length l) → get_or l k d ≡ d
default l d k w = let long = past k 0 (length l) (omega arith) w in get_or-eq_default l d {n = k} (omega arith)

-- the kinds' numbers begin with 1, and their list with the default
pub default-from-one {ℓ} : {A : Type ℓ} (l : List A) (d : A) (k n : ℕ) → get_or l 0 d ≡ d → length l ≡ 1 + n → NoneOf k 1 n → get_or l k d ≡ d
default-from-one l d zero n e m w = e
default-from-one l d (suc k) n e m w = let long = past (suc k) 1 n (omega arith) w in get_or-eq_default l d {n = suc k} (omega arith)
