-- The laws of so many zeros. Assumes nothing.
use Prim.Native.Nat.{ℕ, zero, suc, ◌-◌, ◌<◌}
use mathlib.Core.Path.{◌≡◌, ap, ◌∙◌}
use native.Mathlib.Omega.{arith}
use lib.ListN.{length, get_or, drop, length-replicate, get_or-replicate}
use Rattle.row_tables.specs.Rows.{zeros}

-- n zeros are n numbers
pub length_zeros : (n : ℕ) → length (zeros n) ≡ n
length_zeros n = length-replicate n 0

-- each of them is 0
pub zero_at : (n i : ℕ) → i < n → get_or (zeros n) i 0 ≡ 0
zero_at n i h = get_or-replicate n i 0 0 h

-- zeros without the first k
pub drop_zeros : (k n : ℕ) → drop k (zeros n) ≡ zeros (n - k)
drop_zeros zero n = let e : n ≡ n - 0 = omega arith in ap (λ (m : ℕ). zeros m) e
drop_zeros (suc k) zero = let e : 0 ≡ 0 - suc k = omega arith in ap (λ (m : ℕ). zeros m) e
drop_zeros (suc k) (suc n) = let e : n - k ≡ suc n - suc k = omega arith in drop_zeros k n ∙ ap (λ (m : ℕ). zeros m) e
