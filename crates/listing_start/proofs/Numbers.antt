-- The numbers of the bindings' locals. Assumes nothing.
use Prim.Native.Nat.{ℕ, zero, suc, ◌+◌, ◌≤◌, ◌<◌}
use mathlib.Core.Path.{◌≡◌, refl, ap, ◌∙◌}
use mathlib.Core.List.{List, ◌∷◌, ◌++◌, append-nil}
use native.Mathlib.Nat.{zero-add}
use native.Mathlib.Omega.{arith}
use lib.ListN.{length, get_or, set, take, drop_of_length-le}
use Rattle.row_tables.specs.Rows.{stored}
use Rattle.row_tables.proofs.Loops.{Storing, store_more, store_end}
use Rattle.image.specs.Tables.{binding_count}
use Rattle.image.specs.Lists.{up_from}
use Rattle.meaning.proofs.Children.{length_from}
use Rattle.listing_start.specs.Started.{binding_locals}

-- one of the numbers from a on
pub from_at : (a n i : ℕ) → i < n → get_or (up_from a n) i 0 ≡ a + i
unfolding up_from
from_at a zero i h = absurd (omega arith)
from_at a (suc n) zero h = omega arith
from_at a (suc n) (suc i) h = let e : a + 1 + i ≡ a + suc i = omega arith in from_at (a + 1) n i (omega arith) ∙ e

-- `number_bindings`: the first i locals have their numbers
abbrev pub Numbering : List ℕ → ℕ → List ℕ → Type 0
Numbering before i numbers = Storing before 0 (up_from 1 256) i numbers

module _ {before : List ℕ} where
  pub number_more : {i : ℕ} {numbers : List ℕ} → Numbering before i numbers → length before ≡ 256 → i < 256 → Numbering before (i + 1) (set numbers i (i + 1))
  number_more {i} {numbers} N long h =
      let few = length_from 1 256 in
      let number : get_or (up_from 1 256) i 0 ≡ i + 1 = omega (arith, from_at 1 256 i h) in
      rw (number, zero-add i) at (store_more N (omega arith) (omega arith))

  pub number_end : {i : ℕ} {numbers : List ℕ} → Numbering before i numbers → length before ≡ 256 → 256 ≤ i → numbers ≡ up_from 1 256
  unfolding stored
  number_end {i} {numbers} N long h =
      let few = length_from 1 256 in
      store_end N (omega arith)
      ∙ ap (λ (l : List ℕ). up_from 1 256 ++ l) (drop_of_length-le before {i = 0 + length (up_from 1 256)} (omega arith))
      ∙ append-nil (up_from 1 256)

-- the first of the numbers
from_take : (a m n : ℕ) → m ≤ n → take m (up_from a n) ≡ up_from a m
unfolding up_from
from_take a zero n h = refl
from_take a (suc m) zero h = absurd (omega arith)
from_take a (suc m) (suc n) h = ap (λ (l : List ℕ). a ∷ l) (from_take (a + 1) m n (omega arith))

-- the numbers of the bindings' locals are the first of those
pub bindings_numbered : (image : List ℕ) {n : ℕ} {numbers : List ℕ} → numbers ≡ up_from 1 256 → n ≡ binding_count image → binding_count image ≤ 256 → take n numbers ≡ binding_locals image
bindings_numbered image {n} {numbers} is count few =
    ap (take n) is ∙ from_take 1 n 256 (omega arith) ∙ ap (up_from 1) count
