-- Zeros stand past the words before those that are set to zero. Assumes nothing.
use Prim.Native.Nat.{ℕ, zero, suc, ◌+◌, ◌-◌, ◌<◌, ◌≤◌}
use mathlib.Core.Path.{◌≡◌, sym, ap, ap₂, ◌∙◌}
use mathlib.Core.List.{List, ◌∷◌, ◌++◌}
use native.Mathlib.Nat.{zero-add, suc-add}
use native.Mathlib.Omega.{arith}
use lib.ListN.{length, length-set, take, drop, set}
use lib.Seq.{length-take-le, drop_at, drop-cons, get_or-set_same, drop-set-lt}
use Rattle.row_tables.specs.Rows.{zeros, stored}
use Rattle.row_tables.proofs.Zeros.{length_zeros}
use Rattle.row_tables.proofs.Tables.{length_stored}
use Rattle.state.specs.Promises.{BlankWords}

-- so many zeros, and so many more
zeros_more : (a b : ℕ) → zeros a ++ zeros b ≡ zeros (a + b)
zeros_more zero b = ap (λ (k : ℕ). zeros k) (sym (zero-add b))
zeros_more (suc a) b = ap (λ (l : List ℕ). 0 ∷ l) (zeros_more a b) ∙ ap (λ (k : ℕ). zeros k) (sym (suc-add a b))

-- zeros stand past the words before one that is set to zero
pub blank_last : (t : List ℕ) (n : ℕ) → 0 < n → n ≤ length t → BlankWords t n → BlankWords (set t (n - 1) 0) (n - 1)
blank_last t n pos fits blank =
    let last : suc (n - 1) ≡ n = omega arith in
    let left : suc (length t - n) ≡ length (set t (n - 1) 0) - (n - 1) = omega (arith, length-set t (n - 1) 0) in
    drop-cons (set t (n - 1) 0) (n - 1) 0 (omega (arith, length-set t (n - 1) 0))
    ∙ ap₂ (λ (x : ℕ) (l : List ℕ). x ∷ l)
    (get_or-set_same t (n - 1) 0 0 (omega arith))
    (ap (λ (k : ℕ). drop k (set t (n - 1) 0)) last ∙ drop-set-lt n t (n - 1) 0 (omega arith) ∙ blank)
    ∙ ap (λ (k : ℕ). zeros k) left

-- zeros stand past the words before those that are set to zero
pub blank_emptied : (t : List ℕ) (from to : ℕ) → from ≤ to → to ≤ length t → BlankWords t to → BlankWords (stored t from (zeros (to - from))) from
unfolding stored
blank_emptied t from to le fits blank =
    let row = zeros (to - from) in
    let ends : from + length row ≡ to = omega (arith, length_zeros (to - from)) in
    let left : (to - from) + (length t - to) ≡ length (stored t from row) - from = omega (arith, length_stored t from row (omega (arith, length_zeros (to - from)))) in
    drop_at (take from t) (row ++ drop (from + length row) t) from (length-take-le from t (omega arith))
    ∙ ap (λ (l : List ℕ). row ++ l) (ap (λ (k : ℕ). drop k t) ends ∙ blank)
    ∙ zeros_more (to - from) (length t - to)
    ∙ ap (λ (k : ℕ). zeros k) left
