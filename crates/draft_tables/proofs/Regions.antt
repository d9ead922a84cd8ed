-- What lies in a part of a table when words are stored: behind what the part has, before the part, or behind it. Assumes nothing.
use Prim.Native.Nat.{ℕ, zero, suc, ◌+◌, ◌*◌, ◌≤◌}
use mathlib.Core.Path.{◌≡◌, sym, ap, ap₂, ◌∙◌}
use mathlib.Core.List.{List, [], ◌∷◌, ◌++◌}
use native.Mathlib.Nat.{zero-add, suc-add}
use native.Mathlib.Omega.{arith}
use lib.ListN.{length, take, drop, length-drop}
use lib.Seq.{length-take-le, take-nil, take-add, take_at, drop-append-le, drop_at, drop-drop}
use Rattle.row_tables.specs.Rows.{rows_of, stored}
use Rattle.row_tables.proofs.Tables.{before_stored, past_stored, rows_same, rows_push}

pub take_drop : (n m : ℕ) (l : List ℕ) → take m (drop n l) ≡ drop n (take (n + m) l)
take_drop zero m l = ap (λ (k : ℕ). take k l) (sym (zero-add m))
take_drop (suc n) m [] = take-nil m ∙ sym (ap (drop (suc n)) (take-nil (suc n + m)))
take_drop (suc n) m (x ∷ l) = take_drop n m l ∙ sym (ap (λ (k : ℕ). drop (suc n) (take k (x ∷ l))) (suc-add n m))

module _ (t : List ℕ) (at : ℕ) (row : List ℕ) (p m : ℕ) where
  -- words of a part that ends before what is stored
  pub words_before : p + m ≤ at → at ≤ length t → take m (drop p (stored t at row)) ≡ take m (drop p t)
  words_before h fits = take_drop p m (stored t at row) ∙ ap (drop p) (before_stored t at row (p + m) h fits) ∙ sym (take_drop p m t)

  -- words of a part behind it
  pub words_behind : at + length row ≤ p → p ≤ length t → take m (drop p (stored t at row)) ≡ take m (drop p t)
  words_behind h fits = ap (take m) (past_stored t at row p h fits)

-- rows of a part that ends before it, and of one behind it
pub rows_kept_before : (w : ℕ) (t : List ℕ) (at : ℕ) (row : List ℕ) (p n : ℕ) → p + w * n ≤ at → at ≤ length t → rows_of w (drop p (stored t at row)) n ≡ rows_of w (drop p t) n
rows_kept_before w t at row p n h fits = rows_same w (drop p (stored t at row)) (drop p t) n (words_before t at row p (w * n) h fits)

pub rows_kept_behind : (w : ℕ) (t : List ℕ) (at : ℕ) (row : List ℕ) (p n : ℕ) → at + length row ≤ p → p ≤ length t → rows_of w (drop p (stored t at row)) n ≡ rows_of w (drop p t) n
rows_kept_behind w t at row p n h fits = rows_same w (drop p (stored t at row)) (drop p t) n (words_behind t at row p (w * n) h fits)

-- words behind those of the part
pub words_grown : (t row : List ℕ) (p m k : ℕ) → length row ≡ k → p + m + length row ≤ length t → take (m + k) (drop p (stored t (p + m) row)) ≡ take m (drop p t) ++ row
unfolding stored
words_grown t row p m k e fits =
    let after = stored t (p + m) row in
    take-add m k (drop p after)
    ∙ ap₂ (λ (a b : List ℕ). a ++ b)
    (words_before t (p + m) row p m (omega arith) (omega arith))
    (ap (take k) (drop-drop m p after ∙ drop_at (take (p + m) t) (row ++ drop (p + m + length row) t) (p + m) (length-take-le (p + m) t (omega arith)))
    ∙ take_at row (drop (p + m + length row) t) k e)

-- what is stored in a part
stored_part : (t row : List ℕ) (p k : ℕ) → p + k ≤ length t → drop p (stored t (p + k) row) ≡ stored (drop p t) k row
unfolding stored
stored_part t row p k fits =
    let left = row ++ drop (p + k + length row) t in
    let place : p + (k + length row) ≡ p + k + length row = omega arith in
    drop-append-le p (take (p + k) t) left (omega (arith, length-take-le (p + k) t fits))
    ∙ ap₂ (λ (a b : List ℕ). a ++ (row ++ b)) (sym (take_drop p k t)) (sym (drop-drop (k + length row) p t ∙ ap (λ (j : ℕ). drop j t) place))

-- a row behind those of the part
pub rows_grown : (w : ℕ) (t row : List ℕ) (p n : ℕ) → length row ≡ w → p + w * n + w ≤ length t → rows_of w (drop p (stored t (p + w * n) row)) (n + 1) ≡ rows_of w (drop p t) n ++ (row ∷ [])
rows_grown w t row p n e fits =
    ap (λ (l : List ℕ). rows_of w l (n + 1)) (stored_part t row p (w * n) (omega arith)) ∙ rows_push w (drop p t) n row e (omega (arith, length-drop p t))
