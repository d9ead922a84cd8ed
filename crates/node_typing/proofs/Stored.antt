-- The rows of what is made, by their words. Assumes nothing.
use Prim.Native.Nat.{ℕ, zero, suc, ◌+◌, ◌*◌, ◌-◌, ◌≤◌}
use mathlib.Core.Path.{◌≡◌, refl, sym, ap, ◌∙◌}
use mathlib.Core.List.{List, [], ◌∷◌, ◌++◌}
use native.Mathlib.Omega.{arith}
use lib.ListN.{length, take, drop, get_or}
use lib.Seq.{drop-drop}
use Rattle.row_tables.specs.Rows.{row_at, stored}
use Rattle.row_tables.proofs.Tables.{row_stored}
use Rattle.node_rows.specs.declared.MakingRow.{MakingRow}
use Rattle.node_rows.specs.Makings.{making_row_at, closed_making_of, makings_in}
use Rattle.pattern_typing.specs.Closed.{ClosedMaking}
use Rattle.typing_state.proofs.Words.{word_in, first_in}
use Rattle.node_typing.specs.Rows.{making_words}

-- a row of what is made, by its words
abbrev making_in : List ℕ → MakingRow
making_in ws =
    record {
      kind = get_or ws 0 0;
      parts = get_or ws 1 0;
      ty = get_or ws 2 0;
      derefs = get_or ws 3 0;
      a = get_or ws 4 0;
      b = get_or ws 5 0;
      c = get_or ws 6 0;
      from = get_or ws 7 0;
      to = get_or ws 8 0;
      element = get_or ws 9 0;
      many = get_or ws 10 0;
      copy = get_or ws 11 0;
    }

making_read : (t : List ℕ) (i : ℕ) → making_row_at t i ≡ making_in (row_at 12 t i)
unfolding making_row_at
making_read t i =
    rw (first_in 12 t i (omega arith), word_in 12 t i 1 (omega arith), word_in 12 t i 2 (omega arith), word_in 12 t i 3 (omega arith), word_in 12 t i 4 (omega arith), word_in 12 t i 5 (omega arith), word_in 12 t i 6 (omega arith), word_in 12 t i 7 (omega arith), word_in 12 t i 8 (omega arith), word_in 12 t i 9 (omega arith), word_in 12 t i 10 (omega arith), word_in 12 t i 11 (omega arith))

pub making_stored : (t : List ℕ) (i : ℕ) (row : MakingRow) → 12 * i + 12 ≤ length t → making_row_at (stored t (12 * i) (making_words row)) i ≡ row
making_stored t i row fits = making_read (stored t (12 * i) (making_words row)) i ∙ ap making_in (row_stored 12 t i (making_words row) refl (omega arith))

-- a row past which two tables are the same is the same in both
row_past : (s t : List ℕ) (m j : ℕ) → m ≤ j → drop (12 * m) s ≡ drop (12 * m) t → row_at 12 s j ≡ row_at 12 t j
unfolding row_at
row_past s t m j h e =
    let there : 12 * m + 12 * (j - m) ≡ 12 * j = omega arith in
    let from-s : drop (12 * (j - m)) (drop (12 * m) s) ≡ drop (12 * j) s = drop-drop (12 * (j - m)) (12 * m) s ∙ ap (λ (k : ℕ). drop k s) there in
    let from-t : drop (12 * (j - m)) (drop (12 * m) t) ≡ drop (12 * j) t = drop-drop (12 * (j - m)) (12 * m) t ∙ ap (λ (k : ℕ). drop k t) there in
    ap (take 12) (sym from-s ∙ (ap (drop (12 * (j - m))) e ∙ from-t))

-- what so many rows from the row i on stand for
unfoldable pub makings_from : List ℕ → List ℕ → List ℕ → ℕ → ℕ → List ClosedMaking
makings_from text names t i zero = []
makings_from text names t i (suc k) = closed_making_of text names (making_row_at t i) ∷ makings_from text names t (suc i) k

module _ (text names : List ℕ) where
  pub rows_past : (s t : List ℕ) (m j k : ℕ) → m ≤ j → drop (12 * m) s ≡ drop (12 * m) t → makings_from text names s j k ≡ makings_from text names t j k
  unfolding makings_from
  rows_past s t m j zero h e = refl
  rows_past s t m j (suc k) h e =
      let row : making_row_at s j ≡ making_row_at t j = making_read s j ∙ (ap making_in (row_past s t m j h e) ∙ sym (making_read t j)) in
      let rest = rows_past s t m (suc j) k (omega arith) e in
      rw (row, rest)

  one_more_lem : (t : List ℕ) (i k : ℕ) → makings_from text names t i (suc k) ≡ makings_from text names t i k ++ (closed_making_of text names (making_row_at t (i + k)) ∷ [])
  unfolding makings_from
  one_more_lem t i zero = let e : i + 0 ≡ i = omega arith in rw e
  one_more_lem t i (suc k) =
      let e : suc i + k ≡ i + suc k = omega arith in
      let rest = rw e at (one_more_lem t (suc i) k) in
      ap (λ (l : List ClosedMaking). closed_making_of text names (making_row_at t i) ∷ l) rest

  pub from_first : (t : List ℕ) (n : ℕ) → makings_in text names t n ≡ makings_from text names t 0 n
  unfolding makings_in makings_from
  from_first t zero = refl
  from_first t (suc n) =
      let e : 0 + n ≡ n = omega arith in
      let last = rw e at (one_more_lem t 0 n) in
      ap (λ (l : List ClosedMaking). l ++ (closed_making_of text names (making_row_at t n) ∷ [])) (from_first t n) ∙ sym last
