-- What the words of a row are read as. Assumes nothing.
use Prim.Native.Nat.{ℕ, zero, suc, ◌+◌, ◌*◌, ◌-◌, ◌≤◌, ◌<◌}
use mathlib.Core.Path.{◌≡◌, refl, ap, ◌∙◌}
use mathlib.Core.List.{List, [], ◌∷◌}
use native.Mathlib.Numerals.{add-one}
use native.Mathlib.Omega.{arith}
use lib.ListN.{length, get_or, take, drop, get_or-eq_default, get_or-map, drop_of_length-le}
use lib.Seq.{drop-cons, get_or-take, get_or-drop}
use Rattle.image.proofs.Defaults.{NoneOf, past}
use Rattle.row_tables.specs.Rows.{row_at, rows_of}
use Rattle.row_tables.proofs.Tables.{length_row, length_rows, row_of}
use Rattle.place.specs.declared.elems.ProjectionElem.{ProjectionElem}
use Rattle.place.specs.Elems.{elem_of}
use Rattle.mir.specs.declared.rvalues.Left.{Left}
use Rattle.mir.specs.Statements.{statement_width}
use Rattle.views.specs.Views.{unknown_rvalue, set, word, constant_at, left_of, statement_kinds, line_of}
use Rattle.listing_places.specs.RowParts.{elem_at, rvalue_kinds, rvalue_of}

-- the part of a table that is the row i
pub row_part : (w : ℕ) (t : List ℕ) (i : ℕ) → take (w * i + w - w * i) (drop (w * i) t) ≡ row_at w t i
unfolding row_at
row_part w t i = let e : w * i + w - w * i ≡ w = omega arith in rw e

-- it has w words
pub part_length : (w : ℕ) (t : List ℕ) (i : ℕ) → w * i + w ≤ length t → length (take (w * i + w - w * i) (drop (w * i) t)) ≡ w
part_length w t i h = ap length (row_part w t i) ∙ length_row w t i h

-- it begins where the table has it
pub first_word : (w : ℕ) (t : List ℕ) (i : ℕ) → 0 < w → word (row_at w t i) 0 ≡ get_or t (w * i) 0
unfolding row_at
first_word w t i h = let e : w * i + 0 ≡ w * i = omega arith in get_or-take w (drop (w * i) t) 0 0 h ∙ get_or-drop (w * i) t 0 0 ∙ ap (λ (k : ℕ). get_or t k 0) e

-- the rows from the row i on: that row, and those behind it
pub rows_next : (w : ℕ) (t : List ℕ) (n i : ℕ) → i < n → drop i (rows_of w t n) ≡ row_at w t i ∷ drop (i + 1) (rows_of w t n)
rows_next w t n i h = rw add-one (drop-cons (rows_of w t n) i [] (omega (arith, length_rows w t n)) ∙ ap (λ (row : List ℕ). row ∷ drop (suc i) (rows_of w t n)) (row_of w t n i h))

-- behind the last there is none
pub rows_done : (w : ℕ) (t : List ℕ) (n i : ℕ) → n ≤ i → drop i (rows_of w t n) ≡ []
rows_done w t n i h = drop_of_length-le (rows_of w t n) {i = i} (omega (arith, length_rows w t n))

-- behind a row's end its elements are Derefs
pub past_row : (row : List ℕ) (j : ℕ) → length row ≡ statement_width → 16 ≤ j → ProjectionElem.Deref ≡ elem_at row j
unfolding elem_at elem_of
past_row row j e h =
    let low : get_or row (17 + 2 * j) 0 ≡ 0 = get_or-eq_default row 0 {n = 17 + 2 * j} (omega arith) in
    let high : get_or row (17 + 2 * j + 1) 0 ≡ 0 = get_or-eq_default row 0 {n = 17 + 2 * j + 1} (omega arith) in
    rw (low, high)

module _ (row : List ℕ) where
  -- a left operand of the kind 1 is a local
  pub left_local : word row 3 ≡ 1 → left_of row ≡ Left.Local (record { 0 = word row 4 })
  unfolding left_of
  left_local e = ap (λ (n : ℕ). get_or (Left.Constant (constant_at row) ∷ Left.Local (record { 0 = word row 4 }) ∷ []) n (Left.Constant (constant_at row))) e

  -- one of another kind is a constant
  pub left_constant : (word row 3 ≡ 1 → ⊥) → left_of row ≡ Left.Constant (constant_at row)
  unfolding left_of
  left_constant h = by_kind (word row 3) h
    where
      by_kind : (k : ℕ) → (k ≡ 1 → ⊥) → get_or (Left.Constant (constant_at row) ∷ Left.Local (record { 0 = word row 4 }) ∷ []) k (Left.Constant (constant_at row)) ≡ Left.Constant (constant_at row)
      by_kind zero n = refl
      by_kind (suc zero) n = absurd (n refl)
      by_kind (suc (suc k)) n = refl

  -- a row of the kind k sets its local to what stands at k
  pub rvalue_kind : (k : ℕ) → word row 1 ≡ k → rvalue_of row ≡ get_or (rvalue_kinds row) k unknown_rvalue
  unfolding rvalue_of
  rvalue_kind k e = ap (λ (n : ℕ). get_or (rvalue_kinds row) n unknown_rvalue) e

  -- one of no kind, to nothing known
  pub rvalue_unknown : NoneOf (word row 1) 3 10 → rvalue_of row ≡ unknown_rvalue
  unfolding rvalue_of
  rvalue_unknown w = by_kind (word row 1) w
    where
      by_kind : (k : ℕ) → NoneOf k 3 10 → get_or (rvalue_kinds row) k unknown_rvalue ≡ unknown_rvalue
      by_kind zero n = refl
      by_kind (suc zero) n = refl
      by_kind (suc (suc zero)) n = refl
      by_kind (suc (suc (suc k))) n =
          let long = past (suc (suc (suc k))) 3 10 (omega arith) n in
          get_or-eq_default (rvalue_kinds row) unknown_rvalue {n = suc (suc (suc k))} (omega arith)

  -- the statement of a row of the kind k
  pub statement_kind : (k : ℕ) → word row 1 ≡ k → (line_of row).statement ≡ get_or (statement_kinds row) k (set (word row 2) unknown_rvalue)
  unfolding line_of
  statement_kind k e = ap (λ (n : ℕ). get_or (statement_kinds row) n (set (word row 2) unknown_rvalue)) e

  -- one that is no live or dead mark sets its local
  pub statement_set : NoneOf (word row 1) 1 2 → (line_of row).statement ≡ set (word row 2) (rvalue_of row)
  unfolding line_of rvalue_of
  statement_set w = by_kind (word row 1) w
    where
      by_kind : (k : ℕ) → NoneOf k 1 2 → get_or (statement_kinds row) k (set (word row 2) unknown_rvalue) ≡ set (word row 2) (get_or (rvalue_kinds row) k unknown_rvalue)
      by_kind zero n = refl
      by_kind (suc zero) n = absurd (n.0.1 refl)
      by_kind (suc (suc zero)) n = absurd (n.1 refl)
      by_kind (suc (suc (suc k))) n = get_or-map (set (word row 2)) (drop 3 (rvalue_kinds row)) k unknown_rvalue
