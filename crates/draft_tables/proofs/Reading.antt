-- The words of a row as they stand in a table, and words that are copied to a place before them. Assumes nothing.
use Prim.Native.Nat.{ℕ, ◌+◌, ◌*◌, ◌-◌, ◌≤◌, ◌<◌}
use mathlib.Core.Path.{◌≡◌, sym, ap, subst, ◌∙◌}
use mathlib.Core.List.{List}
use native.Mathlib.Nat.{add-zero}
use native.Mathlib.Omega.{arith}
use lib.ListN.{length, get_or, set, take, drop, length-drop}
use lib.Seq.{length-take-le, get_or-take, get_or-drop, drop-drop, paste, drop-paste}
use Rattle.row_tables.specs.Rows.{row_at, stored}
use Rattle.row_tables.proofs.Loops.{Storing, store_more, store_end}
use Rattle.draft_tables.specs.Layout.{type_of_words, range_of_words}

pub word_of_row : (w : ℕ) (t : List ℕ) (i k : ℕ) → k < w → get_or (row_at w t i) k 0 ≡ get_or t (w * i + k) 0
unfolding row_at
word_of_row w t i k h = get_or-take w (drop (w * i) t) k 0 h ∙ get_or-drop (w * i) t k 0

first_of_row : (w : ℕ) (t : List ℕ) (i : ℕ) → 0 < w → get_or (row_at w t i) 0 0 ≡ get_or t (w * i) 0
first_of_row w t i h = word_of_row w t i 0 h ∙ ap (λ (k : ℕ). get_or t k 0) (add-zero (w * i))

-- `added_type`
pub type_read : (t : List ℕ) (i : ℕ) → type_of_words (row_at 5 t i) ≡ record { kind = get_or t (5 * i) 0; a = get_or t (5 * i + 1) 0; b = get_or t (5 * i + 2) 0; c = get_or t (5 * i + 3) 0; copy = get_or t (5 * i + 4) 0 }
unfolding type_of_words
type_read t i =
    λ j. record {
      kind = first_of_row 5 t i (omega arith) j;
      a = word_of_row 5 t i 1 (omega arith) j;
      b = word_of_row 5 t i 2 (omega arith) j;
      c = word_of_row 5 t i 3 (omega arith) j;
      copy = word_of_row 5 t i 4 (omega arith) j;
    }

-- `added_name`
pub range_read : (t : List ℕ) (b : ℕ) → range_of_words (row_at 2 (drop 5376 t) b) ≡ record { from = get_or t (5376 + 2 * b) 0; to = get_or t (5376 + 2 * b + 1) 0 }
unfolding range_of_words
range_read t b =
    let next : 5376 + (2 * b + 1) ≡ 5376 + 2 * b + 1 = omega arith in
    λ j. record {
      from = (first_of_row 2 (drop 5376 t) b (omega arith) ∙ get_or-drop 5376 t (2 * b) 0) j;
      to = (word_of_row 2 (drop 5376 t) b 1 (omega arith) ∙ get_or-drop 5376 t (2 * b + 1) 0 ∙ ap (λ (k : ℕ). get_or t k 0) next) j;
    }

-- `copy_words`
module _ (t : List ℕ) (to from many : ℕ) (apart : to + many ≤ from) (fits : from + many ≤ length t) where
  abbrev source : List ℕ
  source = take many (drop from t)

  long : length source ≡ many
  long = length-take-le many (drop from t) (omega (arith, length-drop from t))

  -- the source is as it was
  kept : (i : ℕ) → i ≤ many → drop from (paste t to source i) ≡ drop from t
  kept i h =
      let split : to + i + (from - (to + i)) ≡ from = omega arith in
      sym (drop-drop (from - (to + i)) (to + i) (paste t to source i) ∙ ap (λ (k : ℕ). drop k (paste t to source i)) split)
      ∙ ap (drop (from - (to + i))) (drop-paste t to source i (omega arith) (omega (arith, long)))
      ∙ drop-drop (from - (to + i)) (to + i) t ∙ ap (λ (k : ℕ). drop k t) split

  pub copy_more : (i : ℕ) (now : List ℕ) → Storing t to source i now → i < many → Storing t to source (i + 1) (set now (to + i) (get_or now (from + i) 0))
  copy_more i now s h =
      let same : get_or source i 0 ≡ get_or now (from + i) 0 =
      get_or-take many (drop from t) i 0 h
      ∙ ap (λ (l : List ℕ). get_or l i 0) (sym (kept i (omega arith)))
      ∙ get_or-drop from (paste t to source i) i 0
      ∙ ap (λ (l : List ℕ). get_or l (from + i) 0) (sym s.pasted) in
      subst (λ (v : ℕ). Storing t to source (i + 1) (set now (to + i) v)) same (store_more s (omega (arith, long)) (omega (arith, long)))

  pub copy_end : (i : ℕ) (now : List ℕ) → Storing t to source i now → many ≤ i → now ≡ stored t to source
  copy_end i now s h = store_end s (omega (arith, long))
