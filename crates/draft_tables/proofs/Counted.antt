-- The draft that a table holds has as many rows, words and bytes as are counted. Assumes nothing.
use Prim.Native.Nat.{ℕ, zero, suc, ◌<◌}
use mathlib.Core.Path.{◌≡◌, refl, ap, ◌∙◌}
use mathlib.Core.List.{List, [], ◌∷◌, map}
use native.Mathlib.Omega.{arith}
use lib.ListN.{length, get_or, drop, length-drop, length-map, get_or-map}
use lib.Seq.{length-take-le}
use Rattle.image.specs.declared.rows.TypeRow.{TypeRow}
use Rattle.image.specs.declared.Tables.{Tables}
use Rattle.row_tables.specs.Rows.{row_at, rows_of}
use Rattle.row_tables.proofs.Tables.{length_rows, row_of}
use Rattle.draft_tables.specs.declared.DraftCounts.{DraftCounts}
use Rattle.draft_tables.specs.Layout.{type_of_words, pattern_of_words, binding_of_words, name_of_words, draft_in, stacked_in, WithinDraft}
use Rattle.draft_tables.specs.Room.{DraftRoom}

-- counts within the limits lie within the table
pub room_within : (tables : Tables) (c : DraftCounts) → DraftRoom tables c → WithinDraft c
room_within tables c room =
    record { types = omega (arith, room.types); patterns = omega (arith, room.patterns); bindings = omega (arith, room.bindings); words = omega (arith, room.words); bytes = omega (arith, room.bytes); height = room.height }

-- what a list holds does not go by what would stand for what it lacks
pub default_free {ℓ} : {A : Type ℓ} (l : List A) (j : ℕ) (x y : A) → j < length l → get_or l j x ≡ get_or l j y
default_free [] j x y h = absurd (omega arith)
default_free (a ∷ l) zero x y h = refl
default_free (a ∷ l) (suc j) x y h = default_free l j x y (omega arith)

-- a row of those of a part, by its number
row-at {ℓ} : {A : Type ℓ} (f : List ℕ → A) (w : ℕ) (t : List ℕ) (n i : ℕ) (d : A) → i < n → get_or (map f (rows_of w t n)) i d ≡ f (row_at w t i)
row-at f w t n i d h =
    default_free (map f (rows_of w t n)) i d (f []) (omega (arith, length-map (rows_of w t n) f, length_rows w t n))
    ∙ get_or-map f (rows_of w t n) i [] ∙ ap f (row_of w t n i h)

module _ (names t : List ℕ) (c : DraftCounts) where
  pub type_length : length (draft_in names t c).types ≡ c.types
  unfolding draft_in
  type_length = length-map (rows_of 5 (drop 0 t) c.types) type_of_words ∙ length_rows 5 (drop 0 t) c.types

  pub pattern_length : length (draft_in names t c).patterns ≡ c.patterns
  unfolding draft_in
  pattern_length = length-map (rows_of 7 (drop 1280 t) c.patterns) pattern_of_words ∙ length_rows 7 (drop 1280 t) c.patterns

  pub binding_length : length (draft_in names t c).bindings ≡ c.bindings
  unfolding draft_in
  binding_length = length-map (rows_of 2 (drop 4864 t) c.bindings) binding_of_words ∙ length_rows 2 (drop 4864 t) c.bindings

  pub called_length : length (draft_in names t c).called ≡ c.bindings
  unfolding draft_in
  called_length = length-map (rows_of 2 (drop 5376 t) c.bindings) (name_of_words names) ∙ length_rows 2 (drop 5376 t) c.bindings

  -- the rows themselves
  pub type_at_row : (i : ℕ) (d : TypeRow) → i < c.types → get_or (draft_in names t c).types i d ≡ type_of_words (row_at 5 t i)
  unfolding draft_in
  type_at_row i d h = row-at type_of_words 5 t c.types i d h

  pub called_at_row : (b : ℕ) (d : List ℕ) → b < c.bindings → get_or (draft_in names t c).called b d ≡ name_of_words names (row_at 2 (drop 5376 t) b)
  unfolding draft_in
  called_at_row b d h = row-at (name_of_words names) 2 (drop 5376 t) c.bindings b d h

  module _ (size : length t ≡ 40704) (within : WithinDraft c) where
    pub word_length : length (draft_in names t c).words ≡ c.words
    unfolding draft_in
    word_length = length-take-le c.words (drop 5888 t) (omega (arith, length-drop 5888 t, size, within.words))

    pub byte_length : length (draft_in names t c).bytes ≡ c.bytes
    unfolding draft_in
    byte_length = length-take-le c.bytes (drop 7936 t) (omega (arith, length-drop 7936 t, size, within.bytes))

    pub stack_length : length (stacked_in names t c).stack ≡ c.height
    unfolding stacked_in
    stack_length = length-take-le c.height (drop 24320 t) (omega (arith, length-drop 24320 t, size, within.height))
