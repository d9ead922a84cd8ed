-- The texts that loops write, piece by piece. Assumes nothing.
use Prim.Native.Nat.{ℕ, suc, ◌+◌, ◌*◌, ◌-◌, ◌≤◌, ◌<◌}
use mathlib.Core.Path.{◌≡◌, sym, ap, ◌∙◌}
use mathlib.Core.List.{List, [], ◌∷◌, ◌++◌, map}
use native.Mathlib.Numerals.{add-one}
use native.Mathlib.Omega.{arith}
use borrow.Author.Tests.{eq-eqb, ne_eqb}
use lib.ListN.{length, get_or, take, drop, drop_of_length-le}
use lib.Seq.{length-take-le, drop-cons, get_or-take}
use Rattle.row_tables.specs.Rows.{row_at, rows_of}
use Rattle.place.specs.declared.elems.ProjectionElem.{ProjectionElem}
use Rattle.mir.specs.declared.blocks.Terminator.{Terminator}
use Rattle.mir.specs.Statements.{statement_width}
use Rattle.views.specs.Views.{Line, word, elems_at, line_of}
use Rattle.listing_text.specs.Listing.{elem_text, elems_text, statement_text, local_text, locals_text, lines_text, block_text, blocks_text}
use Rattle.listing_places.specs.RowParts.{elem_at}
use Rattle.listing_places.proofs.Readings.{first_word, rows_next, rows_done}

-- the elements of a place from the element j on, of so many
abbrev pub elems_from : List ℕ → ℕ → ℕ → List ℕ
elems_from row count j = elems_text (elems_at row (17 + 2 * j) (count - j))

module _ (row : List ℕ) (count : ℕ) where
  -- from the first on, they are all
  pub elems_begin : elems_from row count 0 ≡ elems_text (elems_at row 17 count)
  elems_begin = let e : count - 0 ≡ count = omega arith in rw e

  -- the element j, and those behind it
  pub elems_more : (j : ℕ) (elem : ProjectionElem) → j < count → elem ≡ elem_at row j → elems_from row count j ≡ elem_text elem ++ elems_from row count (j + 1)
  unfolding elems_text elems_at elem_at
  elems_more j elem h e =
      let left : count - j ≡ suc (count - (j + 1)) = omega arith in
      let at : 17 + 2 * j + 2 ≡ 17 + 2 * (j + 1) = omega arith in
      rw (left, at, e)

  -- behind the last there is none
  pub elems_end : (j : ℕ) → count ≤ j → elems_from row count j ≡ []
  unfolding elems_text elems_at
  elems_end j h = let none : count - j ≡ 0 = omega arith in rw none

-- the locals from the local i on, of so many
abbrev pub locals_from : List ℕ → ℕ → ℕ → List ℕ
locals_from t count i = locals_text i (drop i (take count t))

module _ (t : List ℕ) (count : ℕ) (fits : count ≤ length t) where
  -- the local i, and those behind it
  pub locals_more : (i : ℕ) → i < count → locals_from t count i ≡ local_text i (get_or t i 0) ++ locals_from t count (i + 1)
  unfolding locals_text
  locals_more i h =
      let next : drop i (take count t) ≡ get_or t i 0 ∷ drop (i + 1) (take count t) =
      rw add-one (drop-cons (take count t) i 0 (omega (arith, length-take-le count t fits)) ∙ ap (λ (x : ℕ). x ∷ drop (suc i) (take count t)) (get_or-take count t i 0 h)) in
      rw next

  -- behind the last there is none
  pub locals_end : (i : ℕ) → count ≤ i → locals_from t count i ≡ []
  unfolding locals_text
  locals_end i h = let none : drop i (take count t) ≡ [] = drop_of_length-le (take count t) {i = i} (omega (arith, length-take-le count t fits)) in rw none

-- the statements of the block b from the statement i on, of so many
abbrev pub lines_from : List ℕ → ℕ → ℕ → ℕ → List ℕ
lines_from t count b i = lines_text b (map line_of (drop i (rows_of statement_width t count)))

module _ (t : List ℕ) (count b i : ℕ) (h : i < count) where
  -- the statement i is the block's
  pub line_here : get_or t (statement_width * i) 0 ≡ b → lines_from t count b i ≡ statement_text (line_of (row_at statement_width t i)).statement ++ lines_from t count b (i + 1)
  unfolding lines_text line_of
  line_here e = rw (rows_next statement_width t count i h, eq-eqb (word (row_at statement_width t i) 0) b (first_word statement_width t i (omega arith) ∙ e))

  -- it is another block's
  pub line_elsewhere : (get_or t (statement_width * i) 0 ≡ b → ⊥) → lines_from t count b i ≡ lines_from t count b (i + 1)
  unfolding lines_text line_of
  line_elsewhere n = rw (rows_next statement_width t count i h, ne_eqb (word (row_at statement_width t i) 0) b (λ e. n (sym (first_word statement_width t i (omega arith)) ∙ e)))

-- behind the last there is none
pub lines_end : (t : List ℕ) (count b i : ℕ) → count ≤ i → lines_from t count b i ≡ []
unfolding lines_text
lines_end t count b i h = rw (rows_done statement_width t count i h)

-- the blocks from the block b on, of those with these terminators
abbrev pub blocks_from : List Line → List Terminator → ℕ → List ℕ
blocks_from lines ts b = blocks_text lines b (drop b ts)

module _ (lines : List Line) (ts : List Terminator) where
  -- the block b, and those behind it
  pub blocks_more : (b : ℕ) → b < length ts → blocks_from lines ts b ≡ block_text lines b (get_or ts b Terminator.Open) ++ blocks_from lines ts (b + 1)
  unfolding blocks_text
  blocks_more b h =
      let next : drop b ts ≡ get_or ts b Terminator.Open ∷ drop (b + 1) ts = rw add-one (drop-cons ts b Terminator.Open h) in
      rw next

  -- behind the last there is none
  pub blocks_end : (b : ℕ) → length ts ≤ b → blocks_from lines ts b ≡ []
  unfolding blocks_text
  blocks_end b h = let none : drop b ts ≡ [] = drop_of_length-le ts {i = b} h in rw none
