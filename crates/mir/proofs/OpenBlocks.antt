-- The rows of blocks. Assumes nothing.
use Prim.Native.Nat.{ℕ, zero, suc, ◌+◌, ◌*◌, ◌-◌, ◌≤◌}
use mathlib.Core.Path.{◌≡◌, refl, ap, ◌∙◌}
use mathlib.Core.List.{List, [], ◌∷◌, ◌++◌}
use native.Mathlib.Numerals.{add-one}
use native.Mathlib.Omega.{arith}
use lib.ListN.{length, get_or, take, drop}
use lib.Seq.{get_or-take, get_or-drop}
use Rattle.row_tables.specs.Rows.{zeros, row_at, rows_of, Blank}
use Rattle.mir.specs.declared.blocks.Terminator.{Terminator}
use Rattle.mir.specs.Blocks.{term_row, block_width}

-- the first word of a row
pub first_word : (t : List ℕ) (b : ℕ) → get_or (row_at block_width t b) 0 0 ≡ get_or t (block_width * b) 0
unfolding row_at
first_word t b =
    let here : block_width * b + 0 ≡ block_width * b = omega arith in
    get_or-take 12 (drop (block_width * b) t) 0 0 (omega arith) ∙ get_or-drop (block_width * b) t 0 0 ∙ ap (λ (k : ℕ). get_or t k 0) here

-- so many zeros begin with fewer
take_zeros : (k n : ℕ) → k ≤ n → take k (zeros n) ≡ zeros k
take_zeros zero n h = refl
take_zeros (suc k) zero h = absurd (omega arith)
take_zeros (suc k) (suc n) h = ap (λ (l : List ℕ). 0 ∷ l) (take_zeros k n (omega arith))

-- A new block is open: where zeros stand above the count, the row behind the last one is that of a block with no terminator.
pub new_block_open : (t : List ℕ) (n : ℕ) → block_width * n + 12 ≤ length t → Blank block_width t n → rows_of block_width t (n + 1) ≡ rows_of block_width t n ++ (term_row Terminator.Open ∷ [])
unfolding rows_of row_at term_row
new_block_open t n h b =
    rw add-one (ap (λ (row : List ℕ). rows_of block_width t n ++ (row ∷ [])) (ap (take 12) b ∙ take_zeros 12 (length t - block_width * n) (omega arith)))
