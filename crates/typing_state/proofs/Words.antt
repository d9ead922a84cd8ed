-- The rows of a lent table by their words. Assumes nothing.
use Prim.Native.Nat.{ℕ, ◌+◌, ◌*◌, ◌<◌}
use mathlib.Core.Path.{◌≡◌, ap, ◌∙◌}
use mathlib.Core.List.{List}
use native.Mathlib.Omega.{arith}
use lib.ListN.{drop, get_or}
use lib.Seq.{get_or-take, get_or-drop}
use Rattle.row_tables.specs.Rows.{row_at}
use Rattle.typing_state.specs.declared.tables.WaitingRow.{WaitingRow}
use Rattle.typing_state.specs.Parents.{waiting_row}

-- a word of a row
pub word_in : (w : ℕ) (t : List ℕ) (i k : ℕ) → k < w → get_or (row_at w t i) k 0 ≡ get_or t (w * i + k) 0
unfolding row_at
word_in w t i k h = get_or-take w (drop (w * i) t) k 0 h ∙ get_or-drop (w * i) t k 0

pub first_in : (w : ℕ) (t : List ℕ) (i : ℕ) → 0 < w → get_or (row_at w t i) 0 0 ≡ get_or t (w * i) 0
first_in w t i h = let e : w * i + 0 ≡ w * i = omega arith in word_in w t i 0 h ∙ ap (λ (k : ℕ). get_or t k 0) e

-- a row of a parent that waits, read word by word
pub waiting_read : (t : List ℕ) (d : ℕ) (r : WaitingRow) → r ≡ record { reads = record { kind = get_or t (7 * d) 0; a = get_or t (7 * d + 1) 0; b = get_or t (7 * d + 2) 0; c = get_or t (7 * d + 3) 0; mode = get_or t (7 * d + 4) 0; many = get_or t (7 * d + 5) 0 }; left = get_or t (7 * d + 6) 0 } → r ≡ waiting_row (row_at 7 t d)
waiting_read t d r e =
    rw (first_in 7 t d (omega arith), word_in 7 t d 1 (omega arith), word_in 7 t d 2 (omega arith), word_in 7 t d 3 (omega arith), word_in 7 t d 4 (omega arith), word_in 7 t d 5 (omega arith), word_in 7 t d 6 (omega arith)) e
