-- The words of a block's row, one by one. Assumes nothing.
use Prim.Native.Nat.{ℕ, suc, ◌+◌, ◌*◌, ◌<◌}
use mathlib.Core.Path.{◌≡◌, refl, sym, ap, ◌∙◌}
use mathlib.Core.List.{List, [], ◌∷◌}
use native.Mathlib.Omega.{arith}
use lib.ListN.{length, get_or, take, drop}
use lib.Seq.{drop-cons}
use Rattle.row_tables.specs.Rows.{row_at}
use Rattle.mir.specs.Blocks.{block_width, block_words}

-- one word, and so many behind it
next_word_lem : (t : List ℕ) (at next n : ℕ) {words : List ℕ} → next ≡ suc at → at < length t → words ≡ take n (drop next t) → get_or t at 0 ∷ words ≡ take (suc n) (drop at t)
next_word_lem t at next n e h is =
    ap (λ (l : List ℕ). get_or t at 0 ∷ l) (is ∙ ap (λ (j : ℕ). take n (drop j t)) e) ∙ sym (ap (take (suc n)) (drop-cons t at 0 h))

-- the row of the block b
pub row_words : (t : List ℕ) (b : ℕ) → length t ≡ block_words → b < 512 →
    get_or t (block_width * b) 0 ∷ get_or t (block_width * b + 1) 0 ∷ get_or t (block_width * b + 2) 0 ∷ get_or t (block_width * b + 3) 0 ∷ get_or t (block_width * b + 4) 0 ∷ get_or t (block_width * b + 5) 0 ∷ get_or t (block_width * b + 6) 0 ∷ get_or t (block_width * b + 7) 0 ∷ get_or t (block_width * b + 8) 0 ∷ get_or t (block_width * b + 9) 0 ∷ get_or t (block_width * b + 10) 0 ∷ get_or t (block_width * b + 11) 0 ∷ [] ≡ row_at block_width t b
unfolding row_at
row_words t b long h =
    next_word_lem t (block_width * b) (block_width * b + 1) 11 (omega arith) (omega arith)
    (next_word_lem t (block_width * b + 1) (block_width * b + 2) 10 (omega arith) (omega arith)
    (next_word_lem t (block_width * b + 2) (block_width * b + 3) 9 (omega arith) (omega arith)
    (next_word_lem t (block_width * b + 3) (block_width * b + 4) 8 (omega arith) (omega arith)
    (next_word_lem t (block_width * b + 4) (block_width * b + 5) 7 (omega arith) (omega arith)
    (next_word_lem t (block_width * b + 5) (block_width * b + 6) 6 (omega arith) (omega arith)
    (next_word_lem t (block_width * b + 6) (block_width * b + 7) 5 (omega arith) (omega arith)
    (next_word_lem t (block_width * b + 7) (block_width * b + 8) 4 (omega arith) (omega arith)
    (next_word_lem t (block_width * b + 8) (block_width * b + 9) 3 (omega arith) (omega arith)
    (next_word_lem t (block_width * b + 9) (block_width * b + 10) 2 (omega arith) (omega arith)
    (next_word_lem t (block_width * b + 10) (block_width * b + 11) 1 (omega arith) (omega arith)
    (next_word_lem t (block_width * b + 11) (block_width * b + 12) 0 (omega arith) (omega arith) refl)))))))))))
