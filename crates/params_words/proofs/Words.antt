-- Locals in a row, as loops write them piece by piece. Assumes nothing.
use Prim.Native.Nat.{ℕ, suc, ◌+◌, ◌-◌, ◌≤◌, ◌<◌}
use mathlib.Core.Path.{◌≡◌}
use mathlib.Core.List.{List, [], ◌∷◌, ◌++◌}
use native.Mathlib.Numerals.{add-one}
use native.Mathlib.Omega.{arith}
use lib.ListN.{length, get_or, drop, drop_of_length-le}
use lib.Seq.{drop-cons}
use Rattle.image.specs.Lists.{up_from}
use Rattle.params_words.specs.Words.{word_text, words_text}

-- the locals of a list from the word i on
abbrev pub words_from : List ℕ → ℕ → List ℕ
words_from ws i = words_text (drop i ws)

-- the word i, and those behind it
pub words_more_lem : (ws : List ℕ) (i : ℕ) → i < length ws → words_from ws i ≡ word_text (get_or ws i 0) ++ words_from ws (i + 1)
unfolding words_text
words_more_lem ws i h =
    let next : drop i ws ≡ get_or ws i 0 ∷ drop (i + 1) ws = rw add-one (drop-cons ws i 0 h) in
    rw next

-- behind the last there is none
pub words_end : (ws : List ℕ) (i : ℕ) → length ws ≤ i → words_from ws i ≡ []
unfolding words_text
words_end ws i h = let none : drop i ws ≡ [] = drop_of_length-le ws {i = i} h in rw none

-- of so many locals one after the other, those from the local w on
abbrev pub run_from : ℕ → ℕ → ℕ → List ℕ
run_from first count w = words_text (up_from w (first + count - w))

module _ (first count : ℕ) where
  -- from the first on, they are all
  pub run_begin : run_from first count first ≡ words_text (up_from first count)
  run_begin = let all : first + count - first ≡ count = omega arith in rw all

  -- the local w, and those behind it
  pub run_more : (w : ℕ) → w < first + count → run_from first count w ≡ word_text w ++ run_from first count (w + 1)
  unfolding words_text up_from
  run_more w h = let left : first + count - w ≡ suc (first + count - (w + 1)) = omega arith in rw left

  -- behind the last there is none
  pub run_end : (w : ℕ) → first + count ≤ w → run_from first count w ≡ []
  unfolding words_text up_from
  run_end w h = let none : first + count - w ≡ 0 = omega arith in rw none
