-- Tables of single words: one more at the end, and what lies below and past it. Assumes nothing.
use mathlib.Core.Path.{◌≡◌, refl, sym, ap, ◌∙◌}
use mathlib.Core.List.{List, [], ◌∷◌, ◌++◌}
use Prim.Native.Nat.{ℕ, zero, suc, ◌+◌, ◌-◌, ◌≤◌, ◌<◌}
use native.Mathlib.Numerals.{add-one}
use native.Mathlib.Omega.{arith}
use lib.Seq.{drop-drop}
use lib.ListN.{length, length-take, length-set, take, drop, set, take-append-drop}
use Rattle.row_tables.specs.Rows.{zeros}
use Rattle.row_tables.proofs.Zeros.{drop_zeros}
use Rattle.state.specs.State.{padded}
use Rattle.state.specs.Promises.{BlankWords}

-- as many words as are taken
pub length_words : (t : List ℕ) (n : ℕ) → n ≤ length t → length (take n t) ≡ n
length_words t n h = omega (arith, length-take n t)

push_words : (t : List ℕ) (n x : ℕ) → n < length t → take (suc n) (set t n x) ≡ take n t ++ (x ∷ [])
push_words [] n x h = absurd (omega arith)
push_words (y ∷ t) zero x h = refl
push_words (y ∷ t) (suc n) x h = ap (λ (l : List ℕ). y ∷ l) (push_words t n x (omega arith))

-- a word behind the first n
pub words_push : (t : List ℕ) (n x : ℕ) → n < length t → take (n + 1) (set t n x) ≡ take n t ++ (x ∷ [])
words_push t n x h = rw add-one (push_words t n x h)

-- what lies before a word that is stored
pub words_before : (t : List ℕ) (n k x : ℕ) → k ≤ n → take k (set t n x) ≡ take k t
words_before t n zero x h = refl
words_before [] n (suc k) x h = refl
words_before (y ∷ t) zero (suc k) x h = absurd (omega arith)
words_before (y ∷ t) (suc n) (suc k) x h = ap (λ (l : List ℕ). y ∷ l) (words_before t n k x (omega arith))

-- what lies past a word that is stored
pub words_past : (t : List ℕ) (n k x : ℕ) → n < k → drop k (set t n x) ≡ drop k t
words_past t n zero x h = absurd (omega arith)
words_past [] n (suc k) x h = refl
words_past (y ∷ t) zero (suc k) x h = refl
words_past (y ∷ t) (suc n) (suc k) x h = words_past t n k x (omega arith)

-- zeros past n words stand also past more
pub words_blank_more : (t : List ℕ) (n m : ℕ) → n ≤ m → BlankWords t n → BlankWords t m
words_blank_more t n m h blank =
    let split : m ≡ n + (m - n) = omega arith in
    let left : (length t - n) - (m - n) ≡ length t - m = omega arith in
    ap (λ (k : ℕ). drop k t) split ∙ sym (drop-drop (m - n) n t) ∙ ap (drop (m - n)) blank ∙ drop_zeros (m - n) (length t - n) ∙ ap (λ (k : ℕ). zeros k) left

-- zeros stay past a word that is stored among the first n
pub words_blank_set : (t : List ℕ) (i n x : ℕ) → i < n → BlankWords t n → BlankWords (set t i x) n
words_blank_set t i n x h blank = words_past t i n x h ∙ blank ∙ ap (λ (k : ℕ). zeros (k - n)) (sym (length-set t i x))

-- zeros stay past one word more
pub words_blank_push : (t : List ℕ) (n x : ℕ) → BlankWords t n → BlankWords (set t n x) (n + 1)
words_blank_push t n x blank = words_blank_set t n (n + 1) x (omega arith) (words_blank_more t n (n + 1) (omega arith) blank)

-- a table with zeros past its first n words is their encoding
pub words_encoded : (t : List ℕ) (n : ℕ) → n ≤ length t → BlankWords t n → t ≡ padded (length t) (take n t)
unfolding padded
words_encoded t n h blank =
    let left : length t - n ≡ length t - length (take n t) = omega (arith, length_words t n h) in
    sym (take-append-drop n t) ∙ ap (λ (l : List ℕ). take n t ++ l) (blank ∙ ap (λ (k : ℕ). zeros k) left)
