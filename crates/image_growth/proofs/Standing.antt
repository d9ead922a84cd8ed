-- A part of a list that stands at a place of it, and the words and rows that are read there. Assumes nothing.
use Prim.Native.Nat.{ℕ, zero, suc, ◌+◌, ◌*◌, ◌/◌, ◌%◌, ◌≤◌, ◌<◌}
use mathlib.Core.Path.{◌≡◌, refl, sym, ap, ap₂, ◌∙◌}
use mathlib.Core.List.{List, [], ◌∷◌, ◌++◌}
use native.Mathlib.Nat.{div-add-mod', mul-suc, add-zero}
use native.Mathlib.Omega.{arith}
use lib.ListN.{length, get_or, drop, length-append, length-drop, get_or-append}
use lib.Seq.{length-take-le, get_or-take, get_or-drop, get_or-append-add}
use Rattle.image.specs.Bytes.{byte_at, word_at}
use Rattle.pattern_images.specs.Imaging.{word_bytes, words_bytes, table_of}

-- from the place `at` on, whole has the numbers of part
pub record Stands (whole : List ℕ) (at : ℕ) (part : List ℕ) : Type 0 where
  pub byte : (k : ℕ) → k < length part → byte_at whole (at + k) ≡ byte_at part k

-- from the place `at` on, whole has the `many` numbers that old has from the place `from` on
abbrev pub Same : List ℕ → ℕ → List ℕ → ℕ → ℕ → Type 0
Same whole at old from many = (k : ℕ) → k < many → byte_at whole (at + k) ≡ byte_at old (from + k)

pub stands_left : (whole : List ℕ) (at : ℕ) (xs ys : List ℕ) → Stands whole at (xs ++ ys) → Stands whole at xs
stands_left whole at xs ys h = record { byte = λ k lt. h.byte k (omega (arith, length-append xs ys)) ∙ get_or-append xs ys 0 k lt }

pub stands_right : (whole : List ℕ) (at : ℕ) (xs ys : List ℕ) → Stands whole at (xs ++ ys) → Stands whole (at + length xs) ys
stands_right whole at xs ys h =
    record {
      byte = λ k lt.
          let assoc : at + length xs + k ≡ at + (length xs + k) = omega arith in
          ap (byte_at whole) assoc ∙ h.byte (length xs + k) (omega (arith, length-append xs ys)) ∙ get_or-append-add xs ys k 0;
    }

pub stands_at : (whole : List ℕ) (at place : ℕ) (part : List ℕ) → at ≡ place → Stands whole at part → Stands whole place part
stands_at whole at place part e h = rw e at h

-- the length of a table
pub length_table : (sheet : List ℕ) (at many : ℕ) → at + many ≤ length sheet → length (table_of sheet at many) ≡ many
length_table sheet at many h = length-take-le many (drop at sheet) (omega (arith, length-drop at sheet))

pub table_same : (whole : List ℕ) (at : ℕ) (sheet : List ℕ) (from many : ℕ) → from + many ≤ length sheet →
    Stands whole at (table_of sheet from many) → Same whole at sheet from many
table_same whole at sheet from many fits h k lt =
    h.byte k (omega (arith, length_table sheet from many fits)) ∙ get_or-take many (drop from sheet) k 0 lt ∙ get_or-drop from sheet k 0

-- a word of what is the same
pub word_same : (whole : List ℕ) (at : ℕ) (old : List ℕ) (from many : ℕ) → Same whole at old from many →
    (k : ℕ) → k + 2 ≤ many → word_at whole (at + k) ≡ word_at old (from + k)
unfolding word_at
word_same whole at old from many h k fits =
    let there : at + k + 1 ≡ at + (k + 1) = omega arith in
    let here : from + (k + 1) ≡ from + k + 1 = omega arith in
    ap₂ (λ (x y : ℕ). x * 256 + y) (h k (omega arith)) (ap (byte_at whole) there ∙ h (k + 1) (omega arith) ∙ ap (byte_at old) here)

pub word_same_at : (whole : List ℕ) (at : ℕ) (old : List ℕ) (from many : ℕ) → Same whole at old from many →
    (k off : ℕ) → k + off + 2 ≤ many → word_at whole (at + k + off) ≡ word_at old (from + k + off)
word_same_at whole at old from many h k off fits =
    let there : at + k + off ≡ at + (k + off) = omega arith in
    let here : from + (k + off) ≡ from + k + off = omega arith in
    ap (word_at whole) there ∙ word_same whole at old from many h (k + off) fits ∙ ap (word_at old) here

-- a word is read back
pub word_back : (w : ℕ) → w / 256 * 256 + w % 256 ≡ w
word_back w = div-add-mod' w 256

pub length_words : (ws : List ℕ) → length (words_bytes ws) ≡ 2 * length ws
unfolding words_bytes word_bytes
length_words [] = refl
length_words (w ∷ ws) = omega (arith, length_words ws)

pub word_stands : (whole : List ℕ) (at : ℕ) (w : ℕ) (ws : List ℕ) → Stands whole at (words_bytes (w ∷ ws)) → word_at whole at ≡ w
unfolding word_at words_bytes word_bytes
word_stands whole at w ws h =
    ap₂ (λ (x y : ℕ). x * 256 + y) (ap (byte_at whole) (sym (add-zero at)) ∙ h.byte 0 (omega arith)) (h.byte 1 (omega arith)) ∙ word_back w

pub words_behind : (whole : List ℕ) (at : ℕ) (w : ℕ) (ws : List ℕ) → Stands whole at (words_bytes (w ∷ ws)) → Stands whole (at + 2) (words_bytes ws)
unfolding words_bytes word_bytes
words_behind whole at w ws h = stands_right whole at (word_bytes w) (words_bytes ws) h

pub words_stand : (ws : List ℕ) (whole : List ℕ) (at : ℕ) (i other : ℕ) → Stands whole at (words_bytes ws) → i < length ws → word_at whole (at + 2 * i) ≡ get_or ws i other
words_stand [] whole at i other h lt = absurd (omega arith)
words_stand (w ∷ ws) whole at zero other h lt = ap (word_at whole) (omega arith) ∙ word_stands whole at w ws h
words_stand (w ∷ ws) whole at (suc i) other h lt =
    ap (word_at whole) (omega arith) ∙ words_stand ws whole (at + 2) i other (words_behind whole at w ws h) (omega arith)

-- rows of words, one behind the other: each has so many bytes
module _ {A : Type 0} (words : A → List ℕ) (encoded : List A → List ℕ) (size : ℕ)
    (none : encoded [] ≡ []) (one : (r : A) (rs : List A) → encoded (r ∷ rs) ≡ words_bytes (words r) ++ encoded rs)
    (long : (r : A) → length (words_bytes (words r)) ≡ size) where
  pub length_rows : (rs : List A) → length (encoded rs) ≡ size * length rs
  length_rows [] = rw none (omega (arith, native.Mathlib.Nat.mul-zero size))
  length_rows (r ∷ rs) = rw (one r rs) (omega (arith, length-append (words_bytes (words r)) (encoded rs), long r, length_rows rs, mul-suc size (length rs)))

  pub row_stands : (rs : List A) (whole : List ℕ) (at : ℕ) (i : ℕ) (other : A) → Stands whole at (encoded rs) → i < length rs →
      Stands whole (at + size * i) (words_bytes (words (get_or rs i other)))
  row_stands [] whole at i other h lt = absurd (omega arith)
  row_stands (r ∷ rs) whole at zero other h lt =
      stands_at whole at (at + size * 0) (words_bytes (words r)) (omega (arith, native.Mathlib.Nat.mul-zero size))
      (stands_left whole at (words_bytes (words r)) (encoded rs) (rw (one r rs) at h))
  row_stands (r ∷ rs) whole at (suc i) other h lt =
      stands_at whole (at + length (words_bytes (words r)) + size * i) (at + size * suc i) (words_bytes (words (get_or rs i other)))
      (omega (arith, long r, mul-suc size i))
      (row_stands rs whole (at + length (words_bytes (words r))) i other
      (stands_right whole at (words_bytes (words r)) (encoded rs) (rw (one r rs) at h)) (omega arith))
