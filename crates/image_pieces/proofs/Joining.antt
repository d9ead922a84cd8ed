-- Pieces written one behind the other: what was written, and how long a part is. Assumes nothing.
use Prim.Native.Nat.{ℕ, ◌+◌, ◌*◌, ◌≤◌}
use mathlib.Core.Path.{◌≡◌, ap, ◌∙◌}
use mathlib.Core.List.{List, ◌++◌, append_assoc}
use native.Mathlib.Omega.{arith}
use lib.ListN.{length, take, drop, length-append}
use Rattle.row_tables.specs.Rows.{stored}
use Rattle.pattern_images.specs.Imaging.{words_bytes}
use Rattle.image_pieces.specs.Pieces.{part_bytes}
use Rattle.image_pieces.proofs.Storing.{stored_behind, length_words, length_chosen}

-- one piece behind another
pub then : (t : List ℕ) (at : ℕ) (first more : List ℕ) (next : ℕ) (half whole : List ℕ) → half ≡ stored t at first → whole ≡ stored half next more → next ≡ at + length first → at + length first + length more ≤ length t →
    whole ≡ stored t at (first ++ more)
then t at first more next half whole e₁ e₂ place fits = e₂ ∙ ap (λ (l : List ℕ). stored l next more) e₁ ∙ stored_behind t at first more next place fits

-- `write_part`
module _ (sheet : List ℕ) (from many : ℕ) (draft : List ℕ) (first words : ℕ) (inside : from + many ≤ length sheet) (there : first + words ≤ length draft) where
  pub length_part : length (part_bytes sheet from many draft first words) ≡ many + 2 * words
  unfolding part_bytes
  length_part =
      omega (
        arith,
        length-append (take many (drop from sheet)) (words_bytes (take words (drop first draft))),
        length_chosen sheet from many inside,
        length_words (take words (drop first draft)),
        length_chosen draft first words there,
      )

  pub part_written : (t : List ℕ) (at next : ℕ) (half whole : List ℕ) → at + many + 2 * words ≤ length t → next ≡ at + many → half ≡ stored t at (take many (drop from sheet)) →
      whole ≡ stored half next (words_bytes (take words (drop first draft))) → whole ≡ stored t at (part_bytes sheet from many draft first words)
  unfolding part_bytes
  part_written t at next half whole fits e e₁ e₂ =
      let a = take many (drop from sheet) in
      let b = words_bytes (take words (drop first draft)) in
      let long-a = length_chosen sheet from many inside in
      let long-b : length b ≡ 2 * words = omega (arith, length_words (take words (drop first draft)), length_chosen draft first words there) in
      then t at a b next half whole e₁ e₂ (omega arith) (omega arith)

-- three pieces, and four
pub three : (t : List ℕ) (at : ℕ) (a b c : List ℕ) (p q : ℕ) (t₁ t₂ t₃ : List ℕ) → t₁ ≡ stored t at a → t₂ ≡ stored t₁ p b → t₃ ≡ stored t₂ q c → p ≡ at + length a → q ≡ p + length b →
    at + length a + length b + length c ≤ length t → t₃ ≡ stored t at (a ++ (b ++ c))
three t at a b c p q t₁ t₂ t₃ e₁ e₂ e₃ ep eq fits =
    let second = then t at a b p t₁ t₂ e₁ e₂ ep (omega arith) in
    then t at (a ++ b) c q t₂ t₃ second e₃ (omega (arith, length-append a b)) (omega (arith, length-append a b))
    ∙ ap (stored t at) (append_assoc a b c)

pub four : (t : List ℕ) (at : ℕ) (a b c d : List ℕ) (p q r : ℕ) (t₁ t₂ t₃ t₄ : List ℕ) → t₁ ≡ stored t at a → t₂ ≡ stored t₁ p b → t₃ ≡ stored t₂ q c → t₄ ≡ stored t₃ r d →
    p ≡ at + length a → q ≡ p + length b → r ≡ q + length c → at + length a + length b + length c + length d ≤ length t → t₄ ≡ stored t at (a ++ (b ++ (c ++ d)))
four t at a b c d p q r t₁ t₂ t₃ t₄ e₁ e₂ e₃ e₄ ep eq er fits =
    let second = then t at a b p t₁ t₂ e₁ e₂ ep (omega arith) in
    three t at (a ++ b) c d q r t₂ t₃ t₄ second e₃ e₄ (omega (arith, length-append a b)) er (omega (arith, length-append a b))
    ∙ ap (stored t at) (append_assoc a b (c ++ d))
