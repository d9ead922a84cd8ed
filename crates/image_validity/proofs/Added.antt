-- What a draft adds to a sheet's list and data is read back in an image that has it all: lists of words, and operands. Assumes nothing.
use Prim.Native.Nat.{ℕ, zero, suc, ◌+◌, ◌*◌, ◌/◌, ◌^◌, ◌≤◌, ◌<◌}
use mathlib.Core.Path.{◌≡◌, refl, sym, ap, ap₂, ◌∙◌}
use mathlib.Core.Bool.{true, false, ◌&&◌}
use mathlib.Core.List.{List, [], ◌∷◌, ◌++◌}
use native.Mathlib.Nat.{div-add-mod', pow-suc, add-zero}
use native.Mathlib.Omega.{arith}
use borrow.Author.Tests.{ltb-true, le-leb}
use lib.Dec.{leb, ltb}
use lib.ListN.{length, get_or, length-append}
use lib.Seq.{get_or-append-add}
use Rattle.image.specs.Bytes.{little_endian}
use Rattle.image.specs.Tables.{list_count, data_count}
use Rattle.image.specs.Kinds.{operand_kind}
use Rattle.image.specs.Rows.{list_at, operand_at, operand_bytes}
use Rattle.image.specs.Operands.{is_scalar_value, operand_value_holds, operand_lies, operand_holds}
use Rattle.image.specs.Rules.{listed}
use Rattle.image.proofs.Bools.{and_right}
use Rattle.pattern_syntax.specs.Written.{LiteralValue, bool_value, char_value, whole_value, minus_value}
use Rattle.pattern_syntax.specs.Formed.{literal_formed}
use Rattle.pattern_images.specs.Drafts.{Draft, next_word, next_byte, little_endian_bytes, operand_kind_of, literal_bytes}
use Rattle.pattern_images.specs.Emitting.{list_from}
use Rattle.image_growth.specs.Growing.{Grown}
use Rattle.image_growth.proofs.Operands.{operand_of_words, operand_words, operand_bytes_added}
use Rattle.image_validity.specs.Standing.{seconds}
use Rattle.image_validity.proofs.Tests.{or_cases, and_three}
use Rattle.image_validity.proofs.Extending.{Begins, begins_long, begins_at}

-- a number is read back from enough of its bytes
pub length_little_endian : (n v : ℕ) → length (little_endian_bytes n v) ≡ n
unfolding little_endian_bytes
length_little_endian zero v = refl
length_little_endian (suc n) v = ap suc (length_little_endian n (v / 256))

pub little_endian_back : (n v : ℕ) → v < 256 ^ n → little_endian (little_endian_bytes n v) ≡ v
unfolding little_endian_bytes little_endian
little_endian_back zero v h = omega arith
little_endian_back (suc n) v h =
    let split = div-add-mod' v 256 in
    let power = pow-suc 256 n in
    let less : v / 256 < 256 ^ n = omega (arith, split, power, h) in
    omega (arith, split, little_endian_back n (v / 256) less)

scalar_below : (v : ℕ) → is_scalar_value v ≡ true → v < 256 ^ 4
unfolding is_scalar_value
scalar_below v e =
    or_cases (ltb v 0xd800) (leb 0xe000 v && ltb v 0x110000) e (λ q. omega (arith, ltb-true v 0xd800 q))
    (λ q. omega (arith, ltb-true v 0x110000 (and_right (leb 0xe000 v) (ltb v 0x110000) q)))

-- a literal's bytes are what its kind of operand asks for
literal_value_lem : (v : LiteralValue) → literal_formed v ≡ true → operand_value_holds (operand_kind (operand_kind_of v)) (literal_bytes v) ≡ true
unfolding literal_formed operand_kind_of literal_bytes operand_value_holds
literal_value_lem (bool_value true) h = refl
literal_value_lem (bool_value false) h = refl
literal_value_lem (char_value v) h = rw (length_little_endian 4 v, little_endian_back 4 v (scalar_below v h)) h
literal_value_lem (whole_value v) h = rw (length_little_endian 16 v)
literal_value_lem (minus_value v) h = rw (length_little_endian 16 _)

-- words that stand in an image's list from a place on
abbrev pub WordsAt : List ℕ → ℕ → List ℕ → Type 0
WordsAt image from ws = (i : ℕ) → i < length ws → list_at image (from + i) ≡ get_or ws i 0

words_next : (image : List ℕ) (from w : ℕ) (ws : List ℕ) → WordsAt image from (w ∷ ws) → WordsAt image (from + 1) ws
words_next image from w ws h i lt =
    let e : from + 1 + i ≡ from + suc i = omega arith in
    ap (list_at image) e ∙ h (suc i) (omega arith)

pub listed_words : (image : List ℕ) (ws : List ℕ) (from : ℕ) → WordsAt image from ws → listed image 1 from (length ws) ≡ ws
unfolding listed
listed_words image [] from h = refl
listed_words image (w ∷ ws) from h =
    ap₂ ◌∷◌ (ap (list_at image) (sym (add-zero from)) ∙ h 0 (omega arith)) (listed_words image ws (from + 1) (words_next image from w ws h))

pub listed_seconds : (image : List ℕ) (n : ℕ) (ws : List ℕ) (from : ℕ) → length ws ≡ 2 * n → WordsAt image from ws → listed image 2 (from + 1) n ≡ seconds ws
unfolding listed seconds
listed_seconds image zero [] from e h = refl
listed_seconds image zero (x ∷ []) from e h = refl
listed_seconds image zero (x ∷ y ∷ ws) from e h = absurd (omega (arith, e))
listed_seconds image (suc n) [] from e h = absurd (omega (arith, e))
listed_seconds image (suc n) (x ∷ []) from e h = absurd (omega (arith, e))
listed_seconds image (suc n) (x ∷ y ∷ ws) from e h =
    let place : from + 1 + 2 ≡ from + 1 + 1 + 1 = omega arith in
    ap₂ ◌∷◌ (h 1 (omega arith))
    (ap (λ (k : ℕ). listed image 2 k n) place
    ∙ listed_seconds image n ws (from + 1 + 1) (omega (arith, e)) (words_next image (from + 1) y ws (words_next image from x (y ∷ ws) h)))

pub listed_join : (image : List ℕ) (from m n : ℕ) → listed image 1 from (m + n) ≡ listed image 1 from m ++ listed image 1 (from + m) n
unfolding listed
listed_join image from zero n =
    let e : 0 + n ≡ n = omega arith in
    ap₂ (λ (x y : ℕ). listed image 1 x y) (sym (add-zero from)) e
listed_join image from (suc m) n =
    let e : suc m + n ≡ suc (m + n) = omega arith in
    let f : from + 1 + m ≡ from + suc m = omega arith in
    ap (listed image 1 from) e
    ∙ ap (◌∷◌ (list_at image from)) (listed_join image (from + 1) m n ∙ ap (λ (k : ℕ). listed image 1 (from + 1) m ++ listed image 1 k n) f)

module _ (sheet : List ℕ) (whole : Draft) (image : List ℕ) (g : Grown sheet whole image) where
  pub words_there : (d : Draft) (ws : List ℕ) → Begins (d.words ++ ws) whole.words → WordsAt image (next_word sheet d) ws
  words_there d ws b i lt =
      let old = d.words in
      let place : next_word sheet d + i ≡ list_count sheet + (length old + i) = omega arith in
      let long = length-append old ws in
      ap (list_at image) place
      ∙ (g.words.behind (length old + i) 0 (omega (arith, long, begins_long b))
      ∙ (begins_at b (length old + i) 0 (omega (arith, long)) ∙ get_or-append-add old ws i 0))

  pub room_there : (d : Draft) (ws : List ℕ) → Begins (d.words ++ ws) whole.words → next_word sheet d + length ws ≤ list_count image
  room_there d ws b = omega (arith, length-append d.words ws, begins_long b, g.words_are)

  -- a list that starts at 0 where it is empty
  pub list_there : (d : Draft) (ws : List ℕ) → Begins (d.words ++ ws) whole.words → WordsAt image (list_from sheet ws d) ws
  unfolding list_from
  list_there d [] b i lt = absurd (omega arith)
  list_there d (w ∷ ws) b i lt = words_there d (w ∷ ws) b i lt

  pub list_room_lem : (d : Draft) (ws : List ℕ) → Begins (d.words ++ ws) whole.words → list_from sheet ws d + length ws ≤ list_count image
  unfolding list_from
  list_room_lem d [] b = omega arith
  list_room_lem d (w ∷ ws) b = room_there d (w ∷ ws) b

  -- an operand that is added holds
  pub operand_there : (d : Draft) (v : LiteralValue) → literal_formed v ≡ true →
      Begins (d.words ++ (operand_kind_of v ∷ next_byte sheet d ∷ length (literal_bytes v) ∷ [])) whole.words →
      Begins (d.bytes ++ literal_bytes v) whole.bytes → operand_holds image (next_word sheet d) ≡ true
  unfolding operand_holds
  operand_there d v formed words bytes =
      let o = next_word sheet d in
      let kind = operand_kind_of v in
      let from = next_byte sheet d in
      let size = length (literal_bytes v) in
      let word = words_there d (kind ∷ from ∷ size ∷ []) words in
      let first : list_at image o ≡ kind = ap (list_at image) (sym (add-zero o)) ∙ word 0 (omega arith) in
      let row : operand_at image o ≡ operand_of_words kind from size =
      operand_words image o ∙ (λ i. operand_of_words (first i) (word 1 (omega arith) i) (word 2 (omega arith) i))
      in
      let long = length-append d.bytes (literal_bytes v) in
      let value : operand_bytes image (operand_of_words kind from size) ≡ literal_bytes v =
      operand_bytes_added sheet whole image g kind (length d.bytes) (literal_bytes v) (omega (arith, long, begins_long bytes))
      (λ k lt. begins_at bytes (length d.bytes + k) 0 (omega (arith, long)) ∙ get_or-append-add d.bytes (literal_bytes v) k 0)
      in
      rw row
      (and_three (leb (o + 3) (list_count image)) (operand_lies image (operand_of_words kind from size)) _
      (le-leb (o + 3) (list_count image) (room_there d (kind ∷ from ∷ size ∷ []) words))
      (le-leb (from + size) (data_count image) (omega (arith, long, begins_long bytes, g.bytes_are)))
      (rw value (literal_value_lem v formed)))
