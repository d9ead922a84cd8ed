-- What is stored in parts, one behind the other, is stored as one; and the loops that store bytes and words: a turn, and the end. Assumes nothing.
use Prim.Native.Nat.{ℕ, zero, suc, ◌+◌, ◌*◌, ◌/◌, ◌%◌, ◌≤◌, ◌<◌}
use mathlib.Core.Path.{◌≡◌, refl, sym, ap, ap₂, subst, ◌∙◌}
use mathlib.Core.List.{List, [], ◌∷◌, ◌++◌, append_assoc}
use native.Mathlib.Omega.{arith}
use lib.ListN.{length, get_or, set, take, drop, length-append, length-drop}
use borrow.Rule.Slice.PartMut.{put_mid}
use lib.Seq.{length-take-le, take-length, take_at, drop_at, get_or-take, get_or-drop}
use Rattle.std.proofs.lemmas.Slice.{put_mid-paste}
use Rattle.row_tables.specs.Rows.{stored}
use Rattle.row_tables.proofs.Loops.{Storing, store_more, store_end}
use Rattle.row_tables.proofs.Tables.{before_stored, past_stored}
use Rattle.pattern_images.specs.Imaging.{word_bytes, words_bytes}

-- bytes behind those that are stored
pub stored_behind : (t : List ℕ) (at : ℕ) (first more : List ℕ) (next : ℕ) → next ≡ at + length first → at + length first + length more ≤ length t →
    stored (stored t at first) next more ≡ stored t at (first ++ more)
unfolding stored
stored_behind t at first more next e fits =
    let rest = drop (at + length first) t in
    let front = take at t ++ first in
    let long : length front ≡ next = omega (arith, length-append (take at t) first, length-take-le at t (omega arith)) in
    let place : next + length more ≡ at + length (first ++ more) = omega (arith, length-append first more) in
    ap₂ (λ (a b : List ℕ). a ++ (more ++ b))
    (ap (take next) (sym (append_assoc (take at t) first rest)) ∙ take_at front rest next long)
    (past_stored t at first (next + length more) (omega arith) (omega arith) ∙ ap (λ (k : ℕ). drop k t) place)
    ∙ append_assoc (take at t) first (more ++ drop (at + length (first ++ more)) t)
    ∙ ap (λ (l : List ℕ). take at t ++ l) (sym (append_assoc first more (drop (at + length (first ++ more)) t)))

-- bytes before those that are stored
pub stored_before : (t : List ℕ) (at : ℕ) (first more : List ℕ) (next : ℕ) → next ≡ at + length first → at + length first + length more ≤ length t →
    stored (stored t next more) at first ≡ stored t at (first ++ more)
unfolding stored
stored_before t at first more next e fits =
    let rest = drop (next + length more) t in
    let long : length (take next t) ≡ at + length first = length-take-le next t (omega arith) ∙ e in
    let place : next + length more ≡ at + length (first ++ more) = omega (arith, length-append first more) in
    ap₂ (λ (a b : List ℕ). a ++ (first ++ b))
    (before_stored t next more at (omega arith) (omega arith))
    (drop_at (take next t) (more ++ rest) (at + length first) long ∙ ap (λ (k : ℕ). more ++ drop k t) place)
    ∙ ap (λ (l : List ℕ). take at t ++ l) (sym (append_assoc first more (drop (at + length (first ++ more)) t)))

-- `write_bytes`: a part that a row was copied into
pub part_stored : (t : List ℕ) (at many : ℕ) (row part : List ℕ) → part ≡ row → many ≡ length row → put_mid at many t part ≡ stored t at row
unfolding stored
part_stored t at many row part e h =
    put_mid-paste at many t part row (length row) e (sym h) refl
    ∙ rw (take-length row) (append_assoc (take at t) row (drop (at + length row) t))

pub length_words : (ws : List ℕ) → length (words_bytes ws) ≡ 2 * length ws
unfolding words_bytes word_bytes
length_words [] = refl
length_words (w ∷ ws) = omega (arith, length_words ws)

-- the bytes of the word i
pub high_byte : (ws : List ℕ) (i : ℕ) → i < length ws → get_or (words_bytes ws) (2 * i) 0 ≡ get_or ws i 0 / 256
unfolding words_bytes word_bytes
high_byte [] i h = absurd (omega arith)
high_byte (w ∷ ws) zero h = refl
high_byte (w ∷ ws) (suc i) h =
    let place : 2 * suc i ≡ suc (suc (2 * i)) = omega arith in
    ap (λ (k : ℕ). get_or (words_bytes (w ∷ ws)) k 0) place ∙ high_byte ws i (omega arith)

pub low_byte : (ws : List ℕ) (i : ℕ) → i < length ws → get_or (words_bytes ws) (2 * i + 1) 0 ≡ get_or ws i 0 % 256
unfolding words_bytes word_bytes
low_byte [] i h = absurd (omega arith)
low_byte (w ∷ ws) zero h = refl
low_byte (w ∷ ws) (suc i) h =
    let place : 2 * suc i + 1 ≡ suc (suc (2 * i + 1)) = omega arith in
    ap (λ (k : ℕ). get_or (words_bytes (w ∷ ws)) k 0) place ∙ low_byte ws i (omega arith)

-- so many numbers of a source, from one of them on
module _ (source : List ℕ) (from many : ℕ) (inside : from + many ≤ length source) where
  abbrev pub chosen : List ℕ
  chosen = take many (drop from source)

  pub length_chosen : length chosen ≡ many
  length_chosen = length-take-le many (drop from source) (omega (arith, length-drop from source))

  pub chosen_at : (i : ℕ) → i < many → get_or chosen i 0 ≡ get_or source (from + i) 0
  chosen_at i h = get_or-take many (drop from source) i 0 h ∙ get_or-drop from source i 0

  module _ (before : List ℕ) (at : ℕ) where
    -- `write_data`: a turn, and the end
    pub bytes_more_lem : (i : ℕ) (image : List ℕ) → at + many ≤ length before → Storing before at chosen i image → i < many → Storing before at chosen (i + 1) (set image (at + i) (get_or source (from + i) 0))
    bytes_more_lem i image fits s h =
        subst (λ (v : ℕ). Storing before at chosen (i + 1) (set image (at + i) v)) (chosen_at i h) (store_more s (omega (arith, length_chosen)) (omega (arith, length_chosen)))

    pub bytes_end : (i : ℕ) (image : List ℕ) → Storing before at chosen i image → many ≤ i → image ≡ stored before at chosen
    bytes_end i image s h = store_end s (omega (arith, length_chosen))

    -- `write_words`: a turn, and the end
    pub words_more_lem : (i : ℕ) (image : List ℕ) → at + 2 * many ≤ length before → Storing before at (words_bytes chosen) (2 * i) image → i < many →
        Storing before at (words_bytes chosen) (2 * (i + 1)) (set (set image (at + 2 * i) (get_or source (from + i) 0 / 256)) (at + 2 * i + 1) (get_or source (from + i) 0 % 256))
    words_more_lem i image fits s h =
        let long : length (words_bytes chosen) ≡ 2 * many = omega (arith, length_words chosen, length_chosen) in
        let word = chosen_at i h in
        let high : get_or (words_bytes chosen) (2 * i) 0 ≡ get_or source (from + i) 0 / 256 = high_byte chosen i (omega (arith, length_chosen)) ∙ ap (λ (w : ℕ). w / 256) word in
        let low : get_or (words_bytes chosen) (2 * i + 1) 0 ≡ get_or source (from + i) 0 % 256 = low_byte chosen i (omega (arith, length_chosen)) ∙ ap (λ (w : ℕ). w % 256) word in
        let half = subst (λ (v : ℕ). Storing before at (words_bytes chosen) (2 * i + 1) (set image (at + 2 * i) v)) high (store_more s (omega arith) (omega arith)) in
        let whole = subst (λ (v : ℕ). Storing before at (words_bytes chosen) (2 * i + 1 + 1) (set (set image (at + 2 * i) (get_or source (from + i) 0 / 256)) (at + (2 * i + 1)) v)) low (store_more half (omega arith) (omega arith)) in
        let place : at + (2 * i + 1) ≡ at + 2 * i + 1 = omega arith in
        let next : 2 * i + 1 + 1 ≡ 2 * (i + 1) = omega arith in
        rw (place, next) at whole

    pub words_end : (i : ℕ) (image : List ℕ) → Storing before at (words_bytes chosen) (2 * i) image → many ≤ i → image ≡ stored before at (words_bytes chosen)
    words_end i image s h = store_end s (omega (arith, length_words chosen, length_chosen))
