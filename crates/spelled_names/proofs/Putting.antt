-- Bytes put behind those in use, in one copy and in two steps. Assumes nothing.
use Prim.Native.Nat.{ℕ, ◌+◌, ◌-◌, ◌≤◌}
use mathlib.Core.Path.{◌≡◌, refl, sym, ap, ◌∙◌}
use mathlib.Core.List.{List, [], ◌∷◌, ◌++◌, append_assoc}
use native.Mathlib.Omega.{arith}
use lib.ListN.{length, set, take, drop, length-append, length-drop}
use lib.Seq.{length-take-le, take_at, drop_at, take-length, paste}
use borrow.Rule.Slice.PartMut.{put_mid}
use Rattle.std.proofs.lemmas.Slice.{put_mid-paste}
use Rattle.row_tables.specs.Rows.{stored}
use Rattle.row_tables.proofs.Loops.{Storing, store_start, store_more, store_end}
use Rattle.row_tables.proofs.Tables.{before_stored}
use Rattle.text_chars.specs.Bytes.{ascii}
use Rattle.pattern_syntax.specs.Reduced.{bytes_from}
use Rattle.spelled_names.specs.Spelling.{Spelled}
use Rattle.spelled_names.proofs.Cutting.{take_fewer, bytes_below, bytes_split}

-- what is stored is spelled
pub stored_spelled : (t : List ℕ) (named : ℕ) (bytes : List ℕ) → named ≤ length t → Spelled t named bytes (named + length bytes) (stored t named bytes)
unfolding stored bytes_from
stored_spelled t named bytes h =
    let k : named + length bytes - named ≡ length bytes = omega arith in
    record {
      below = before_stored t named bytes named (omega arith) h;
      there =
          ap (λ (l : List ℕ). take (named + length bytes - named) l) (drop_at (take named t) (bytes ++ drop (named + length bytes) t) named (length-take-le named t h))
          ∙ (ap (λ n. take n (bytes ++ drop (named + length bytes) t)) k ∙ take_at bytes (drop (named + length bytes) t) (length bytes) refl);
      long = refl;
    }

-- a whole row that is pasted is stored
paste_stored : (t : List ℕ) (at : ℕ) (row : List ℕ) → paste t at row (length row) ≡ stored t at row
unfolding stored
paste_stored t at row = rw (take-length row) (append_assoc (take at t) row (drop (at + length row) t))

module _ (text : List ℕ) (from to : ℕ) (h : from ≤ to) (inside : to ≤ length text) where
  length_part : length (bytes_from text from to) ≡ to - from
  unfolding bytes_from
  length_part = length-take-le (to - from) (drop from text) (omega (arith, length-drop from text))

  -- the bytes of a text, copied into a part
  pub part_spelled :
      (before : List ℕ) (named : ℕ) (part : List ℕ) → named + (to - from) ≤ length before → part ≡ bytes_from text from to
      → Spelled before named (bytes_from text from to) (named + (to - from)) (put_mid named (named + (to - from) - named) before part)
  part_spelled before named part fits e =
      let many : named + (to - from) - named ≡ length (bytes_from text from to) = omega (arith, length_part) in
      let pasted = put_mid-paste named (named + (to - from) - named) before part (bytes_from text from to) (length (bytes_from text from to)) e (sym many) refl in
      let all : put_mid named (named + (to - from) - named) before part ≡ stored before named (bytes_from text from to) = pasted ∙ paste_stored before named (bytes_from text from to) in
      let w = stored_spelled before named (bytes_from text from to) (omega arith) in
      rw (length_part, ← all) at w

-- `::`
pub joint_spelled : (t : List ℕ) (named : ℕ) → named + 2 ≤ length t → Spelled t named (ascii "::") (named + 2) (set (set t named 58) (named + 1) 58)
unfolding ascii
joint_spelled t named h =
    let row : List ℕ = 58 ∷ 58 ∷ [] in
    let s : Storing t named row 0 t = store_start in
    let one : Storing t named row (0 + 1) (set t (named + 0) 58) = store_more s (omega arith) (omega arith) in
    let two : Storing t named row (0 + 1 + 1) (set (set t (named + 0) 58) (named + (0 + 1)) 58) = store_more one (omega arith) (omega arith) in
    let e = store_end two (omega arith) in
    let z : named + 0 ≡ named = omega arith in
    let w = stored_spelled t named row (omega arith) in
    let f : set (set t named 58) (named + 1) 58 ≡ stored t named row = rw z at e in
    rw (sym f) at w

-- one behind the other
pub spelled_both :
    (t : List ℕ) (named : ℕ) (first : List ℕ) (start : ℕ) (t₁ : List ℕ) (second : List ℕ) (end : ℕ) (t₂ : List ℕ)
    → Spelled t named first start t₁ → Spelled t₁ start second end t₂ → Spelled t named (first ++ second) end t₂
spelled_both t named first start t₁ second end t₂ a b =
    let l = a.long in
    let m = b.long in
    record {
      below = take_fewer named start t₂ t₁ (omega arith) b.below ∙ a.below;
      there =
          bytes_split t₂ named start end (omega arith) (omega arith)
          ∙ (ap (λ (x : List ℕ). x ++ bytes_from t₂ start end) (bytes_below start t₂ t₁ named start (omega arith) b.below ∙ a.there)
          ∙ ap (λ (x : List ℕ). first ++ x) b.there);
      long = omega (arith, length-append first second);
    }

-- where `::` ends
pub joint_end : {t : List ℕ} {named start : ℕ} {t₁ : List ℕ} → Spelled t named (ascii "::") start t₁ → start ≡ named + 2
unfolding ascii
joint_end a = a.long
