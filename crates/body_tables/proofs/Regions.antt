-- A part of the words that is put back with other words is another table of the body, and the other four stay; a word of a part. Assumes nothing.
use Prim.Native.Nat.{ℕ, zero, suc, ◌+◌, ◌-◌, ◌≤◌, ◌<◌}
use mathlib.Core.Path.{◌≡◌, refl, sym, ap, ◌∙◌}
use mathlib.Core.List.{List, [], ◌∷◌, ◌++◌}
use native.Mathlib.Nat.{zero-add, suc-add}
use native.Mathlib.Omega.{arith}
use lib.ListN.{length, get_or, take, drop}
use lib.Seq.{length-take-le, take-nil, take_at, drop_at, drop-drop, get_or-take}
use borrow.Rule.Slice.PartMut.{mid_of, post_of, put_mid, take_put, drop_put, mid_len}
use Rattle.row_tables.proofs.Tables.{take_less}
use Rattle.state.specs.State.{body}
use Rattle.mir.specs.Blocks.{block_words}
use Rattle.mir.specs.Statements.{statement_words}
use Rattle.body_tables.specs.Layout.{body_words, statements_at, locals_at, scopes_at, entries_at, body_of, with_blocks, with_statements, with_locals, with_scopes, with_entries}

take_drop : (n m : ℕ) (l : List ℕ) → take m (drop n l) ≡ drop n (take (n + m) l)
take_drop zero m l = ap (λ (k : ℕ). take k l) (sym (zero-add m))
take_drop (suc n) m [] = take-nil m ∙ sym (ap (drop (suc n)) (take-nil (suc n + m)))
take_drop (suc n) m (x ∷ l) = take_drop n m l ∙ sym (ap (λ (k : ℕ). drop (suc n) (take k (x ∷ l))) (suc-add n m))

get_d_drop : (n : ℕ) (l : List ℕ) (i : ℕ) → get_or (drop n l) i 0 ≡ get_or l (n + i) 0
get_d_drop zero l i = ap (λ (k : ℕ). get_or l k 0) (sym (zero-add i))
get_d_drop (suc n) [] i = refl
get_d_drop (suc n) (x ∷ l) i = get_d_drop n l i ∙ sym (ap (λ (k : ℕ). get_or (x ∷ l) k 0) (suc-add n i))

-- a word of a part, by its place among all
pub word_of_lem : (p m : ℕ) (w : List ℕ) (i : ℕ) → i < m → get_or w (p + i) 0 ≡ get_or (mid_of p m w) i 0
word_of_lem p m w i h = sym (get_or-take m (drop p w) i 0 h ∙ get_d_drop p w i)

-- the words w, and t in the place of those from a to e
module _ (w t : List ℕ) (a e : ℕ) (h : a ≤ e) (fits : e ≤ length w) (long : length t ≡ e - a) where
  abbrev after : List ℕ
  after = put_mid a (e - a) w t

  -- the part itself
  part_in : mid_of a (e - a) after ≡ t
  part_in =
      ap (take (e - a)) (drop_at (take a w) (t ++ post_of a (e - a) w) a (length-take-le a w (omega arith))) ∙ take_at t (post_of a (e - a) w) (e - a) long

  -- a part before it
  part_before : (p m : ℕ) → p + m ≤ a → mid_of p m after ≡ mid_of p m w
  part_before p m less =
      take_drop p m after ∙ ap (drop p) (take_less (p + m) a after w less (take_put a (e - a) w t (omega arith))) ∙ sym (take_drop p m w)

  -- a part behind it
  part_behind_lem : (p m : ℕ) → e ≤ p → mid_of p m after ≡ mid_of p m w
  part_behind_lem p m more =
      let split : p ≡ e + (p - e) = omega arith in
      let from : (l : List ℕ) → drop p l ≡ drop (p - e) (drop e l) = λ l. ap (λ (k : ℕ). drop k l) split ∙ sym (drop-drop (p - e) e l) in
      ap (take m) (from after ∙ ap (drop (p - e)) (drop_put a e w t h fits long) ∙ sym (from w))

-- another table in the place of each: what a call gives that was lent its part
module _ (w : List ℕ) (size : length w ≡ body_words) {t u : List ℕ} (is : t ≡ u) where
  pub put_blocks : length t ≡ block_words → body_of (put_mid 0 block_words w t) ≡ with_blocks (body_of w) u
  unfolding body_of
  put_blocks long =
      let behind = part_behind_lem w t 0 statements_at (omega arith) (omega arith) long in
      λ i. body ((part_in w t 0 statements_at (omega arith) (omega arith) long ∙ is) i) (behind statements_at statement_words (omega arith) i) (behind locals_at 512 (omega arith) i) (behind scopes_at 32 (omega arith) i) (behind entries_at 1024 (omega arith) i)

  pub put_statements : length t ≡ statement_words → body_of (put_mid statements_at statement_words w t) ≡ with_statements (body_of w) u
  unfolding body_of
  put_statements long =
      let before = part_before w t statements_at locals_at (omega arith) (omega arith) long in
      let behind = part_behind_lem w t statements_at locals_at (omega arith) (omega arith) long in
      λ i. body (before 0 block_words (omega arith) i) ((part_in w t statements_at locals_at (omega arith) (omega arith) long ∙ is) i) (behind locals_at 512 (omega arith) i) (behind scopes_at 32 (omega arith) i) (behind entries_at 1024 (omega arith) i)

  pub put_locals : length t ≡ 512 → body_of (put_mid locals_at 512 w t) ≡ with_locals (body_of w) u
  unfolding body_of
  put_locals long =
      let before = part_before w t locals_at scopes_at (omega arith) (omega arith) long in
      let behind = part_behind_lem w t locals_at scopes_at (omega arith) (omega arith) long in
      λ i. body (before 0 block_words (omega arith) i) (before statements_at statement_words (omega arith) i) ((part_in w t locals_at scopes_at (omega arith) (omega arith) long ∙ is) i) (behind scopes_at 32 (omega arith) i) (behind entries_at 1024 (omega arith) i)

  pub put_scopes : length t ≡ 32 → body_of (put_mid scopes_at 32 w t) ≡ with_scopes (body_of w) u
  unfolding body_of
  put_scopes long =
      let before = part_before w t scopes_at entries_at (omega arith) (omega arith) long in
      let behind = part_behind_lem w t scopes_at entries_at (omega arith) (omega arith) long in
      λ i. body (before 0 block_words (omega arith) i) (before statements_at statement_words (omega arith) i) (before locals_at 512 (omega arith) i) ((part_in w t scopes_at entries_at (omega arith) (omega arith) long ∙ is) i) (behind entries_at 1024 (omega arith) i)

  pub put_entries : length t ≡ 1024 → body_of (put_mid entries_at 1024 w t) ≡ with_entries (body_of w) u
  unfolding body_of
  put_entries long =
      let before = part_before w t entries_at body_words (omega arith) (omega arith) long in
      λ i. body (before 0 block_words (omega arith) i) (before statements_at statement_words (omega arith) i) (before locals_at 512 (omega arith) i) (before scopes_at 32 (omega arith) i) ((part_in w t entries_at body_words (omega arith) (omega arith) long ∙ is) i)
