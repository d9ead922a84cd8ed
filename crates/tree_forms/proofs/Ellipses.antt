-- The number of items before `..` is a word in every tree that a text has. Assumes nothing.
use Prim.Native.Nat.{ℕ, ◌<◌}
use mathlib.Core.Path.{◌≡◌, refl, ap}
use mathlib.Core.Bool.{Bool, true, false, cond}
use mathlib.Core.Option.{Option, none, some}
use mathlib.Core.List.{List, [], ◌∷◌}
use native.Mathlib.Omega.{arith}
use borrow.Author.Tests.{ltb-false, lt-ltb}
use lib.Dec.{ltb}
use lib.ListN.{length}
use Rattle.image.proofs.Bools.{and_true}
use Rattle.pattern_grammar.specs.Lexemes.{Spot, Lexeme, mark, comma_mark, or_mark, close_brace_mark, mut_mark, bind_mark, dot_dot_mark, end_mark, strictly}
use Rattle.pattern_grammar.specs.Trees.{Ampersand, single, double, ListHead, tuple_at, struct_at, slice_at, closer, Pattern, alone, or, NoTopAlt, plain, between, upward, up_to, WithoutRange, literal, ident, ident_at, wild, rest, reference, path, list, list_to, record_of, record_to, record_dots, ListItems, no_item, item, RecordFields, no_field, field, RecordField, keyed, short, RangeBound, constant, place, pattern_t, alt_t, plain_t, items_t, fields_t, field_t}
use Rattle.pattern_grammar.specs.Admitted.{is_rest}
use Rattle.pattern_grammar.specs.Machine.{done, failed, feed, fresh}
use Rattle.pattern_grammar.specs.Parsed.{lexemes, parsed}
use Rattle.pattern_grammar.proofs.Sound.{sound}
use Rattle.pattern_grammar.proofs.Endings.{text_over}
use Rattle.pattern_syntax.specs.Written.{Written, written, Parts, no_parts, more, begun_at}
use Rattle.pattern_syntax.specs.Reduced.{bound_in, written_bound, written_ident, written_reference, head_at, list_node, item_count, or_else, before_rest, is_part, is_group, one_of, alternatives, written_alt, written_plain, written_items, written_fields, written_field_of, reduced}
use Rattle.pattern_typing.specs.Making.{or_absent}
use Rattle.pattern_reading.specs.Reads.{tree_is, outcome}
use Rattle.tree_forms.specs.Ellipses.{ellipsis_fits, ellipses_fit, parts_ellipses_fit}
use Rattle.tree_forms.proofs.Forms.{tree_read}
use Rattle.tree_forms.proofs.Lengths.{Longer, optional_longer, name_longer, head_longer, record_longer, pattern_longer, items_longer, fields_longer, lexemes_long}

-- so many tokens at most
abbrev Short : List Lexeme → Type 0
Short k = length k < 65536

shorter : {n : ℕ} {k l : List Lexeme} → Longer n k l → Short l → Short k
shorter f h = let a = f.by in omega (arith, a, h)

-- the items before a rest
or_else_word : (o : Option ℕ) (b : Bool) (n : ℕ) → or_absent o < 65536 → n < 65536 → or_absent (or_else o (cond b (some n) none)) < 65536
unfolding or_absent or_else
or_else_word (some x) b n h g = h
or_else_word none true n h g = g
or_else_word none false n h g = omega arith

before_word : (is : ListItems) → item_count is < 65536 → or_absent (before_rest is) < 65536
unfolding item_count before_rest or_absent
before_word no_item h = omega arith
before_word (item is p c) h = or_else_word (before_rest is) (is_rest p) (item_count is) (before_word is (omega arith)) (omega arith)

module _ (text : List ℕ) where
  begun_fits : (at : ℕ) (w : Written) → ellipses_fit w ≡ true → ellipses_fit (begun_at at w) ≡ true
  unfolding begun_at ellipses_fit
  begun_fits at (written old n ps) h = h

  one_fits : (ps : Parts) → parts_ellipses_fit ps ≡ true → ellipses_fit (one_of ps) ≡ true
  unfolding one_of ellipses_fit parts_ellipses_fit ellipsis_fits
  one_fits no_parts h = refl
  one_fits (more no_parts w) h = h
  one_fits (more (more ps v) w) h = h

  more_fits : (ps : Parts) (w : Written) → parts_ellipses_fit ps ≡ true → ellipses_fit w ≡ true → parts_ellipses_fit (more ps w) ≡ true
  unfolding parts_ellipses_fit
  more_fits ps w h g = and_true (parts_ellipses_fit ps) (ellipses_fit w) h g

  bound_fits_lem : (b : RangeBound) → ellipses_fit (written_bound text b) ≡ true
  unfolding bound_in ellipses_fit parts_ellipses_fit ellipsis_fits
  bound_fits_lem (constant l) = refl
  bound_fits_lem (place p) = refl

  reference_fits : (a : Ampersand) (m : Option Spot) (w : Written) → ellipses_fit w ≡ true → ellipses_fit (written_reference a m w) ≡ true
  unfolding written_reference ellipses_fit parts_ellipses_fit ellipsis_fits
  reference_fits (single q) m w h = h
  reference_fits (double q) m w h = h

  list_fits : (h : ListHead) (at : ℕ) (before : Option ℕ) (ps : Parts) → or_absent before < 65536 → parts_ellipses_fit ps ≡ true →
      ellipses_fit (written at (list_node text h before) ps) ≡ true
  unfolding list_node ellipses_fit ellipsis_fits
  list_fits (tuple_at q) at before ps e h = rw (lt-ltb (or_absent before) 65536 e) h
  list_fits (struct_at p q) at before ps e h = rw (lt-ltb (or_absent before) 65536 e) h
  list_fits (slice_at q) at before ps e h = h

  fits_if : (b : Bool) (x y : Written) → ellipses_fit x ≡ true → ellipses_fit y ≡ true → ellipses_fit (cond b x y) ≡ true
  fits_if true x y h g = h
  fits_if false x y h g = g

  parts_if : (b : Bool) (x y : Parts) → parts_ellipses_fit x ≡ true → parts_ellipses_fit y ≡ true → parts_ellipses_fit (cond b x y) ≡ true
  parts_if true x y h g = h
  parts_if false x y h g = g

  mutual
    unfolding pattern_t alt_t plain_t items_t fields_t field_t item_count alternatives written_alt written_plain written_ident written_items written_fields written_field_of ellipses_fit parts_ellipses_fit ellipsis_fits

    pattern_fits_lem : (p : Pattern) (k : List Lexeme) → Short (pattern_t p k) → parts_ellipses_fit (alternatives text p) ≡ true
    pattern_fits_lem (alone none a) k h = alt_fits a k (shorter (optional_longer none or_mark (alt_t a k)) h)
    pattern_fits_lem (alone (some q) a) k h = begun_fits q.from (written_alt text a) (alt_fits a k (shorter (optional_longer (some q) or_mark (alt_t a k)) h))
    pattern_fits_lem (or p c a) k h =
        more_fits (alternatives text p) (written_alt text a) (pattern_fits_lem p (mark or_mark c ∷ alt_t a k) h)
        (alt_fits a k (let l = (pattern_longer p (mark or_mark c ∷ alt_t a k)).by in omega (arith, l, h)))

    alt_fits : (a : NoTopAlt) (k : List Lexeme) → Short (alt_t a k) → ellipses_fit (written_alt text a) ≡ true
    alt_fits (plain w) k h = plain_fits w k h
    alt_fits (between a d b) k h = and_true (ellipses_fit (written_bound text a)) (ellipses_fit (written_bound text b)) (bound_fits_lem a) (bound_fits_lem b)
    alt_fits (upward a q) k h = bound_fits_lem a
    alt_fits (up_to d b) k h = bound_fits_lem b

    plain_fits : (w : WithoutRange) (k : List Lexeme) → Short (plain_t w k) → ellipses_fit (written_plain text w) ≡ true
    plain_fits (literal l) k h = refl
    plain_fits (ident b) k h = refl
    plain_fits (ident_at b c a) k h = alt_fits a k (let l = (name_longer b (mark bind_mark c ∷ alt_t a k)).by in omega (arith, l, h))
    plain_fits (wild q) k h = refl
    plain_fits (rest q) k h = refl
    plain_fits (reference a m w) k h = reference_fits a m (written_plain text w) (plain_fits w k (let l = (optional_longer m mut_mark (plain_t w k)).by in omega (arith, l, h)))
    plain_fits (path p c n) k h = refl
    plain_fits (list h is q) k t =
        let items = shorter (head_longer h (items_t is (mark (closer h) q ∷ k))) t in
        let count = (items_longer is (mark (closer h) q ∷ k)).by in
        list_fits h (head_at h) (before_rest is) (written_items text h is) (before_word is (omega (arith, count, items))) (items_fits is h (mark (closer h) q ∷ k) items)
    plain_fits (list_to h is p q) k t =
        let behind = pattern_t p (mark (closer h) q ∷ k) in
        let items = shorter (head_longer h (items_t is behind)) t in
        let count = (items_longer is behind).by in
        let longer = (pattern_longer p (mark (closer h) q ∷ k)).by in
        let all = items_fits is h behind items in
        let one = one_fits (alternatives text p) (pattern_fits_lem p (mark (closer h) q ∷ k) (shorter (items_longer is behind) items)) in
        let most = more (written_items text h is) (one_of (alternatives text p)) in
        let parts = cond (is_part h p) most (written_items text h is) in
        fits_if (is_group h is p) (begun_at (head_at h) (one_of (alternatives text p))) (written (head_at h) (list_node text h (before_rest (item is p q))) parts)
        (begun_fits (head_at h) (one_of (alternatives text p)) one)
        (list_fits h (head_at h) (before_rest (item is p q)) parts (before_word (item is p q) (omega (arith, count, longer, items)))
        (parts_if (is_part h p) most (written_items text h is) (more_fits (written_items text h is) (one_of (alternatives text p)) all one) all))
    plain_fits (record_of h fs q) k t = fields_fits fs (mark close_brace_mark q ∷ k) (shorter (record_longer h (fields_t fs (mark close_brace_mark q ∷ k))) t)
    plain_fits (record_to h fs f q) k t =
        let behind = field_t f (mark close_brace_mark q ∷ k) in
        let fields = shorter (record_longer h (fields_t fs behind)) t in
        more_fits (written_fields text fs) (written_field_of text f) (fields_fits fs behind fields)
        (field_fits f (mark close_brace_mark q ∷ k) (shorter (fields_longer fs behind) fields))
    plain_fits (record_dots h fs d q) k t =
        let behind = mark dot_dot_mark d ∷ mark close_brace_mark q ∷ k in
        fields_fits fs behind (shorter (record_longer h (fields_t fs behind)) t)

    items_fits : (is : ListItems) (h : ListHead) (k : List Lexeme) → Short (items_t is k) → parts_ellipses_fit (written_items text h is) ≡ true
    items_fits no_item h k t = refl
    items_fits (item is p c) h k t =
        let behind = pattern_t p (mark comma_mark c ∷ k) in
        let all = items_fits is h behind t in
        parts_if (is_part h p) (more (written_items text h is) (one_of (alternatives text p))) (written_items text h is)
        (more_fits (written_items text h is) (one_of (alternatives text p)) all
        (one_fits (alternatives text p) (pattern_fits_lem p (mark comma_mark c ∷ k) (shorter (items_longer is behind) t)))) all

    fields_fits : (fs : RecordFields) (k : List Lexeme) → Short (fields_t fs k) → parts_ellipses_fit (written_fields text fs) ≡ true
    fields_fits no_field k t = refl
    fields_fits (field fs f c) k t =
        let behind = field_t f (mark comma_mark c ∷ k) in
        more_fits (written_fields text fs) (written_field_of text f) (fields_fits fs behind t) (field_fits f (mark comma_mark c ∷ k) (shorter (fields_longer fs behind) t))

    field_fits : (f : RecordField) (k : List Lexeme) → Short (field_t f k) → ellipses_fit (written_field_of text f) ≡ true
    field_fits (keyed key c p) k t = one_fits (alternatives text p) (pattern_fits_lem p k (omega arith))
    field_fits (short b) k t = refl

-- The theorem.
pub tree_ellipses : (text : List ℕ) (p : Pattern) → outcome (parsed text) ≡ tree_is p → ellipses_fit (reduced text p) ≡ true
unfolding parsed reduced
tree_ellipses text p h =
    let read = tree_read (parsed text) p (text_over text) h in
    by (ltb 16384 (length text)) refl read.0 read.1
  where
    by : (b : Bool) → ltb 16384 (length text) ≡ b → (e : Spot) → cond b (failed 16384) (feed (strictly text) (lexemes text) fresh) ≡ done p e → ellipses_fit (reduced text p) ≡ true
    by true l e q =
        let z : ◌≡◌ {A = ℕ} 0 1 = cc in
        absurd (omega arith)
    by false l e q =
        let same = ap length (sound (strictly text) (lexemes text) p e q) in
        one_fits text (alternatives text p)
        (pattern_fits_lem text p (mark end_mark e ∷ []) (omega (arith, same, lexemes_long text, ltb-false 16384 (length text) l)))
