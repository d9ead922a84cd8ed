-- A tree that the grammar admits has literals of 16 bytes or fewer. Assumes nothing.
use Rattle.std.specs.Prelude.{Some, None}
use Prim.Native.Nat.{ℕ, ◌+◌, ◌^◌, ◌/◌, ◌%◌, ◌<◌}
use mathlib.Core.Path.{◌≡◌, refl, sym, subst}
use mathlib.Core.Bool.{Bool, true, false, not, cond, ◌&&◌, false≢true}
use mathlib.Core.Option.{Option, none, some}
use mathlib.Core.List.{List}
use native.Mathlib.Nat.{div-lt_iff_lt-mul}
use lib.Pow as pow
use borrow.Author.Tests.{ltb-true, lt-ltb}
use lib.Dec.{ltb}
use Rattle.image.proofs.Bools.{and_left, and_right, and_true}
use Rattle.decimal_values.specs.Values.{in_halves, integer_value}
use Rattle.pattern_grammar.specs.Lexemes.{Spot, Source, over, strictly, wide}
use Rattle.pattern_grammar.specs.Trees.{LiteralPattern, true_at, false_at, character, whole, negative, Ampersand, single, double, ListHead, tuple_at, struct_at, slice_at, Pattern, alone, or, NoTopAlt, plain, between, upward, up_to, WithoutRange, literal, ident, ident_at, wild, rest, reference, path, list, list_to, record_of, record_to, record_dots, ListItems, no_item, item, RecordFields, no_field, field, RecordField, keyed, short, RangeBound, constant, place}
use Rattle.pattern_grammar.specs.Admitted.{open_item_at, RestRoom, no_rest, behind_name, behind_bar, item_room, mut_is_own, bound_fits, key_fits, is_none, pattern_ok, alt_ok, plain_ok, items_ok, fields_ok, field_ok, admitted}
use Rattle.pattern_syntax.specs.Written.{Written, written, Parts, no_parts, more, begun_at}
use Rattle.pattern_syntax.specs.Reduced.{bytes_from, literal_value, bound_in, written_bound, written_ident, written_reference, head_at, list_node, before_rest, is_part, is_group, one_of, alternatives, written_alt, written_plain, written_items, written_fields, written_field_of, reduced}
use Rattle.draft_operands.specs.Literals.{literal_fits}
use Rattle.literal_bounds.specs.Bounds.{node_fits, tree_fits, parts_fit}

-- a number whose upper part is small
both_small : (v j k : ℕ) → v / 2 ^ k < 2 ^ j → v < 2 ^ (j + k)
both_small v j k h = subst (λ (m : ℕ). v < m) (sym (pow.pow-add 2 j k)) ((div-lt_iff_lt-mul (pow.pow_pos k)).0 h)

-- a value that is not "over 16 bytes"
value_fits_lem : (v : ℕ) (minus : Bool) → not (over minus (in_halves v) && true) ≡ true → ltb v (2 ^ 128) ≡ true
unfolding in_halves over
value_fits_lem v minus e = go (ltb (v / 2 ^ 64) (2 ^ 64)) refl e
  where
    go : (b : Bool) → ltb (v / 2 ^ 64) (2 ^ 64) ≡ b → not (over minus (cond b (Some (v % 2 ^ 64, v / 2 ^ 64)) None) && true) ≡ true → ltb v (2 ^ 128) ≡ true
    go true q h = lt-ltb v (2 ^ 128) (both_small v 64 64 (ltb-true (v / 2 ^ 64) (2 ^ 64) q))
    go false q h = absurd (false≢true h)

module _ (text : List ℕ) where
  abbrev source : Source
  source = strictly text

  literal_fits_lem : (l : LiteralPattern) → Rattle.pattern_grammar.specs.Admitted.literal_fits source l ≡ true → literal_fits (literal_value text l) ≡ true
  unfolding Rattle.pattern_grammar.specs.Admitted.literal_fits literal_value literal_fits wide integer_value bytes_from
  literal_fits_lem (true_at q) e = refl
  literal_fits_lem (false_at q) e = refl
  literal_fits_lem (character v q) e = refl
  literal_fits_lem (whole q) e = value_fits_lem _ false e
  literal_fits_lem (negative c q) e = value_fits_lem _ true e

  bound_fits_lem : (b : RangeBound) → bound_fits source b ≡ true → tree_fits (written_bound text b) ≡ true
  unfolding bound_fits bound_in tree_fits parts_fit node_fits
  bound_fits_lem (constant l) e = and_true (literal_fits (literal_value text l)) true (literal_fits_lem l e) refl
  bound_fits_lem (place p) e = refl

  begun_fits : (at : ℕ) (w : Written) → tree_fits w ≡ true → tree_fits (begun_at at w) ≡ true
  unfolding begun_at tree_fits
  begun_fits at (written old n ps) h = h

  one_fits : (ps : Parts) → parts_fit ps ≡ true → tree_fits (one_of ps) ≡ true
  unfolding one_of tree_fits parts_fit node_fits
  one_fits no_parts h = refl
  one_fits (more no_parts w) h = h
  one_fits (more (more ps v) w) h = h

  more_fits : (ps : Parts) (w : Written) → parts_fit ps ≡ true → tree_fits w ≡ true → parts_fit (more ps w) ≡ true
  unfolding parts_fit
  more_fits ps w h g = and_true (parts_fit ps) (tree_fits w) h g

  reference_fits : (a : Ampersand) (m : Option Spot) (w : Written) → tree_fits w ≡ true → tree_fits (written_reference a m w) ≡ true
  unfolding written_reference tree_fits parts_fit node_fits
  reference_fits (single q) m w h = h
  reference_fits (double q) m w h = h

  list_fits : (h : ListHead) (at : ℕ) (before : Option ℕ) (ps : Parts) → parts_fit ps ≡ true → tree_fits (written at (list_node text h before) ps) ≡ true
  unfolding list_node tree_fits node_fits
  list_fits (tuple_at q) at before ps h = h
  list_fits (struct_at p q) at before ps h = h
  list_fits (slice_at q) at before ps h = h

  fits_if : (b : Bool) (x y : Written) → tree_fits x ≡ true → tree_fits y ≡ true → tree_fits (cond b x y) ≡ true
  fits_if true x y h g = h
  fits_if false x y h g = g

  parts_if : (b : Bool) (x y : Parts) → parts_fit x ≡ true → parts_fit y ≡ true → parts_fit (cond b x y) ≡ true
  parts_if true x y h g = h
  parts_if false x y h g = g

  mutual
    unfolding pattern_ok alt_ok plain_ok items_ok fields_ok field_ok alternatives written_alt written_plain written_ident written_items written_fields written_field_of tree_fits parts_fit node_fits

    pattern_fits_lem : (p : Pattern) (room : RestRoom) → pattern_ok source room p ≡ true → parts_fit (alternatives text p) ≡ true
    pattern_fits_lem (alone none a) room e = alt_fits a (behind_bar none room) e
    pattern_fits_lem (alone (some q) a) room e = begun_fits q.from (written_alt text a) (alt_fits a (behind_bar (some q) room) e)
    pattern_fits_lem (or p c a) room e =
        let first = pattern_ok source no_rest p in
        let last = alt_ok source no_rest a in
        more_fits (alternatives text p) (written_alt text a) (pattern_fits_lem p no_rest (and_left first last e)) (alt_fits a no_rest (and_right first last e))

    alt_fits : (a : NoTopAlt) (room : RestRoom) → alt_ok source room a ≡ true → tree_fits (written_alt text a) ≡ true
    alt_fits (plain w) room e = plain_fits w room e
    alt_fits (between a d b) room e =
        and_true (tree_fits (written_bound text a)) (tree_fits (written_bound text b))
        (bound_fits_lem a (and_left (bound_fits source a) (bound_fits source b) e)) (bound_fits_lem b (and_right (bound_fits source a) (bound_fits source b) e))
    alt_fits (upward a q) room e = bound_fits_lem a e
    alt_fits (up_to d b) room e = bound_fits_lem b e

    plain_fits : (w : WithoutRange) (room : RestRoom) → plain_ok source room w ≡ true → tree_fits (written_plain text w) ≡ true
    plain_fits (literal l) room e = and_true (literal_fits (literal_value text l)) true (literal_fits_lem l e) refl
    plain_fits (ident b) room e = refl
    plain_fits (ident_at b c a) room e = alt_fits a (behind_name room) e
    plain_fits (wild q) room e = refl
    plain_fits (rest q) room e = refl
    plain_fits (reference a m w) room e =
        reference_fits a m (written_plain text w) (plain_fits w no_rest (and_right (mut_is_own m w) (plain_ok source no_rest w) e))
    plain_fits (path p c n) room e = refl
    plain_fits (list h is q) room e = list_fits h (head_at h) (before_rest is) (written_items text h is) (items_fits is h e)
    plain_fits (list_to h is p q) room e =
        let own = pattern_ok source (item_room h is) p in
        let closed = is_none (open_item_at source h p) in
        let all = items_fits is h (and_left (items_ok source h is) (own && closed) e) in
        let one = one_fits (alternatives text p) (pattern_fits_lem p (item_room h is) (and_left own closed (and_right (items_ok source h is) (own && closed) e))) in
        let most = more (written_items text h is) (one_of (alternatives text p)) in
        let parts = cond (is_part h p) most (written_items text h is) in
        fits_if (is_group h is p) (begun_at (head_at h) (one_of (alternatives text p))) (written (head_at h) (list_node text h (before_rest (item is p q))) parts)
        (begun_fits (head_at h) (one_of (alternatives text p)) one)
        (list_fits h (head_at h) (before_rest (item is p q)) parts
        (parts_if (is_part h p) most (written_items text h is) (more_fits (written_items text h is) (one_of (alternatives text p)) all one) all))
    plain_fits (record_of h fs q) room e = fields_fits fs e
    plain_fits (record_to h fs f q) room e =
        more_fits (written_fields text fs) (written_field_of text f)
        (fields_fits fs (and_left (fields_ok source fs) (field_ok source f) e)) (field_fits f (and_right (fields_ok source fs) (field_ok source f) e))
    plain_fits (record_dots h fs d q) room e = fields_fits fs e

    items_fits : (is : ListItems) (h : ListHead) → items_ok source h is ≡ true → parts_fit (written_items text h is) ≡ true
    items_fits no_item h e = refl
    items_fits (item is p c) h e =
        let own = pattern_ok source (item_room h is) p in
        let closed = is_none (open_item_at source h p) in
        let all = items_fits is h (and_left (items_ok source h is) (own && closed) e) in
        let one = one_fits (alternatives text p) (pattern_fits_lem p (item_room h is) (and_left own closed (and_right (items_ok source h is) (own && closed) e))) in
        parts_if (is_part h p) (more (written_items text h is) (one_of (alternatives text p))) (written_items text h is)
        (more_fits (written_items text h is) (one_of (alternatives text p)) all one) all

    fields_fits : (fs : RecordFields) → fields_ok source fs ≡ true → parts_fit (written_fields text fs) ≡ true
    fields_fits no_field e = refl
    fields_fits (field fs f c) e =
        more_fits (written_fields text fs) (written_field_of text f)
        (fields_fits fs (and_left (fields_ok source fs) (field_ok source f) e)) (field_fits f (and_right (fields_ok source fs) (field_ok source f) e))

    field_fits : (f : RecordField) → field_ok source f ≡ true → tree_fits (written_field_of text f) ≡ true
    field_fits (keyed key c p) e =
        one_fits (alternatives text p) (pattern_fits_lem p no_rest (and_right (key_fits source key) (pattern_ok source no_rest p) e))
    field_fits (short b) e = refl

  -- a tree that is admitted
  pub admitted_fits : (p : Pattern) → admitted source p ≡ true → tree_fits (reduced text p) ≡ true
  unfolding admitted reduced
  admitted_fits p e = one_fits (alternatives text p) (pattern_fits_lem p no_rest e)
