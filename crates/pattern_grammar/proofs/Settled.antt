-- Every tree of the grammar is written as one in which `mut` behind `&` is the reference's, which is all that the grammar alone asks of a
-- tree. Assumes nothing.
use Prim.Native.Nat.{ℕ}
use mathlib.Core.Path.{◌≡◌, refl, ap, ◌∙◌}
use mathlib.Core.Bool.{Bool, true, false, not, ◌&&◌, ◌||◌}
use mathlib.Core.Option.{Option, none, some}
use mathlib.Core.List.{List, ◌∷◌}
use Rattle.image.proofs.Bools.{and_true}
use Rattle.decimal_values.specs.Values.{integer_value}
use Rattle.pattern_grammar.specs.Lexemes.{Spot, Identifier, Lexeme, mark, comma_mark, or_mark, close_brace_mark, mut_mark, colon_mark, bind_mark, dot_dot_mark, over, loosely, wide}
use Rattle.pattern_grammar.specs.Trees.{LiteralPattern, true_at, false_at, character, whole, negative, RangeBound, constant, place, BoundName, bare_name, Ampersand, ListHead, tuple_at, struct_at, slice_at, closer, FieldKey, index, label, Pattern, alone, or, NoTopAlt, plain, between, upward, up_to, WithoutRange, literal, ident, ident_at, wild, rest, reference, path, list, list_to, record_of, record_to, record_dots, ListItems, no_item, item, RecordFields, no_field, field, RecordField, keyed, short, optional_t, name_t, ampersand_t, head_t, record_t, key_t, pattern_t, alt_t, plain_t, items_t, fields_t, field_t}
use Rattle.pattern_grammar.specs.Admitted.{open_at, when_strict, open_item_at, RestRoom, no_rest, fits_rest, behind_name, behind_bar, item_room, second, is_mut_first, begins_mut, mut_is_own, literal_fits, bound_fits, key_fits, is_none, pattern_ok, alt_ok, plain_ok, items_ok, fields_ok, field_ok, admitted}

-- a reference of a name, with the name's `mut` for its own
unfoldable pub own_name : Ampersand → Option Spot → Option Spot → Identifier → (BoundName → WithoutRange) → WithoutRange
own_name a none (some u) n go = reference a (some u) (go (bare_name n))
own_name a none none n go = reference a none (go (bare_name n))
own_name a (some r) m n go = reference a none (go (record { by_ref = some r; mutable = m; called = n }))

unfoldable pub own_plain : Ampersand → WithoutRange → WithoutRange
own_plain a (literal v) = reference a none (literal v)
own_plain a (ident b) = own_name a b.by_ref b.mutable b.called ident
own_plain a (ident_at b c x) = own_name a b.by_ref b.mutable b.called (λ d. ident_at d c x)
own_plain a (wild q) = reference a none (wild q)
own_plain a (rest q) = reference a none (rest q)
own_plain a (reference b m w) = reference a none (reference b m w)
own_plain a (path p c n) = reference a none (path p c n)
own_plain a (list h is q) = reference a none (list h is q)
own_plain a (list_to h is p q) = reference a none (list_to h is p q)
own_plain a (record_of h fs q) = reference a none (record_of h fs q)
own_plain a (record_to h fs f q) = reference a none (record_to h fs f q)
own_plain a (record_dots h fs d q) = reference a none (record_dots h fs d q)

unfoldable pub owned : Ampersand → Option Spot → WithoutRange → WithoutRange
owned a none w = own_plain a w
owned a (some q) w = reference a (some q) w

-- the tree with each `mut` where it belongs
unfoldable mutual
  pub settled : Pattern → Pattern
  settled (alone lead a) = alone lead (settled_alt a)
  settled (or p c a) = or (settled p) c (settled_alt a)

  pub settled_alt : NoTopAlt → NoTopAlt
  settled_alt (plain w) = plain (settled_plain w)
  settled_alt (between a d b) = between a d b
  settled_alt (upward a q) = upward a q
  settled_alt (up_to d b) = up_to d b

  pub settled_plain : WithoutRange → WithoutRange
  settled_plain (literal v) = literal v
  settled_plain (ident b) = ident b
  settled_plain (ident_at b c a) = ident_at b c (settled_alt a)
  settled_plain (wild q) = wild q
  settled_plain (rest q) = rest q
  settled_plain (reference a m w) = owned a m (settled_plain w)
  settled_plain (path p c n) = path p c n
  settled_plain (list h is q) = list h (settled_items is) q
  settled_plain (list_to h is p q) = list_to h (settled_items is) (settled p) q
  settled_plain (record_of h fs q) = record_of h (settled_fields fs) q
  settled_plain (record_to h fs f q) = record_to h (settled_fields fs) (settled_field f) q
  settled_plain (record_dots h fs d q) = record_dots h (settled_fields fs) d q

  pub settled_items : ListItems → ListItems
  settled_items no_item = no_item
  settled_items (item is p c) = item (settled_items is) (settled p) c

  pub settled_fields : RecordFields → RecordFields
  settled_fields no_field = no_field
  settled_fields (field fs f c) = field (settled_fields fs) (settled_field f) c

  pub settled_field : RecordField → RecordField
  settled_field (keyed key c p) = keyed key c (settled p)
  settled_field (short b) = short b

name_owned :
    (by_ref mutable : Option Spot) (a : Ampersand) (n : Identifier) (k : List Lexeme)
    → plain_t (own_name a by_ref mutable n ident) k ≡ plain_t (reference a none (ident (record { by_ref = by_ref; mutable = mutable; called = n }))) k
unfolding own_name plain_t name_t optional_t
name_owned none none a n k = refl
name_owned none (some u) a n k = refl
name_owned (some r) mutable a n k = refl

bound_owned :
    (by_ref mutable : Option Spot) (a : Ampersand) (n : Identifier) (c : Spot) (x : NoTopAlt) (k : List Lexeme)
    → plain_t (own_name a by_ref mutable n (λ d. ident_at d c x)) k
    ≡ plain_t (reference a none (ident_at (record { by_ref = by_ref; mutable = mutable; called = n }) c x)) k
unfolding own_name plain_t name_t optional_t
bound_owned none none a n c x k = refl
bound_owned none (some u) a n c x k = refl
bound_owned (some r) mutable a n c x k = refl

plain_owned : (w : WithoutRange) (a : Ampersand) (k : List Lexeme) → plain_t (own_plain a w) k ≡ plain_t (reference a none w) k
unfolding own_plain
plain_owned (literal v) a k = refl
plain_owned (ident b) a k = name_owned b.by_ref b.mutable a b.called k
plain_owned (ident_at b c x) a k = bound_owned b.by_ref b.mutable a b.called c x k
plain_owned (wild q) a k = refl
plain_owned (rest q) a k = refl
plain_owned (reference b m w) a k = refl
plain_owned (path p c n) a k = refl
plain_owned (list h is q) a k = refl
plain_owned (list_to h is p q) a k = refl
plain_owned (record_of h fs q) a k = refl
plain_owned (record_to h fs f q) a k = refl
plain_owned (record_dots h fs d q) a k = refl

owned_written : (m : Option Spot) (a : Ampersand) (w : WithoutRange) (k : List Lexeme) → plain_t (owned a m w) k ≡ plain_t (reference a m w) k
unfolding owned
owned_written none a w k = plain_owned w a k
owned_written (some q) a w k = refl

-- it is written alike
mutual
  unfolding settled pattern_t

  pub settled_written : (p : Pattern) (k : List Lexeme) → pattern_t (settled p) k ≡ pattern_t p k
  settled_written (alone lead a) k = ap (optional_t lead or_mark) (alt_written a k)
  settled_written (or p c a) k =
      settled_written p (mark or_mark c ∷ alt_t (settled_alt a) k) ∙ ap (λ x. pattern_t p (mark or_mark c ∷ x)) (alt_written a k)

  alt_written : (a : NoTopAlt) (k : List Lexeme) → alt_t (settled_alt a) k ≡ alt_t a k
  alt_written (plain w) k = plain_written w k
  alt_written (between a d b) k = refl
  alt_written (upward a q) k = refl
  alt_written (up_to d b) k = refl

  plain_written : (w : WithoutRange) (k : List Lexeme) → plain_t (settled_plain w) k ≡ plain_t w k
  plain_written (literal v) k = refl
  plain_written (ident b) k = refl
  plain_written (ident_at b c a) k = ap (λ x. name_t b (mark bind_mark c ∷ x)) (alt_written a k)
  plain_written (wild q) k = refl
  plain_written (rest q) k = refl
  plain_written (reference a m w) k =
      owned_written m a (settled_plain w) k ∙ ap (λ x. ampersand_t a ∷ optional_t m mut_mark x) (plain_written w k)
  plain_written (path p c n) k = refl
  plain_written (list h is q) k = ap (head_t h) (items_written is (mark (closer h) q ∷ k))
  plain_written (list_to h is p q) k =
      ap (head_t h)
      (items_written is (pattern_t (settled p) (mark (closer h) q ∷ k)) ∙ ap (items_t is) (settled_written p (mark (closer h) q ∷ k)))
  plain_written (record_of h fs q) k = ap (record_t h) (fields_written fs (mark close_brace_mark q ∷ k))
  plain_written (record_to h fs f q) k =
      ap (record_t h)
      (fields_written fs (field_t (settled_field f) (mark close_brace_mark q ∷ k)) ∙ ap (fields_t fs) (field_written f (mark close_brace_mark q ∷ k)))
  plain_written (record_dots h fs d q) k = ap (record_t h) (fields_written fs (mark dot_dot_mark d ∷ mark close_brace_mark q ∷ k))

  items_written : (is : ListItems) (k : List Lexeme) → items_t (settled_items is) k ≡ items_t is k
  items_written no_item k = refl
  items_written (item is p c) k =
      items_written is (pattern_t (settled p) (mark comma_mark c ∷ k)) ∙ ap (items_t is) (settled_written p (mark comma_mark c ∷ k))

  fields_written : (fs : RecordFields) (k : List Lexeme) → fields_t (settled_fields fs) k ≡ fields_t fs k
  fields_written no_field k = refl
  fields_written (field fs f c) k =
      fields_written fs (field_t (settled_field f) (mark comma_mark c ∷ k)) ∙ ap (fields_t fs) (field_written f (mark comma_mark c ∷ k))

  field_written : (f : RecordField) (k : List Lexeme) → field_t (settled_field f) k ≡ field_t f k
  field_written (keyed key c p) k = ap (λ x. key_t key ∷ mark colon_mark c ∷ x) (settled_written p k)
  field_written (short b) k = refl

-- by the grammar alone no integer is over 16 bytes, and no item open
not_wide : (b : Bool) → not (b && false) ≡ true
not_wide true = refl
not_wide false = refl

or_right : (b : Bool) → (b || true) ≡ true
or_right true = refl
or_right false = refl

literal_loose : (v : LiteralPattern) (text : List ℕ) → literal_fits (loosely text) v ≡ true
unfolding literal_fits wide
literal_loose (true_at q) text = refl
literal_loose (false_at q) text = refl
literal_loose (character v q) text = refl
literal_loose (whole q) text = not_wide (over false (integer_value text q.from q.to))
literal_loose (negative c q) text = not_wide (over true (integer_value text q.from q.to))

bound_loose : (b : RangeBound) (text : List ℕ) → bound_fits (loosely text) b ≡ true
unfolding bound_fits
bound_loose (constant v) text = literal_loose v text
bound_loose (place p) text = refl

key_loose : (key : FieldKey) (text : List ℕ) → key_fits (loosely text) key ≡ true
unfolding key_fits wide
key_loose (index q) text = not_wide (over false (integer_value text q.from q.to))
key_loose (label n) text = refl

when_loose : (o : Option ℕ) (text : List ℕ) → is_none (when_strict (loosely text) o) ≡ true
unfolding is_none when_strict
when_loose none text = refl
when_loose (some at) text = refl

item_loose : (h : ListHead) (p : Pattern) (text : List ℕ) → is_none (open_item_at (loosely text) h p) ≡ true
unfolding open_item_at is_none
item_loose (tuple_at q) p text = refl
item_loose (struct_at n q) p text = refl
item_loose (slice_at q) p text = when_loose (open_at p) text

name_own :
    (by_ref mutable : Option Spot) (a : Ampersand) (n : Identifier) (text : List ℕ) (room : RestRoom)
    → plain_ok (loosely text) room (own_name a by_ref mutable n ident) ≡ true
unfolding own_name plain_ok mut_is_own begins_mut is_mut_first second
name_own none none a n text room = refl
name_own none (some u) a n text room = refl
name_own (some r) none a n text room = refl
name_own (some r) (some u) a n text room = refl

bound_own :
    (by_ref mutable : Option Spot) (a : Ampersand) (n : Identifier) (c : Spot) (x : NoTopAlt) (text : List ℕ) (room : RestRoom)
    → alt_ok (loosely text) no_rest x ≡ true → plain_ok (loosely text) room (own_name a by_ref mutable n (λ d. ident_at d c x)) ≡ true
unfolding own_name plain_ok mut_is_own begins_mut is_mut_first second behind_name
bound_own none none a n c x text room e = e
bound_own none (some u) a n c x text room e = e
bound_own (some r) none a n c x text room e = e
bound_own (some r) (some u) a n c x text room e = e

plain_own :
    (w : WithoutRange) (a : Ampersand) (text : List ℕ) (room : RestRoom)
    → plain_ok (loosely text) no_rest w ≡ true → plain_ok (loosely text) room (own_plain a w) ≡ true
unfolding own_plain plain_ok mut_is_own begins_mut behind_name
plain_own (literal v) a text room e = e
plain_own (ident b) a text room e = name_own b.by_ref b.mutable a b.called text room
plain_own (ident_at b c x) a text room e = bound_own b.by_ref b.mutable a b.called c x text room e
plain_own (wild q) a text room e = e
plain_own (rest q) a text room e = e
plain_own (reference b m w) a text room e = e
plain_own (path p c n) a text room e = e
plain_own (list h is q) a text room e = e
plain_own (list_to h is p q) a text room e = e
plain_own (record_of h fs q) a text room e = e
plain_own (record_to h fs f q) a text room e = e
plain_own (record_dots h fs d q) a text room e = e

owned_ok :
    (m : Option Spot) (a : Ampersand) (w : WithoutRange) (text : List ℕ) (room : RestRoom)
    → plain_ok (loosely text) no_rest w ≡ true → plain_ok (loosely text) room (owned a m w) ≡ true
unfolding owned plain_ok mut_is_own
owned_ok none a w text room e = plain_own w a text room e
owned_ok (some q) a w text room e = e

mutual
  unfolding settled pattern_ok

  settled_ok : (p : Pattern) (text : List ℕ) (room : RestRoom) → pattern_ok (loosely text) room (settled p) ≡ true
  settled_ok (alone lead a) text room = alt_ok_lem a text (behind_bar lead room)
  settled_ok (or p c a) text room =
      and_true (pattern_ok (loosely text) no_rest (settled p)) (alt_ok (loosely text) no_rest (settled_alt a)) (settled_ok p text no_rest) (alt_ok_lem a text no_rest)

  alt_ok_lem : (a : NoTopAlt) (text : List ℕ) (room : RestRoom) → alt_ok (loosely text) room (settled_alt a) ≡ true
  alt_ok_lem (plain w) text room = plain_ok_lem w text room
  alt_ok_lem (between a d b) text room =
      and_true (bound_fits (loosely text) a) (bound_fits (loosely text) b) (bound_loose a text) (bound_loose b text)
  alt_ok_lem (upward a q) text room = bound_loose a text
  alt_ok_lem (up_to d b) text room = bound_loose b text

  plain_ok_lem : (w : WithoutRange) (text : List ℕ) (room : RestRoom) → plain_ok (loosely text) room (settled_plain w) ≡ true
  plain_ok_lem (literal v) text room = literal_loose v text
  plain_ok_lem (ident b) text room = refl
  plain_ok_lem (ident_at b c a) text room = alt_ok_lem a text (behind_name room)
  plain_ok_lem (wild q) text room = refl
  plain_ok_lem (rest q) text room = or_right (fits_rest room)
  plain_ok_lem (reference a m w) text room = owned_ok m a (settled_plain w) text room (plain_ok_lem w text no_rest)
  plain_ok_lem (path p c n) text room = refl
  plain_ok_lem (list h is q) text room = items_ok_lem is text h
  plain_ok_lem (list_to h is p q) text room =
      and_true (items_ok (loosely text) h (settled_items is)) _ (items_ok_lem is text h)
      (and_true (pattern_ok (loosely text) (item_room h (settled_items is)) (settled p)) _ (settled_ok p text (item_room h (settled_items is)))
      (item_loose h (settled p) text))
  plain_ok_lem (record_of h fs q) text room = fields_ok_lem fs text
  plain_ok_lem (record_to h fs f q) text room =
      and_true (fields_ok (loosely text) (settled_fields fs)) (field_ok (loosely text) (settled_field f)) (fields_ok_lem fs text) (field_ok_lem f text)
  plain_ok_lem (record_dots h fs d q) text room = fields_ok_lem fs text

  items_ok_lem : (is : ListItems) (text : List ℕ) (h : ListHead) → items_ok (loosely text) h (settled_items is) ≡ true
  items_ok_lem no_item text h = refl
  items_ok_lem (item is p c) text h =
      and_true (items_ok (loosely text) h (settled_items is)) _ (items_ok_lem is text h)
      (and_true (pattern_ok (loosely text) (item_room h (settled_items is)) (settled p)) _ (settled_ok p text (item_room h (settled_items is)))
      (item_loose h (settled p) text))

  fields_ok_lem : (fs : RecordFields) (text : List ℕ) → fields_ok (loosely text) (settled_fields fs) ≡ true
  fields_ok_lem no_field text = refl
  fields_ok_lem (field fs f c) text =
      and_true (fields_ok (loosely text) (settled_fields fs)) (field_ok (loosely text) (settled_field f)) (fields_ok_lem fs text) (field_ok_lem f text)

  field_ok_lem : (f : RecordField) (text : List ℕ) → field_ok (loosely text) (settled_field f) ≡ true
  field_ok_lem (keyed key c p) text =
      and_true (key_fits (loosely text) key) (pattern_ok (loosely text) no_rest (settled p)) (key_loose key text) (settled_ok p text no_rest)
  field_ok_lem (short b) text = refl

-- and admitted by the grammar alone
pub settled_admitted : (p : Pattern) (text : List ℕ) → admitted (loosely text) (settled p) ≡ true
unfolding admitted
settled_admitted p text = settled_ok p text no_rest
