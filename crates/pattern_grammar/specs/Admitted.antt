-- What a tree must meet beside the grammar: one tree for a text, no `a..` as a slice's item, no integer over 16 bytes, and a rest only as a
-- list's item, once. Assumes nothing: these are definitions.
use Rattle.std.specs.Prelude.{ℕ, Bool, true, false, not, cond, ◌&&◌, ◌||◌}
use Rattle.std.proofs.Math.Option.{Option, none, some}
use Rattle.pattern_grammar.specs.Lexemes.{Spot, Source, wide}
use Rattle.pattern_grammar.specs.Trees.{NamePath, segment, inside, LiteralPattern, true_at, false_at, character, whole, negative, RangeBound, constant, place, BoundName, ListHead, tuple_at, struct_at, slice_at, FieldKey, index, label, Pattern, alone, or, NoTopAlt, plain, between, upward, up_to, WithoutRange, literal, ident, ident_at, wild, rest, reference, path, list, list_to, record_of, record_to, record_dots, ListItems, no_item, item, RecordFields, no_field, field, RecordField, keyed, short}

-- the first byte of a path, of a literal and of a bound
unfoldable pub path_at : NamePath → ℕ
path_at (segment n) = n.spot.from
path_at (inside p c n) = path_at p

unfoldable pub literal_at : LiteralPattern → ℕ
literal_at (true_at q) = q.from
literal_at (false_at q) = q.from
literal_at (character v q) = q.from
literal_at (whole q) = q.from
literal_at (negative c q) = c.from

unfoldable pub bound_at : RangeBound → ℕ
bound_at (constant l) = literal_at l
bound_at (place p) = path_at p

-- the first byte of an alternative that is `a..`
unfoldable pub upward_at : NoTopAlt → Option ℕ
upward_at (plain w) = none
upward_at (between a d b) = none
upward_at (upward a q) = some (bound_at a)
upward_at (up_to d b) = none

-- the first byte of a pattern that is `a..` and nothing else
unfoldable pub open_at : Pattern → Option ℕ
open_at (alone none a) = upward_at a
open_at (alone (some q) a) = none
open_at (or p c a) = none

-- a position that matters
unfoldable pub when_strict : Source → Option ℕ → Option ℕ
when_strict text none = none
when_strict text (some at) = cond text.strict (some at) none

-- and of such an item in a slice: "RangeFromPattern cannot be used as a top-level pattern for subpatterns in slice patterns"
-- (patterns.range.constraint-slice)
unfoldable pub open_item_at : Source → ListHead → Pattern → Option ℕ
open_item_at text (tuple_at q) p = none
open_item_at text (struct_at n q) p = none
open_item_at text (slice_at q) p = when_strict text (open_at p)

-- the rest that may stand here: none, `..` alone, or one that is alone or behind a name and `@`
pub data RestRoom : Type 0 where
  no_rest : RestRoom
  bare_rest : RestRoom
  bound_rest : RestRoom

-- a rest may stand here
unfoldable pub fits_rest : RestRoom → Bool
fits_rest no_rest = false
fits_rest bare_rest = true
fits_rest bound_rest = true

-- behind a name and `@`
unfoldable pub behind_name : RestRoom → RestRoom
behind_name no_rest = no_rest
behind_name bare_rest = no_rest
behind_name bound_rest = bare_rest

-- behind a leading `|` there is none
unfoldable pub behind_bar : Option Spot → RestRoom → RestRoom
behind_bar none room = room
behind_bar (some q) room = no_rest

-- "It may only be used in tuple, tuple struct, and slice patterns", and "in an identifier pattern for slice patterns only"
-- (patterns.rest.allowed-patterns)
unfoldable pub list_room : ListHead → RestRoom
list_room (tuple_at q) = bare_rest
list_room (struct_at n q) = bare_rest
list_room (slice_at q) = bound_rest

-- a tree is a rest, or a name bound to one
unfoldable mutual
  pub is_rest_alt : NoTopAlt → Bool
  is_rest_alt (plain w) = is_rest_plain w
  is_rest_alt (between a d b) = false
  is_rest_alt (upward a q) = false
  is_rest_alt (up_to d b) = false

  pub is_rest_plain : WithoutRange → Bool
  is_rest_plain (literal l) = false
  is_rest_plain (ident b) = false
  is_rest_plain (ident_at b c a) = is_rest_alt a
  is_rest_plain (wild q) = false
  is_rest_plain (rest q) = true
  is_rest_plain (reference a m w) = false
  is_rest_plain (path p c n) = false
  is_rest_plain (list h is q) = false
  is_rest_plain (list_to h is p q) = false
  is_rest_plain (record_of h fs q) = false
  is_rest_plain (record_to h fs f q) = false
  is_rest_plain (record_dots h fs d q) = false

unfoldable pub is_rest : Pattern → Bool
is_rest (alone lead a) = is_rest_alt a
is_rest (or p c a) = false

unfoldable pub has_rest : ListItems → Bool
has_rest no_item = false
has_rest (item is p c) = has_rest is || is_rest p

-- "and may only appear once as one of the elements": what is left for an item behind others
unfoldable pub item_room : ListHead → ListItems → RestRoom
item_room h is = cond (has_rest is) no_rest (list_room h)

-- `mut` is written first, so that behind `&` it would be the reference's
unfoldable pub second : Option Spot → Option Spot → Bool
second none none = false
second none (some q) = true
second (some r) none = false
second (some r) (some q) = false

unfoldable pub is_mut_first : BoundName → Bool
is_mut_first b = second b.by_ref b.mutable

unfoldable pub begins_mut : WithoutRange → Bool
begins_mut (literal l) = false
begins_mut (ident b) = is_mut_first b
begins_mut (ident_at b c a) = is_mut_first b
begins_mut (wild q) = false
begins_mut (rest q) = false
begins_mut (reference a m w) = false
begins_mut (path p c n) = false
begins_mut (list h is q) = false
begins_mut (list_to h is p q) = false
begins_mut (record_of h fs q) = false
begins_mut (record_to h fs f q) = false
begins_mut (record_dots h fs d q) = false

unfoldable pub mut_is_own : Option Spot → WithoutRange → Bool
mut_is_own none w = not (begins_mut w)
mut_is_own (some q) w = true

-- integers in 16 bytes
unfoldable pub literal_fits : Source → LiteralPattern → Bool
literal_fits text (true_at q) = true
literal_fits text (false_at q) = true
literal_fits text (character v q) = true
literal_fits text (whole q) = not (wide text false q)
literal_fits text (negative c q) = not (wide text true q)

unfoldable pub bound_fits : Source → RangeBound → Bool
bound_fits text (constant l) = literal_fits text l
bound_fits text (place p) = true

unfoldable pub key_fits : Source → FieldKey → Bool
key_fits text (index q) = not (wide text false q)
key_fits text (label n) = true

unfoldable pub is_none : Option ℕ → Bool
is_none none = true
is_none (some at) = false

-- a tree of a text is admitted, with such a room for a rest; by the grammar alone a rest may stand anywhere
unfoldable mutual
  pub pattern_ok : Source → RestRoom → Pattern → Bool
  pattern_ok text room (alone lead a) = alt_ok text (behind_bar lead room) a
  pattern_ok text room (or p c a) = pattern_ok text no_rest p && alt_ok text no_rest a

  pub alt_ok : Source → RestRoom → NoTopAlt → Bool
  alt_ok text room (plain w) = plain_ok text room w
  alt_ok text room (between a d b) = bound_fits text a && bound_fits text b
  alt_ok text room (upward a q) = bound_fits text a
  alt_ok text room (up_to d b) = bound_fits text b

  pub plain_ok : Source → RestRoom → WithoutRange → Bool
  plain_ok text room (literal l) = literal_fits text l
  plain_ok text room (ident b) = true
  plain_ok text room (ident_at b c a) = alt_ok text (behind_name room) a
  plain_ok text room (wild q) = true
  plain_ok text room (rest q) = fits_rest room || not text.strict
  plain_ok text room (reference a m w) = mut_is_own m w && plain_ok text no_rest w
  plain_ok text room (path p c n) = true
  plain_ok text room (list h is q) = items_ok text h is
  plain_ok text room (list_to h is p q) = items_ok text h is && (pattern_ok text (item_room h is) p && is_none (open_item_at text h p))
  plain_ok text room (record_of h fs q) = fields_ok text fs
  plain_ok text room (record_to h fs f q) = fields_ok text fs && field_ok text f
  plain_ok text room (record_dots h fs d q) = fields_ok text fs

  pub items_ok : Source → ListHead → ListItems → Bool
  items_ok text h no_item = true
  items_ok text h (item is p c) = items_ok text h is && (pattern_ok text (item_room h is) p && is_none (open_item_at text h p))

  pub fields_ok : Source → RecordFields → Bool
  fields_ok text no_field = true
  fields_ok text (field fs f c) = fields_ok text fs && field_ok text f

  pub field_ok : Source → RecordField → Bool
  field_ok text (keyed key c p) = key_fits text key && pattern_ok text no_rest p
  field_ok text (short b) = true

-- a whole pattern of a text
unfoldable pub admitted : Source → Pattern → Bool
admitted text p = pattern_ok text no_rest p
