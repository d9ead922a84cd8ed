-- The trees of the Reference's pattern grammar (patterns.syntax, edition 2021), without strings, bytes, floats, `...`, macros, attributes,
-- generic arguments, qualified paths and a leading `::`. A tree holds where each of its tokens stands, so that it is written as those
-- tokens and no others. What is repeated is a list that grows at its end, as a reader meets it. Assumes nothing: these are definitions.
use Rattle.std.specs.Prelude.{ℕ, List, ◌∷◌}
use Rattle.std.proofs.Math.Option.{Option, none, some}
use Rattle.pattern_grammar.specs.Lexemes.{Spot, Identifier, Lexeme, name, scalar, mark, comma_mark, or_mark, close_paren_mark, close_bracket_mark, close_brace_mark, ref_mark, mut_mark, true_mark, false_mark, underscore_mark, integer_mark, minus_mark, open_paren_mark, open_bracket_mark, open_brace_mark, and_mark, and_and_mark, bind_mark, colon_mark, path_sep_mark, dot_dot_mark, dot_dot_eq_mark}

-- PathInExpression (paths.expr.syntax), of names alone
pub data NamePath : Type 0 where
  segment : Identifier → NamePath
  inside : NamePath → Spot → Identifier → NamePath

-- LiteralPattern (patterns.literal.syntax): `true`, `false`, a char, an integer, `-` and an integer
pub data LiteralPattern : Type 0 where
  true_at : Spot → LiteralPattern
  false_at : Spot → LiteralPattern
  character : ℕ → Spot → LiteralPattern
  whole : Spot → LiteralPattern
  negative : Spot → Spot → LiteralPattern

-- RangePatternBound (patterns.range.syntax)
pub data RangeBound : Type 0 where
  constant : LiteralPattern → RangeBound
  place : NamePath → RangeBound

-- `..` or `..=`
pub data RangeDots : Type 0 where
  exclusive : Spot → RangeDots
  inclusive : Spot → RangeDots

-- `ref`? `mut`? IDENTIFIER (patterns.ident.syntax)
pub record BoundName : Type 0 where
  pub by_ref : Option Spot
  pub mutable : Option Spot
  pub called : Identifier

-- `&` or `&&` (patterns.ref.syntax)
pub data Ampersand : Type 0 where
  single : Spot → Ampersand
  double : Spot → Ampersand

-- what opens a list of patterns: `(` of a tuple or a group (patterns.tuple.syntax, patterns.paren.syntax), a path and `(`
-- (patterns.tuple-struct.syntax), or `[` (patterns.slice.syntax)
pub data ListHead : Type 0 where
  tuple_at : Spot → ListHead
  struct_at : NamePath → Spot → ListHead
  slice_at : Spot → ListHead

-- a path and `{` (patterns.struct.syntax)
pub record RecordHead : Type 0 where
  pub path : NamePath
  pub brace : Spot

-- TUPLE_INDEX or IDENTIFIER before `:`
pub data FieldKey : Type 0 where
  index : Spot → FieldKey
  label : Identifier → FieldKey

mutual
  -- Pattern (patterns.syntax): its first alternative, with or without a leading `|`, or one more behind a `|`
  pub data Pattern : Type 0 where
    alone : Option Spot → NoTopAlt → Pattern
    or : Pattern → Spot → NoTopAlt → Pattern

  -- PatternNoTopAlt: PatternWithoutRange, or a RangePattern (patterns.range.syntax): `a..b` or `a..=b`; `a..`; `..b` or `..=b`
  pub data NoTopAlt : Type 0 where
    plain : WithoutRange → NoTopAlt
    between : RangeBound → RangeDots → RangeBound → NoTopAlt
    upward : RangeBound → Spot → NoTopAlt
    up_to : RangeDots → RangeBound → NoTopAlt

  -- PatternWithoutRange. A name alone is an IdentifierPattern, until it is looked up (patterns.ident.precedent); a path has two names or more.
  -- A list has its items, each with the `,` behind it, and the bracket that closes it; in `list_to` an item with no `,` stands before that: so
  -- `(p)` is a GroupedPattern, and `(..)` a TuplePattern (patterns.tuple.rest-syntax). A record is alike, and in `record_dots` it is a
  -- StructPatternEtCetera that stands there
  pub data WithoutRange : Type 0 where
    literal : LiteralPattern → WithoutRange
    ident : BoundName → WithoutRange
    ident_at : BoundName → Spot → NoTopAlt → WithoutRange
    wild : Spot → WithoutRange
    rest : Spot → WithoutRange
    reference : Ampersand → Option Spot → WithoutRange → WithoutRange
    path : NamePath → Spot → Identifier → WithoutRange
    list : ListHead → ListItems → Spot → WithoutRange
    list_to : ListHead → ListItems → Pattern → Spot → WithoutRange
    record_of : RecordHead → RecordFields → Spot → WithoutRange
    record_to : RecordHead → RecordFields → RecordField → Spot → WithoutRange
    record_dots : RecordHead → RecordFields → Spot → Spot → WithoutRange

  -- patterns, each with the `,` behind it
  pub data ListItems : Type 0 where
    no_item : ListItems
    item : ListItems → Pattern → Spot → ListItems

  -- fields, each with the `,` behind it
  pub data RecordFields : Type 0 where
    no_field : RecordFields
    field : RecordFields → RecordField → Spot → RecordFields

  -- StructPatternField (patterns.struct.syntax)
  pub data RecordField : Type 0 where
    keyed : FieldKey → Spot → Pattern → RecordField
    short : BoundName → RecordField

-- a name with neither `ref` nor `mut`
abbrev pub bare_name : Identifier → BoundName
bare_name n = record { by_ref = none; mutable = none; called = n }

-- what closes a list
unfoldable pub closer : ListHead → ℕ
closer (tuple_at q) = close_paren_mark
closer (struct_at p q) = close_paren_mark
closer (slice_at q) = close_bracket_mark

-- the tokens as which trees are written, before others
unfoldable pub path_t : NamePath → List Lexeme → List Lexeme
path_t (segment n) k = name n ∷ k
path_t (inside p c n) k = path_t p (mark path_sep_mark c ∷ name n ∷ k)

unfoldable pub literal_t : LiteralPattern → List Lexeme → List Lexeme
literal_t (true_at q) k = mark true_mark q ∷ k
literal_t (false_at q) k = mark false_mark q ∷ k
literal_t (character v q) k = scalar v q ∷ k
literal_t (whole q) k = mark integer_mark q ∷ k
literal_t (negative c q) k = mark minus_mark c ∷ mark integer_mark q ∷ k

unfoldable pub bound_t : RangeBound → List Lexeme → List Lexeme
bound_t (constant l) k = literal_t l k
bound_t (place p) k = path_t p k

unfoldable pub dots_t : RangeDots → Lexeme
dots_t (exclusive q) = mark dot_dot_mark q
dots_t (inclusive q) = mark dot_dot_eq_mark q

unfoldable pub optional_t : Option Spot → ℕ → List Lexeme → List Lexeme
optional_t none m k = k
optional_t (some q) m k = mark m q ∷ k

unfoldable pub name_t : BoundName → List Lexeme → List Lexeme
name_t b k = optional_t b.by_ref ref_mark (optional_t b.mutable mut_mark (name b.called ∷ k))

unfoldable pub ampersand_t : Ampersand → Lexeme
ampersand_t (single q) = mark and_mark q
ampersand_t (double q) = mark and_and_mark q

unfoldable pub head_t : ListHead → List Lexeme → List Lexeme
head_t (tuple_at q) k = mark open_paren_mark q ∷ k
head_t (struct_at p q) k = path_t p (mark open_paren_mark q ∷ k)
head_t (slice_at q) k = mark open_bracket_mark q ∷ k

unfoldable pub record_t : RecordHead → List Lexeme → List Lexeme
record_t h k = path_t h.path (mark open_brace_mark h.brace ∷ k)

unfoldable pub key_t : FieldKey → Lexeme
key_t (index q) = mark integer_mark q
key_t (label n) = name n

unfoldable mutual
  pub pattern_t : Pattern → List Lexeme → List Lexeme
  pattern_t (alone lead a) k = optional_t lead or_mark (alt_t a k)
  pattern_t (or p c a) k = pattern_t p (mark or_mark c ∷ alt_t a k)

  pub alt_t : NoTopAlt → List Lexeme → List Lexeme
  alt_t (plain w) k = plain_t w k
  alt_t (between a d b) k = bound_t a (dots_t d ∷ bound_t b k)
  alt_t (upward a q) k = bound_t a (mark dot_dot_mark q ∷ k)
  alt_t (up_to d b) k = dots_t d ∷ bound_t b k

  pub plain_t : WithoutRange → List Lexeme → List Lexeme
  plain_t (literal l) k = literal_t l k
  plain_t (ident b) k = name_t b k
  plain_t (ident_at b c a) k = name_t b (mark bind_mark c ∷ alt_t a k)
  plain_t (wild q) k = mark underscore_mark q ∷ k
  plain_t (rest q) k = mark dot_dot_mark q ∷ k
  plain_t (reference a m w) k = ampersand_t a ∷ optional_t m mut_mark (plain_t w k)
  plain_t (path p c n) k = path_t p (mark path_sep_mark c ∷ name n ∷ k)
  plain_t (list h is q) k = head_t h (items_t is (mark (closer h) q ∷ k))
  plain_t (list_to h is p q) k = head_t h (items_t is (pattern_t p (mark (closer h) q ∷ k)))
  plain_t (record_of h fs q) k = record_t h (fields_t fs (mark close_brace_mark q ∷ k))
  plain_t (record_to h fs f q) k = record_t h (fields_t fs (field_t f (mark close_brace_mark q ∷ k)))
  plain_t (record_dots h fs d q) k = record_t h (fields_t fs (mark dot_dot_mark d ∷ mark close_brace_mark q ∷ k))

  pub items_t : ListItems → List Lexeme → List Lexeme
  items_t no_item k = k
  items_t (item is p c) k = items_t is (pattern_t p (mark comma_mark c ∷ k))

  pub fields_t : RecordFields → List Lexeme → List Lexeme
  fields_t no_field k = k
  fields_t (field fs f c) k = fields_t fs (field_t f (mark comma_mark c ∷ k))

  pub field_t : RecordField → List Lexeme → List Lexeme
  field_t (keyed key c p) k = key_t key ∷ mark colon_mark c ∷ pattern_t p k
  field_t (short b) k = name_t b k
