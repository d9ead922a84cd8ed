-- How a tree of the grammar is brought down to nodes: parentheses and a leading `|` only tell where a pattern begins, one alternative is no Or,
-- `&&` is two references. Assumes nothing: these are definitions.
use Rattle.std.specs.Prelude.{ℕ, suc, ◌-◌, Bool, true, false, not, cond, List, ◌++◌, take, drop}
use Rattle.std.proofs.Math.Option.{Option, none, some}
use Rattle.text_chars.specs.Bytes.{ascii}
use Rattle.decimal_values.specs.Values.{decimal_from}
use Rattle.pattern_grammar.specs.Lexemes.{Spot, Identifier}
use Rattle.pattern_grammar.specs.Trees.{NamePath, segment, inside, LiteralPattern, true_at, false_at, character, whole, negative, RangeBound, constant, place, RangeDots, exclusive, inclusive, BoundName, Ampersand, single, double, ListHead, tuple_at, struct_at, slice_at, RecordHead, FieldKey, index, label, Pattern, alone, or, NoTopAlt, plain, between, upward, up_to, WithoutRange, literal, ident, ident_at, wild, rest, reference, path, list, list_to, record_of, record_to, record_dots, ListItems, no_item, item, RecordFields, no_field, field, RecordField, keyed, short}
use Rattle.pattern_grammar.specs.Admitted.{path_at, literal_at, bound_at, is_rest}
use Rattle.pattern_syntax.specs.Written.{Name, LiteralValue, bool_value, char_value, whole_value, minus_value, Node, wildcard_node, rest_node, literal_node, bound_node, bound_path_node, range_node, path_node, ident_node, reference_node, tuple_node, tuple_struct_node, slice_node, record_node, field_node, or_node, Written, written, Parts, no_parts, more, beginning, begun_at, only}

-- the bytes between two positions
unfoldable pub bytes_from : List ℕ → ℕ → ℕ → List ℕ
bytes_from text from to = take (to - from) (drop from text)

-- a name's bytes, without `r#`
unfoldable pub ident_bytes : List ℕ → Identifier → List ℕ
ident_bytes text n = bytes_from text n.own n.spot.to

-- a path's: its names joined by `::`
unfoldable pub path_bytes : List ℕ → NamePath → List ℕ
path_bytes text (segment n) = ident_bytes text n
path_bytes text (inside p c n) = path_bytes text p ++ (ascii "::" ++ ident_bytes text n)

abbrev pub ident_name : List ℕ → Identifier → Name
ident_name text n = record { at = n.spot.from; bytes = ident_bytes text n }

abbrev pub path_name : List ℕ → NamePath → Name
path_name text p = record { at = path_at p; bytes = path_bytes text p }

-- a field before `:`; an integer is a field by its bytes as they are written
unfoldable pub key_name : List ℕ → FieldKey → Name
key_name text (index q) = record { at = q.from; bytes = bytes_from text q.from q.to }
key_name text (label n) = ident_name text n

-- the number that an integer's digits are in decimal
abbrev pub decimal_in : List ℕ → Spot → ℕ
decimal_in text q = decimal_from 0 (bytes_from text q.from q.to)

unfoldable pub literal_value : List ℕ → LiteralPattern → LiteralValue
literal_value text (true_at q) = bool_value true
literal_value text (false_at q) = bool_value false
literal_value text (character v q) = char_value v
literal_value text (whole q) = whole_value (decimal_in text q)
literal_value text (negative c q) = minus_value (decimal_in text q)

-- a range's bound
unfoldable pub bound_in : List ℕ → RangeBound → Node
bound_in text (constant l) = bound_node (literal_value text l)
bound_in text (place p) = bound_path_node (path_name text p)

abbrev pub written_bound : List ℕ → RangeBound → Written
written_bound text b = written (bound_at b) (bound_in text b) no_parts

unfoldable pub dots_at : RangeDots → ℕ
dots_at (exclusive q) = q.from
dots_at (inclusive q) = q.from

unfoldable pub is_exclusive : RangeDots → Bool
is_exclusive (exclusive q) = true
is_exclusive (inclusive q) = false

-- there is one
unfoldable pub is_there : Option Spot → Bool
is_there none = false
is_there (some q) = true

-- the first of two positions that there is
unfoldable pub first_place : Option Spot → ℕ → ℕ
first_place none at = at
first_place (some q) at = q.from

-- a name with `ref` and `mut`: where it begins, and what it is
unfoldable pub bound_name_at : BoundName → ℕ
bound_name_at b = first_place b.by_ref (first_place b.mutable b.called.spot.from)

unfoldable pub written_ident : List ℕ → BoundName → Parts → Written
written_ident text b sub = written (bound_name_at b) (ident_node (is_there b.by_ref) (is_there b.mutable) (ident_name text b.called)) sub

-- `&&` is a reference to a reference, the inner one at the second byte (patterns.ref.ref-ref)
unfoldable pub written_reference : Ampersand → Option Spot → Written → Written
written_reference (single q) m w = written q.from (reference_node (is_there m)) (only w)
written_reference (double q) m w =
    written q.from (reference_node false) (only (written (suc q.from) (reference_node (is_there m)) (only w)))

-- the first byte of a list: a path's or a bracket's
unfoldable pub head_at : ListHead → ℕ
head_at (tuple_at q) = q.from
head_at (struct_at p q) = path_at p
head_at (slice_at q) = q.from

-- a list's node, with how many items stand before its rest
unfoldable pub list_node : List ℕ → ListHead → Option ℕ → Node
list_node text (tuple_at q) before = tuple_node before
list_node text (struct_at p q) before = tuple_struct_node (path_name text p) before
list_node text (slice_at q) before = slice_node before

unfoldable pub item_count : ListItems → ℕ
item_count no_item = 0
item_count (item is p c) = suc (item_count is)

unfoldable pub or_else : Option ℕ → Option ℕ → Option ℕ
or_else none other = other
or_else (some n) other = some n

-- how many items stand before the rest, if there is one
unfoldable pub before_rest : ListItems → Option ℕ
before_rest no_item = none
before_rest (item is p c) = or_else (before_rest is) (cond (is_rest p) (some (item_count is)) none)

-- a rest is a part in a slice alone
unfoldable pub is_part : ListHead → Pattern → Bool
is_part (tuple_at q) p = not (is_rest p)
is_part (struct_at n q) p = not (is_rest p)
is_part (slice_at q) p = true

-- one pattern in parentheses, with no `,`: GroupedPattern (patterns.paren.syntax)
unfoldable pub is_group : ListHead → ListItems → Pattern → Bool
is_group (tuple_at q) no_item p = not (is_rest p)
is_group (tuple_at q) (item is o c) p = false
is_group (struct_at n q) is p = false
is_group (slice_at q) is p = false

-- one alternative is no Or; an Or begins where its first one does
unfoldable pub first_beginning : Parts → ℕ
first_beginning no_parts = 0
first_beginning (more no_parts w) = beginning w
first_beginning (more (more ps v) w) = first_beginning (more ps v)

unfoldable pub one_of : Parts → Written
one_of no_parts = written 0 or_node no_parts
one_of (more no_parts w) = w
one_of (more (more ps v) w) = written (first_beginning (more ps v)) or_node (more (more ps v) w)

-- a record's fields are parts of it
abbrev pub written_record : List ℕ → RecordHead → Parts → Written
written_record text h fs = written (path_at h.path) (record_node (path_name text h.path)) fs

abbrev pub written_field : Name → Written → Written
written_field key w = written key.at (field_node key) (only w)

-- a pattern of a text, brought down to nodes
unfoldable mutual
  -- the alternatives of a pattern; the first begins at its leading `|`
  pub alternatives : List ℕ → Pattern → Parts
  alternatives text (alone none a) = only (written_alt text a)
  alternatives text (alone (some q) a) = only (begun_at q.from (written_alt text a))
  alternatives text (or p c a) = more (alternatives text p) (written_alt text a)

  pub written_alt : List ℕ → NoTopAlt → Written
  written_alt text (plain w) = written_plain text w
  written_alt text (between a d b) =
      written (bound_at a) (range_node true true (is_exclusive d)) (more (only (written_bound text a)) (written_bound text b))
  written_alt text (upward a q) = written (bound_at a) (range_node true false true) (only (written_bound text a))
  written_alt text (up_to d b) = written (dots_at d) (range_node false true (is_exclusive d)) (only (written_bound text b))

  pub written_plain : List ℕ → WithoutRange → Written
  written_plain text (literal l) = written (literal_at l) (literal_node (literal_value text l)) no_parts
  written_plain text (ident b) = written_ident text b no_parts
  written_plain text (ident_at b c a) = written_ident text b (only (written_alt text a))
  written_plain text (wild q) = written q.from wildcard_node no_parts
  written_plain text (rest q) = written q.from rest_node no_parts
  written_plain text (reference a m w) = written_reference a m (written_plain text w)
  written_plain text (path p c n) = written (path_at p) (path_node (path_name text (inside p c n))) no_parts
  written_plain text (list h is q) = written (head_at h) (list_node text h (before_rest is)) (written_items text h is)
  written_plain text (list_to h is p q) =
      cond (is_group h is p) (begun_at (head_at h) (one_of (alternatives text p)))
      (written (head_at h) (list_node text h (before_rest (item is p q)))
      (cond (is_part h p) (more (written_items text h is) (one_of (alternatives text p))) (written_items text h is)))
  written_plain text (record_of h fs q) = written_record text h (written_fields text fs)
  written_plain text (record_to h fs f q) = written_record text h (more (written_fields text fs) (written_field_of text f))
  written_plain text (record_dots h fs d q) = written_record text h (written_fields text fs)

  pub written_items : List ℕ → ListHead → ListItems → Parts
  written_items text h no_item = no_parts
  written_items text h (item is p c) = cond (is_part h p) (more (written_items text h is) (one_of (alternatives text p))) (written_items text h is)

  pub written_fields : List ℕ → RecordFields → Parts
  written_fields text no_field = no_parts
  written_fields text (field fs f c) = more (written_fields text fs) (written_field_of text f)

  -- a name alone is "a shorthand for fieldname: fieldname" (patterns.struct.binding-shorthand)
  pub written_field_of : List ℕ → RecordField → Written
  written_field_of text (keyed key c p) = written_field (key_name text key) (one_of (alternatives text p))
  written_field_of text (short b) = written_field (ident_name text b.called) (written_ident text b no_parts)

-- a whole pattern
unfoldable pub reduced : List ℕ → Pattern → Written
reduced text p = one_of (alternatives text p)
