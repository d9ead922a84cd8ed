-- The machine that reads a pattern token by token, over a stack of what is open. Assumes nothing: these are definitions.
use Rattle.std.specs.Prelude.{ℕ, Bool, true, false, not, cond, ◌&&◌, ◌||◌, List, [], ◌∷◌, eqb}
use Rattle.std.proofs.Math.Option.{Option, none, some}
use Rattle.pattern_grammar.specs.Lexemes.{Spot, Identifier, Lexeme, name, scalar, mark, end_mark, comma_mark, or_mark, close_brace_mark, ref_mark, mut_mark, true_mark, false_mark, underscore_mark, integer_mark, minus_mark, open_paren_mark, open_bracket_mark, open_brace_mark, and_mark, and_and_mark, bind_mark, colon_mark, path_sep_mark, dot_dot_mark, dot_dot_eq_mark, follows, Source, wide}
use Rattle.pattern_grammar.specs.Trees.{NamePath, segment, inside, LiteralPattern, true_at, false_at, character, whole, negative, RangeBound, constant, place, RangeDots, exclusive, inclusive, BoundName, bare_name, Ampersand, single, double, ListHead, tuple_at, struct_at, slice_at, closer, RecordHead, FieldKey, index, label, Pattern, alone, or, NoTopAlt, plain, between, upward, up_to, WithoutRange, literal, ident, ident_at, wild, rest, reference, path, list, list_to, record_of, record_to, record_dots, ListItems, no_item, item, RecordFields, no_field, field, RecordField, keyed, short}
use Rattle.pattern_grammar.specs.Admitted.{RestRoom, no_rest, fits_rest, behind_name, behind_bar, item_room, open_item_at}

-- What is open, by what it waits for. Each constructor is a frame, the last argument what is below it
mutual
  -- a PatternWithoutRange: where ranges are allowed too, or behind `&`
  pub data ForPlain : Type 0 where
    any_alt : ForAlt → ForPlain
    behind_amp : Ampersand → Option Spot → ForPlain → ForPlain

  -- a PatternNoTopAlt: a pattern's first, one behind `|`, or one behind a name and `@`
  pub data ForAlt : Type 0 where
    first_alt : Option Spot → ForPattern → ForAlt
    next_alt : Pattern → Spot → ForPattern → ForAlt
    behind_at : BoundName → Spot → ForPlain → ForAlt

  -- a Pattern: the text's, a list's item, or a record's field's
  pub data ForPattern : Type 0 where
    whole_text : ForPattern
    for_item : ListHead → ListItems → ForPlain → ForPattern
    for_field : RecordHead → RecordFields → FieldKey → Spot → ForPlain → ForPattern

-- a pattern, and what waits for it; another alternative may follow
pub record Closed : Type 0 where
  pub pattern : Pattern
  pub waiting : ForPattern

abbrev pub closed_in : Pattern → ForPattern → Closed
closed_in p o = record { pattern = p; waiting = o }

-- a range before its upper bound
pub data RangeHead : Type 0 where
  up_to_head : RangeDots → RangeHead
  from_head : RangeBound → RangeDots → RangeHead

unfoldable pub range_of : RangeHead → RangeBound → NoTopAlt
range_of (up_to_head d) b = up_to d b
range_of (from_head a d) b = between a d b

-- where a minus or a path stands: a pattern begins with it, or it is the upper bound of a range
pub data BoundPlace : Type 0 where
  at_start : ForPlain → BoundPlace
  at_end : RangeHead → ForAlt → BoundPlace

-- where `ref` and `mut` stand: before a pattern's name or a field's
pub data NamePlace : Type 0 where
  in_pattern : ForPlain → NamePlace
  in_record : RecordHead → RecordFields → ForPlain → NamePlace

-- what is read last, over what is open
pub data Reading : Type 0 where
  -- a Pattern is to begin, or the list to end
  begin : ForPattern → Reading
  -- an alternative is to begin
  expect : ForPlain → Reading
  -- `&`
  read_amp : Ampersand → ForPlain → Reading
  -- `ref`; then `mut`, behind `ref` or not
  read_ref : NamePlace → Spot → Reading
  read_mut : NamePlace → Option Spot → Spot → Reading
  -- a name; one with `ref` or `mut`; a path of more names; a path and `::`
  read_name : Identifier → ForPlain → Reading
  read_bound : BoundName → ForPlain → Reading
  read_path : NamePath → Spot → Identifier → ForPlain → Reading
  read_sep : NamePath → Spot → BoundPlace → Reading
  -- a minus, a literal
  read_minus : Spot → BoundPlace → Reading
  read_literal : LiteralPattern → ForPlain → Reading
  -- `..`; `a..`; `..=` or `a..=`; a range whose upper bound is a path
  read_dots : Spot → ForAlt → Reading
  read_from : RangeBound → Spot → ForAlt → Reading
  read_to : RangeHead → ForAlt → Reading
  read_to_path : NamePath → RangeHead → ForAlt → Reading
  -- a whole alternative
  read_alt : Closed → Reading
  -- in a record: `{` or `,`; a name; an integer; a whole field; `..`
  read_brace : RecordHead → RecordFields → ForPlain → Reading
  read_label : Identifier → RecordHead → RecordFields → ForPlain → Reading
  read_index : Spot → RecordHead → RecordFields → ForPlain → Reading
  read_field : RecordField → RecordHead → RecordFields → ForPlain → Reading
  read_etc : Spot → RecordHead → RecordFields → ForPlain → Reading
  -- the whole text, with its end; or it has failed, with 19's position
  done : Pattern → Spot → Reading
  failed : ℕ → Reading

-- an alternative closes, and with it each `@` and `&` that waits for it
unfoldable mutual
  pub close_alt : NoTopAlt → ForAlt → Closed
  close_alt a (first_alt lead o) = closed_in (alone lead a) o
  close_alt a (next_alt p c o) = closed_in (or p c a) o
  close_alt a (behind_at b c s) = close_plain (ident_at b c a) s

  pub close_plain : WithoutRange → ForPlain → Closed
  close_plain w (any_alt l) = close_alt (plain w) l
  close_plain w (behind_amp a m s) = close_plain (reference a m w) s

-- the rest for which what is open has room
unfoldable mutual
  pub room_in : ForAlt → RestRoom
  room_in (first_alt lead o) = behind_bar lead (room_of o)
  room_in (next_alt p c o) = no_rest
  room_in (behind_at b c s) = behind_name (room_behind s)

  pub room_behind : ForPlain → RestRoom
  room_behind (any_alt l) = room_in l
  room_behind (behind_amp a m s) = no_rest

  pub room_of : ForPattern → RestRoom
  room_of whole_text = no_rest
  room_of (for_item h is s) = item_room h is
  room_of (for_field h fs key c s) = no_rest

-- a range may stand here, and goes on so; behind `&` its dots fail
unfoldable pub ranged : ForPlain → Spot → (ForAlt → Reading) → Reading
ranged (any_alt l) q go = go l
ranged (behind_amp a m s) q go = failed q.from

-- `..` with which a pattern begins: behind `&` it is a rest, whatever follows
unfoldable pub dots_in : Source → ForPlain → Spot → Reading
dots_in text (any_alt l) q = read_dots q l
dots_in text (behind_amp a m s) q = cond text.strict (failed q.from) (read_alt (close_plain (rest q) (behind_amp a m s)))

-- a rest may stand here, before a mark: there is room for it, and no other alternative
unfoldable pub rest_stands : Source → ForAlt → ℕ → Bool
rest_stands text l m = fits_rest (room_in l) && not (eqb m or_mark) || not text.strict

-- an integer in 16 bytes
unfoldable pub fitting : Source → Bool → Spot → Reading → Reading
fitting text behindMinus q go = cond (wide text behindMinus q) (failed q.from) go

-- an item that is no `a..` in a slice
unfoldable pub unless_open : Option ℕ → Reading → Reading
unless_open none go = go
unless_open (some at) go = failed at

-- a mark with which a pattern begins
unfoldable pub starts : Source → ForPlain → ℕ → Spot → Reading
starts text s m q =
    cond (eqb m ref_mark) (read_ref (in_pattern s) q)
    (cond (eqb m mut_mark) (read_mut (in_pattern s) none q)
    (cond (eqb m true_mark) (read_literal (true_at q) s)
    (cond (eqb m false_mark) (read_literal (false_at q) s)
    (cond (eqb m underscore_mark) (read_alt (close_plain (wild q) s))
    (cond (eqb m integer_mark) (fitting text false q (read_literal (whole q) s))
    (cond (eqb m minus_mark) (read_minus q (at_start s))
    (cond (eqb m open_paren_mark) (begin (for_item (tuple_at q) no_item s))
    (cond (eqb m open_bracket_mark) (begin (for_item (slice_at q) no_item s))
    (cond (eqb m and_mark) (read_amp (single q) s)
    (cond (eqb m and_and_mark) (read_amp (double q) s)
    (cond (eqb m dot_dot_mark) (dots_in text s q)
    (cond (eqb m dot_dot_eq_mark) (ranged s q (read_to (up_to_head (inclusive q))))
    (failed q.from)))))))))))))

-- a mark with which the upper bound of a range begins, or what comes of another
unfoldable pub bounds : Source → RangeHead → ForAlt → ℕ → Spot → Reading → Reading
bounds text h l m q other =
    cond (eqb m true_mark) (read_alt (close_alt (range_of h (constant (true_at q))) l))
    (cond (eqb m false_mark) (read_alt (close_alt (range_of h (constant (false_at q))) l))
    (cond (eqb m integer_mark) (fitting text false q (read_alt (close_alt (range_of h (constant (whole q))) l)))
    (cond (eqb m minus_mark) (read_minus q (at_end h l))
    other)))

-- a mark behind a whole alternative
unfoldable pub behind : Source → Pattern → ForPattern → ℕ → Spot → Reading
behind text p whole_text m q =
    cond (eqb m or_mark) (expect (any_alt (next_alt p q whole_text)))
    (cond (eqb m end_mark) (done p q)
    (failed q.from))
behind text p (for_item h is s) m q =
    cond (eqb m or_mark) (expect (any_alt (next_alt p q (for_item h is s))))
    (cond (eqb m comma_mark) (unless_open (open_item_at text h p) (begin (for_item h (item is p q) s)))
    (cond (eqb m (closer h)) (unless_open (open_item_at text h p) (read_alt (close_plain (list_to h is p q) s)))
    (failed q.from)))
behind text p (for_field h fs key c s) m q =
    cond (eqb m or_mark) (expect (any_alt (next_alt p q (for_field h fs key c s))))
    (cond (eqb m comma_mark) (read_brace h (field fs (keyed key c p) q) s)
    (cond (eqb m close_brace_mark) (read_alt (close_plain (record_to h fs (keyed key c p) q) s))
    (failed q.from)))

abbrev pub after : Source → Closed → ℕ → Spot → Reading
after text c m q = behind text c.pattern c.waiting m q

-- a closing mark where a pattern may begin
unfoldable pub ends : ForPattern → ℕ → Spot → Reading
ends whole_text m q = failed q.from
ends (for_item h is s) m q = cond (eqb m (closer h)) (read_alt (close_plain (list h is q) s)) (failed q.from)
ends (for_field h fs key c s) m q = failed q.from

-- a name with `ref` or `mut` is read
unfoldable pub named_in : NamePlace → BoundName → Reading
named_in (in_pattern s) b = read_bound b s
named_in (in_record h fs s) b = read_field (short b) h fs s

-- a name behind `::`
unfoldable pub path_in : BoundPlace → NamePath → Spot → Identifier → Reading
path_in (at_start s) p c n = read_path p c n s
path_in (at_end h l) p c n = read_to_path (inside p c n) h l

-- an integer behind a minus
unfoldable pub negative_in : BoundPlace → LiteralPattern → Reading
negative_in (at_start s) v = read_literal v s
negative_in (at_end h l) v = read_alt (close_alt (range_of h (constant v)) l)

-- a mark behind a path with which a pattern begins, or what comes of another
unfoldable pub behind_path : NamePath → ForPlain → ℕ → Spot → Reading
behind_path p s m q =
    cond (eqb m path_sep_mark) (read_sep p q (at_start s))
    (cond (eqb m open_paren_mark) (begin (for_item (struct_at p q) no_item s))
    (cond (eqb m open_brace_mark) (read_brace (record { path = p; brace = q }) no_field s)
    (cond (eqb m dot_dot_mark) (ranged s q (read_from (place p) q))
    (cond (eqb m dot_dot_eq_mark) (ranged s q (read_to (from_head (place p) (inclusive q))))
    (failed q.from)))))

-- a mark behind a whole field
unfoldable pub behind_field : RecordField → RecordHead → RecordFields → ForPlain → ℕ → Spot → Reading
behind_field f h fs s m q =
    cond (eqb m comma_mark) (read_brace h (field fs f q) s)
    (cond (eqb m close_brace_mark) (read_alt (close_plain (record_to h fs f q) s))
    (failed q.from))

-- a mark, by what is read last
unfoldable pub on_mark : Source → Reading → ℕ → Spot → Reading
on_mark text (begin o) m q =
    cond (eqb m or_mark) (expect (any_alt (first_alt (some q) o)))
    (cond (follows m) (ends o m q)
    (starts text (any_alt (first_alt none o)) m q))
on_mark text (expect s) m q = starts text s m q
on_mark text (read_amp a s) m q = cond (eqb m mut_mark) (expect (behind_amp a (some q) s)) (starts text (behind_amp a none s) m q)
on_mark text (read_ref i r) m q = cond (eqb m mut_mark) (read_mut i (some r) q) (failed q.from)
on_mark text (read_mut i r u) m q = failed q.from
on_mark text (read_name n s) m q =
    cond (follows m) (after text (close_plain (ident (bare_name n)) s) m q)
    (cond (eqb m bind_mark) (expect (any_alt (behind_at (bare_name n) q s)))
    (behind_path (segment n) s m q))
on_mark text (read_bound b s) m q =
    cond (follows m) (after text (close_plain (ident b) s) m q)
    (cond (eqb m bind_mark) (expect (any_alt (behind_at b q s)))
    (failed q.from))
on_mark text (read_path p c n s) m q = cond (follows m) (after text (close_plain (path p c n) s) m q) (behind_path (inside p c n) s m q)
on_mark text (read_sep p c i) m q = failed q.from
on_mark text (read_minus c i) m q = cond (eqb m integer_mark) (fitting text true q (negative_in i (negative c q))) (failed q.from)
on_mark text (read_literal v s) m q =
    cond (follows m) (after text (close_plain (literal v) s) m q)
    (cond (eqb m dot_dot_mark) (ranged s q (read_from (constant v) q))
    (cond (eqb m dot_dot_eq_mark) (ranged s q (read_to (from_head (constant v) (inclusive q))))
    (failed q.from)))
on_mark text (read_dots d l) m q =
    bounds text (up_to_head (exclusive d)) l m q
    (cond (rest_stands text l m) (after text (close_alt (plain (rest d)) l) m q) (failed d.from))
on_mark text (read_from a d l) m q =
    bounds text (from_head a (exclusive d)) l m q (cond (follows m) (after text (close_alt (upward a d) l) m q) (failed q.from))
on_mark text (read_to h l) m q = bounds text h l m q (failed q.from)
on_mark text (read_to_path p h l) m q =
    cond (follows m) (after text (close_alt (range_of h (place p)) l) m q)
    (cond (eqb m path_sep_mark) (read_sep p q (at_end h l))
    (failed q.from))
on_mark text (read_alt c) m q = after text c m q
on_mark text (read_brace h fs s) m q =
    cond (eqb m close_brace_mark) (read_alt (close_plain (record_of h fs q) s))
    (cond (eqb m dot_dot_mark) (read_etc q h fs s)
    (cond (eqb m integer_mark) (fitting text false q (read_index q h fs s))
    (cond (eqb m ref_mark) (read_ref (in_record h fs s) q)
    (cond (eqb m mut_mark) (read_mut (in_record h fs s) none q)
    (failed q.from)))))
on_mark text (read_label n h fs s) m q =
    cond (eqb m colon_mark) (begin (for_field h fs (label n) q s)) (behind_field (short (bare_name n)) h fs s m q)
on_mark text (read_index i h fs s) m q = cond (eqb m colon_mark) (begin (for_field h fs (index i) q s)) (failed q.from)
on_mark text (read_field f h fs s) m q = behind_field f h fs s m q
on_mark text (read_etc d h fs s) m q = cond (eqb m close_brace_mark) (read_alt (close_plain (record_dots h fs d q) s)) (failed q.from)
on_mark text (done p e) m q = failed q.from
on_mark text (failed at) m q = failed at

-- a name
unfoldable pub on_name : Reading → Identifier → Reading
on_name (begin o) n = read_name n (any_alt (first_alt none o))
on_name (expect s) n = read_name n s
on_name (read_amp a s) n = read_name n (behind_amp a none s)
on_name (read_ref i r) n = named_in i (record { by_ref = some r; mutable = none; called = n })
on_name (read_mut i r u) n = named_in i (record { by_ref = r; mutable = some u; called = n })
on_name (read_name x s) n = failed n.spot.from
on_name (read_bound b s) n = failed n.spot.from
on_name (read_path p c x s) n = failed n.spot.from
on_name (read_sep p c i) n = path_in i p c n
on_name (read_minus c i) n = failed n.spot.from
on_name (read_literal v s) n = failed n.spot.from
on_name (read_dots d l) n = read_to_path (segment n) (up_to_head (exclusive d)) l
on_name (read_from a d l) n = read_to_path (segment n) (from_head a (exclusive d)) l
on_name (read_to h l) n = read_to_path (segment n) h l
on_name (read_to_path p h l) n = failed n.spot.from
on_name (read_alt c) n = failed n.spot.from
on_name (read_brace h fs s) n = read_label n h fs s
on_name (read_label x h fs s) n = failed n.spot.from
on_name (read_index i h fs s) n = failed n.spot.from
on_name (read_field f h fs s) n = failed n.spot.from
on_name (read_etc d h fs s) n = failed n.spot.from
on_name (done p e) n = failed n.spot.from
on_name (failed at) n = failed at

-- a char
unfoldable pub on_char : Reading → ℕ → Spot → Reading
on_char (begin o) v q = read_literal (character v q) (any_alt (first_alt none o))
on_char (expect s) v q = read_literal (character v q) s
on_char (read_amp a s) v q = read_literal (character v q) (behind_amp a none s)
on_char (read_ref i r) v q = failed q.from
on_char (read_mut i r u) v q = failed q.from
on_char (read_name n s) v q = failed q.from
on_char (read_bound b s) v q = failed q.from
on_char (read_path p c n s) v q = failed q.from
on_char (read_sep p c i) v q = failed q.from
on_char (read_minus c i) v q = failed q.from
on_char (read_literal l s) v q = failed q.from
on_char (read_dots d l) v q = read_alt (close_alt (up_to (exclusive d) (constant (character v q))) l)
on_char (read_from a d l) v q = read_alt (close_alt (between a (exclusive d) (constant (character v q))) l)
on_char (read_to h l) v q = read_alt (close_alt (range_of h (constant (character v q))) l)
on_char (read_to_path p h l) v q = failed q.from
on_char (read_alt c) v q = failed q.from
on_char (read_brace h fs s) v q = failed q.from
on_char (read_label n h fs s) v q = failed q.from
on_char (read_index i h fs s) v q = failed q.from
on_char (read_field f h fs s) v q = failed q.from
on_char (read_etc d h fs s) v q = failed q.from
on_char (done p e) v q = failed q.from
on_char (failed at) v q = failed at

-- one token
unfoldable pub step : Source → Reading → Lexeme → Reading
step text r (name n) = on_name r n
step text r (scalar v q) = on_char r v q
step text r (mark m q) = on_mark text r m q

-- token by token
unfoldable pub feed : Source → List Lexeme → Reading → Reading
feed text [] r = r
feed text (t ∷ ts) r = feed text ts (step text r t)

-- before the first token
abbrev pub fresh : Reading
fresh = begin whole_text

-- it has failed
unfoldable pub is_failed : Reading → Bool
is_failed (begin o) = false
is_failed (expect s) = false
is_failed (read_amp a s) = false
is_failed (read_ref i r) = false
is_failed (read_mut i r u) = false
is_failed (read_name n s) = false
is_failed (read_bound b s) = false
is_failed (read_path p c n s) = false
is_failed (read_sep p c i) = false
is_failed (read_minus c i) = false
is_failed (read_literal v s) = false
is_failed (read_dots d l) = false
is_failed (read_from a d l) = false
is_failed (read_to h l) = false
is_failed (read_to_path p h l) = false
is_failed (read_alt c) = false
is_failed (read_brace h fs s) = false
is_failed (read_label n h fs s) = false
is_failed (read_index i h fs s) = false
is_failed (read_field f h fs s) = false
is_failed (read_etc d h fs s) = false
is_failed (done p e) = false
is_failed (failed at) = true
