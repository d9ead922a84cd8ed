-- What is open while a pattern is read, as nodes that wait to close, and what has closed. Assumes nothing: these are definitions.
use Rattle.std.specs.Prelude.{ℕ, suc, Bool, false, cond, ◌&&◌, ◌||◌, List, [], ◌∷◌, eqb}
use Rattle.std.proofs.Math.Option.{Option, none, some}
use Rattle.pattern_grammar.specs.Lexemes.{close_paren_mark, close_bracket_mark}
use Rattle.pattern_grammar.specs.Admitted.{is_none}
use Rattle.pattern_syntax.specs.Written.{Node, wildcard_node, rest_node, literal_node, bound_node, bound_path_node, range_node, path_node, ident_node, reference_node, tuple_node, tuple_struct_node, slice_node, record_node, field_node, or_node}
use Rattle.pattern_syntax.specs.Closing.{ClosedNode, closed_node}

-- The nodes that wait, the innermost first, each with the parts that it has so far; an Or with none is a leading `|`. And the nodes that have
-- closed, the last first
pub record Opened : Type 0 where
  pub waiting : List ClosedNode
  pub closed : List ClosedNode

abbrev pub opened : List ClosedNode → List ClosedNode → Opened
opened waiting closed = record { waiting = waiting; closed = closed }

-- one more waits
unfoldable pub pushed : ClosedNode → Opened → Opened
pushed f o = opened (f ∷ o.waiting) o.closed

-- one more has closed
unfoldable pub noted : ClosedNode → Opened → Opened
noted w o = opened o.waiting (w ∷ o.closed)

-- the word that tells a node's kind in its row
unfoldable pub node_kind : Node → ℕ
node_kind wildcard_node = 0
node_kind rest_node = 1
node_kind (literal_node v) = 2
node_kind (bound_node v) = 3
node_kind (bound_path_node n) = 4
node_kind (range_node lower upper dots) = 5
node_kind (path_node n) = 6
node_kind (ident_node r m n) = 7
node_kind (reference_node m) = 8
node_kind (tuple_node before) = 9
node_kind (tuple_struct_node n before) = 10
node_kind (slice_node before) = 11
node_kind (record_node n) = 12
node_kind (field_node n) = 13
node_kind or_node = 14

-- the kind of what waits innermost, 15 where nothing does
unfoldable pub innermost_kind : List ClosedNode → ℕ
innermost_kind [] = 15
innermost_kind (f ∷ fs) = node_kind f.is

-- a mark closes a list of this kind
unfoldable pub closes : ℕ → ℕ → Bool
closes kind m = cond (eqb kind 11) (eqb m close_bracket_mark) (cond (eqb kind 9 || eqb kind 10) (eqb m close_paren_mark) false)

-- one part more
unfoldable pub part_more : ClosedNode → ClosedNode
part_more f = closed_node f.from f.is (suc f.parts)

unfoldable pub grown : List ClosedNode → List ClosedNode
grown [] = []
grown (f ∷ fs) = part_more f ∷ fs

-- the same node from another byte on
unfoldable pub begun_last : ℕ → List ClosedNode → List ClosedNode
begun_last at [] = []
begun_last at (w ∷ ws) = closed_node at w.is w.parts ∷ ws

-- where the last begins
unfoldable pub last_from : List ClosedNode → ℕ
last_from [] = 0
last_from (w ∷ ws) = w.from

-- An alternative has closed: so does each name with `@` and each reference that waits for it. Behind a leading `|` it begins there; in an Or it is
-- one more
unfoldable pub settle : List ClosedNode → List ClosedNode → Opened
settle [] closed = opened [] closed
settle (f ∷ fs) closed =
    cond (eqb (node_kind f.is) 7 || eqb (node_kind f.is) 8) (settle fs (part_more f ∷ closed))
    (cond (eqb (node_kind f.is) 14)
    (cond (eqb f.parts 0) (opened fs (begun_last f.from closed)) (opened (part_more f ∷ fs) closed))
    (opened (f ∷ fs) closed))

-- what waits innermost closes
unfoldable pub shut_top : List ClosedNode → List ClosedNode → Opened
shut_top [] closed = opened [] closed
shut_top (f ∷ fs) closed = settle fs (f ∷ closed)

-- another alternative follows
unfoldable pub another_alt : Opened → Opened
another_alt o = cond (eqb (innermost_kind o.waiting) 14) o (pushed (closed_node (last_from o.closed) or_node 1) o)

-- no other alternative follows: an Or closes
unfoldable pub last_alt : List ClosedNode → List ClosedNode → Opened
last_alt [] closed = opened [] closed
last_alt (f ∷ fs) closed = cond (eqb (node_kind f.is) 14) (opened fs (f ∷ closed)) (opened (f ∷ fs) closed)

-- how many items a list has before its rest
unfoldable pub node_before : Node → Option ℕ
node_before wildcard_node = none
node_before rest_node = none
node_before (literal_node v) = none
node_before (bound_node v) = none
node_before (bound_path_node n) = none
node_before (range_node lower upper dots) = none
node_before (path_node n) = none
node_before (ident_node r m n) = none
node_before (reference_node m) = none
node_before (tuple_node before) = before
node_before (tuple_struct_node n before) = before
node_before (slice_node before) = before
node_before (record_node n) = none
node_before (field_node n) = none
node_before or_node = none

-- a list whose next item is its rest
unfoldable pub node_with_rest : Node → ℕ → Node
node_with_rest wildcard_node before = wildcard_node
node_with_rest rest_node before = rest_node
node_with_rest (literal_node v) before = literal_node v
node_with_rest (bound_node v) before = bound_node v
node_with_rest (bound_path_node n) before = bound_path_node n
node_with_rest (range_node lower upper dots) before = range_node lower upper dots
node_with_rest (path_node n) before = path_node n
node_with_rest (ident_node r m n) before = ident_node r m n
node_with_rest (reference_node m) before = reference_node m
node_with_rest (tuple_node old) before = tuple_node (some before)
node_with_rest (tuple_struct_node n old) before = tuple_struct_node n (some before)
node_with_rest (slice_node old) before = slice_node (some before)
node_with_rest (record_node n) before = record_node n
node_with_rest (field_node n) before = field_node n
node_with_rest or_node before = or_node

-- a rest is a part in a slice alone
unfoldable pub with_rest : ClosedNode → ClosedNode
with_rest f =
    closed_node f.from (node_with_rest f.is f.parts) (cond (eqb (node_kind f.is) 11) (suc f.parts) f.parts)

-- a list of one of two kinds that has no rest so far
unfoldable pub takes_rest : ClosedNode → Bool
takes_rest f =
    (eqb (node_kind f.is) 9 || (eqb (node_kind f.is) 10 || eqb (node_kind f.is) 11)) && is_none (node_before f.is)

unfoldable pub slice_takes_rest : List ClosedNode → Bool
slice_takes_rest [] = false
slice_takes_rest (f ∷ fs) = eqb (node_kind f.is) 11 && is_none (node_before f.is)

-- a rest may stand here: as a list's item, or in a slice behind a name and `@`
unfoldable pub rest_fits : List ClosedNode → Bool
rest_fits [] = false
rest_fits (f ∷ fs) = cond (eqb (node_kind f.is) 7) (slice_takes_rest fs) (takes_rest f)

-- `(` with nothing behind it but one pattern
unfoldable pub is_bare_tuple : ClosedNode → Bool
is_bare_tuple f = eqb (node_kind f.is) 9 && (is_none (node_before f.is) && eqb f.parts 0)
