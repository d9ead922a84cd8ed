-- The machine that reads a pattern token by token and notes its nodes as they close. Assumes nothing: these are definitions.
use Rattle.std.specs.Prelude.{ℕ, true, false, not, cond, ◌&&◌, ◌||◌, List, [], ◌∷◌, eqb}
use Rattle.pattern_grammar.specs.Lexemes.{Lexeme, name, scalar, mark, end_mark, comma_mark, or_mark, close_bracket_mark, close_brace_mark, lexeme_at}
use Rattle.pattern_syntax.specs.Written.{rest_node, range_node, reference_node}
use Rattle.pattern_syntax.specs.Closing.{ClosedNode, closed_node}
use Rattle.parsing_machine.specs.declared.ReadState.{ReadState}
use Rattle.parsing_machine.specs.declared.ReadState.TheVariants.{Begin, Expect, BehindAmp, AtAlt, AtBrace}
use Rattle.parsing_machine.specs.Waiting.{Opened, opened, pushed, noted, node_kind, innermost_kind, closes, part_more, grown, begun_last, settle, shut_top, another_alt, last_alt, with_rest, rest_fits, is_bare_tuple}
use Rattle.parsing_machine.specs.Moves.{Held, nothing_held, Move, halts, holds, opens, opens_two, opens_behind, mutates, shuts, shuts_before, shuts_range, shuts_range_before, shuts_open_range, shuts_rest, passes_on, shuts_top, adds_field, adds_last_field, name_move, scalar_move, mark_move}

-- what is read last, what it holds, what is open and what has closed
pub record Parser : Type 0 where
  pub state : ReadState
  pub held : Held
  pub nodes : Opened

-- it goes on, or the text has ended with these nodes, the last first, or it has failed
pub data Course : Type 0 where
  going : Parser → Course
  ended_with : List ClosedNode → Course
  halted_at : ℕ → Course

abbrev pub going_in : ReadState → Held → Opened → Course
going_in s h o = going (record { state = s; held = h; nodes = o })

-- a whole alternative is read
abbrev pub alt_read : Opened → Course
alt_read o = going_in AtAlt nothing_held o

-- an item is the last of its list; one pattern in parentheses is itself, from the `(` on
unfoldable pub item_last : ClosedNode → List ClosedNode → List ClosedNode → Opened
item_last f fs closed = cond (is_bare_tuple f) (settle fs (begun_last f.from closed)) (settle fs (part_more f ∷ closed))

-- a mark but `|` behind a pattern, in what waits for it
unfoldable pub ended_in : ℕ → ℕ → List ClosedNode → List ClosedNode → Course
ended_in m at [] closed = cond (eqb m end_mark) (ended_with closed) (halted_at at)
ended_in m at (f ∷ fs) closed =
    cond (eqb (node_kind f.is) 13)
    (cond (eqb m comma_mark) (going_in AtBrace nothing_held (opened (grown fs) (part_more f ∷ closed)))
    (cond (eqb m close_brace_mark) (alt_read (shut_top (grown fs) (part_more f ∷ closed)))
    (halted_at at)))
    (cond (eqb m comma_mark) (going_in Begin nothing_held (opened (part_more f ∷ fs) closed))
    (cond (closes (node_kind f.is) m) (alt_read (item_last f fs closed))
    (halted_at at)))

abbrev pub ended : ℕ → ℕ → Opened → Course
ended m at o = ended_in m at o.waiting o.closed

-- a mark behind an alternative
unfoldable pub behind_alt : ℕ → ℕ → Opened → Course
behind_alt m at o = cond (eqb m or_mark) (going_in Expect nothing_held (another_alt o)) (ended m at (last_alt o.waiting o.closed))

-- a mark behind a list's rest
unfoldable pub rest_item : ℕ → ℕ → List ClosedNode → List ClosedNode → Course
rest_item m at [] closed = halted_at at
rest_item m at (f ∷ fs) closed =
    cond (eqb m comma_mark) (going_in Begin nothing_held (opened (with_rest f ∷ fs) closed))
    (cond (closes (node_kind f.is) m) (alt_read (settle fs (with_rest f ∷ closed)))
    (halted_at at))

-- in a slice a rest is a node, behind a name and `@` or not; in a tuple it is none
unfoldable pub rest_in : ℕ → ℕ → ℕ → List ClosedNode → List ClosedNode → Course
rest_in dots m at [] closed = halted_at at
rest_in dots m at (f ∷ fs) closed =
    cond (eqb (node_kind f.is) 7) (rest_item m at fs (part_more f ∷ closed_node dots rest_node 0 ∷ closed))
    (cond (eqb (node_kind f.is) 11) (rest_item m at (f ∷ fs) (closed_node dots rest_node 0 ∷ closed))
    (rest_item m at (f ∷ fs) closed))

-- `..` that no bound follows, where it waits as a range's beginning
unfoldable pub rest_read : ℕ → ℕ → List ClosedNode → List ClosedNode → Course
rest_read m at [] closed = halted_at at
rest_read m at (f ∷ fs) closed =
    cond (rest_fits fs && not (eqb m or_mark)) (rest_in f.from m at fs closed) (halted_at f.from)

-- a range without an upper bound, which is no slice's item
unfoldable pub open_range : ℕ → ℕ → List ClosedNode → List ClosedNode → Course
open_range m at [] closed = halted_at at
open_range m at (f ∷ fs) closed =
    cond (eqb (innermost_kind fs) 11 && (eqb m comma_mark || eqb m close_bracket_mark)) (halted_at f.from)
    (behind_alt m at (settle fs (closed_node f.from (range_node true false true) 1 ∷ closed)))

-- `mut` behind `&`
unfoldable pub mutated : List ClosedNode → List ClosedNode
mutated [] = []
mutated (f ∷ fs) = closed_node f.from (reference_node true) f.parts ∷ fs

-- a move is made, by a mark at a position
unfoldable pub perform : Move → ℕ → ℕ → Opened → Course
perform (halts place) m at o = halted_at place
perform (holds s h) m at o = going_in s h o
perform (opens s f) m at o = going_in s nothing_held (pushed f o)
perform (opens_two f g) m at o = going_in BehindAmp nothing_held (pushed g (pushed f o))
perform (opens_behind s w f) m at o = going_in s nothing_held (pushed f (noted w o))
perform mutates m at o = going_in Expect nothing_held (opened (mutated o.waiting) o.closed)
perform (shuts w) m at o = alt_read (settle o.waiting (w ∷ o.closed))
perform (shuts_before w) m at o = behind_alt m at (settle o.waiting (w ∷ o.closed))
perform (shuts_range w) m at o = alt_read (shut_top (grown o.waiting) (w ∷ o.closed))
perform (shuts_range_before w) m at o = behind_alt m at (shut_top (grown o.waiting) (w ∷ o.closed))
perform shuts_open_range m at o = open_range m at o.waiting o.closed
perform shuts_rest m at o = rest_read m at o.waiting o.closed
perform passes_on m at o = behind_alt m at o
perform shuts_top m at o = alt_read (shut_top o.waiting o.closed)
perform (adds_field w f) m at o = going_in AtBrace nothing_held (opened (grown o.waiting) (f ∷ w ∷ o.closed))
perform (adds_last_field w f) m at o = alt_read (shut_top (grown o.waiting) (f ∷ w ∷ o.closed))

-- one token
unfoldable pub stepped : List ℕ → Parser → Lexeme → Course
stepped text z (name n) = perform (name_move text z.state z.held (innermost_kind z.nodes.waiting) n) 0 0 z.nodes
stepped text z (scalar v q) = perform (scalar_move z.state v q) 0 0 z.nodes
stepped text z (mark m q) =
    perform (mark_move text z.state z.held (innermost_kind z.nodes.waiting) m q) m q.from z.nodes

unfoldable pub step_course : List ℕ → Course → Lexeme → Course
step_course text (going z) t = stepped text z t
step_course text (ended_with closed) t = halted_at (lexeme_at t)
step_course text (halted_at at) t = halted_at at

-- token by token
unfoldable pub read_on : List ℕ → List Lexeme → Course → Course
read_on text [] c = c
read_on text (t ∷ ts) c = read_on text ts (step_course text c t)
