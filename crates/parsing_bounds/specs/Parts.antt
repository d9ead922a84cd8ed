-- How many parts what waits has, and whether the machine goes on. Assumes nothing: these are definitions.
use Rattle.std.specs.Prelude.{ℕ, zero, suc, ◌+◌, ◌≤◌, Bool, true, false, List, [], ◌∷◌}
use Rattle.pattern_syntax.specs.Closing.{ClosedNode}
use Rattle.parsing_machine.specs.Parser.{Course, going, ended_with, halted_at}
use Rattle.parsing_machine.specs.Moves.{Move, halts, holds, opens, opens_two, opens_behind, mutates, shuts, shuts_before, shuts_range, shuts_range_before, shuts_open_range, shuts_rest, passes_on, shuts_top, adds_field, adds_last_field}

-- the parts of one of several nodes, 0 where there is none
unfoldable pub parts_at : List ClosedNode → ℕ → ℕ
parts_at [] i = 0
parts_at (f ∷ fs) zero = f.parts
parts_at (f ∷ fs) (suc i) = parts_at fs i

-- each has at most so many
pub record PartsWithin (n : ℕ) (ws : List ClosedNode) : Type 0 where
  pub fit : (i : ℕ) → parts_at ws i ≤ n

-- what waits, where it goes on
unfoldable pub waiting_of : Course → List ClosedNode
waiting_of (going z) = z.nodes.waiting
waiting_of (ended_with closed) = []
waiting_of (halted_at at) = []

unfoldable pub is_going : Course → Bool
is_going (going z) = true
is_going (ended_with closed) = false
is_going (halted_at at) = false

-- the parts of the nodes that a move lets wait
unfoldable pub opened_parts : Move → ℕ
opened_parts (halts at) = 0
opened_parts (holds s h) = 0
opened_parts (opens s f) = f.parts
opened_parts (opens_two f g) = f.parts + g.parts
opened_parts (opens_behind s w f) = f.parts
opened_parts mutates = 0
opened_parts (shuts w) = 0
opened_parts (shuts_before w) = 0
opened_parts (shuts_range w) = 0
opened_parts (shuts_range_before w) = 0
opened_parts shuts_open_range = 0
opened_parts shuts_rest = 0
opened_parts passes_on = 0
opened_parts shuts_top = 0
opened_parts (adds_field w f) = 0
opened_parts (adds_last_field w f) = 0

-- a move behind which it goes on, whatever mark it is made by
unfoldable pub goes_on : Move → Bool
goes_on (halts at) = false
goes_on (holds s h) = true
goes_on (opens s f) = true
goes_on (opens_two f g) = true
goes_on (opens_behind s w f) = true
goes_on mutates = true
goes_on (shuts w) = true
goes_on (shuts_before w) = false
goes_on (shuts_range w) = true
goes_on (shuts_range_before w) = false
goes_on shuts_open_range = false
goes_on shuts_rest = false
goes_on passes_on = false
goes_on shuts_top = true
goes_on (adds_field w f) = true
goes_on (adds_last_field w f) = true
