-- What a text is read as: its nodes in the order in which they close, or where it fails. Assumes nothing: these are definitions.
use Rattle.std.specs.Prelude.{ℕ, List, [], ◌∷◌, ◌++◌}
use Rattle.pattern_grammar.specs.Parsed.{parsed}
use Rattle.pattern_syntax.specs.Reduced.{reduced}
use Rattle.pattern_syntax.specs.Closing.{ClosedNode, closing}
use Rattle.pattern_reading.specs.Reads.{Outcome, tree_is, fails_at, outcome}
use Rattle.parsing_machine.specs.declared.ReadState.TheVariants.{Begin}
use Rattle.parsing_machine.specs.Waiting.{opened}
use Rattle.parsing_machine.specs.Moves.{nothing_held}
use Rattle.parsing_machine.specs.Parser.{Course, going, ended_with, halted_at, going_in}

pub data NodesOrFailure : Type 0 where
  nodes_are : List ClosedNode → NodesOrFailure
  fails_there : ℕ → NodesOrFailure

unfoldable pub nodes_from : List ℕ → Outcome → NodesOrFailure
nodes_from text (tree_is p) = nodes_are (closing (reduced text p))
nodes_from text (fails_at at) = fails_there at

unfoldable pub parsed_nodes : List ℕ → NodesOrFailure
parsed_nodes text = nodes_from text (outcome (parsed text))

-- nodes of which the last stands first, in the order in which they closed
unfoldable pub in_order : List ClosedNode → List ClosedNode
in_order [] = []
in_order (w ∷ ws) = in_order ws ++ (w ∷ [])

-- where the parser comes to
unfoldable pub answer_from : Course → NodesOrFailure
answer_from (going z) = fails_there 0
answer_from (ended_with closed) = nodes_are (in_order closed)
answer_from (halted_at at) = fails_there at

-- before the first token
abbrev pub fresh_course : Course
fresh_course = going_in Begin nothing_held (opened [] [])
