-- What holds between two tokens of a text. Assumes nothing: these are definitions.
use Rattle.std.specs.Prelude.{ℕ, ◌+◌, ◌<◌, ◌≤◌, ◌≡◌, List, length}
use Rattle.node_rows.specs.Nodes.{nodes_in}
use Rattle.parsing_machine.specs.Answers.{nodes_are, fails_there, parsed_nodes}
use Rattle.parsing_bounds.specs.Weights.{owed}
use Rattle.parsing_steps.specs.declared.ParseState.{ParseState}
use Rattle.parsing_steps.specs.declared.ParseStep.{ParseStep}
use Rattle.parsing_steps.specs.declared.ParseStep.TheVariants.{Going, Ended, Halted}
use Rattle.parsing_steps.specs.Settling.{PartsMost}
use Rattle.parsing_course.specs.Course.{ReadSoFar}
use Rattle.token_moves.specs.TokenMoves.{pending, PathEnds}

-- The parser before a token: what is read on from here is what is read of the whole text; nodes and names are no more than the bytes read, and a path
-- that may go on ends with the names
pub record ParsingAt (text names : List ℕ) (named : ℕ) (stack nodes : List ℕ) (at : ℕ) (p : ParseState) : Type 0 where
  pub so_far : ReadSoFar text names named stack nodes at p
  pub inside : at ≤ length text
  pub weighs : p.depth + p.rows + owed p.state ≤ at
  pub parts : PartsMost at stack p.depth
  pub path : PathEnds p.state p.held named
  pub spelled : named + pending p.state ≤ at

-- so many rows are the text's nodes
pub record NodesParsed (text names nodes : List ℕ) (n : ℕ) : Type 0 where
  pub same : nodes_are (nodes_in text names nodes n) ≡ parsed_nodes text
  pub few : n ≤ 16384

-- behind a token: the parser before the next one, which is further on, or the answer
abbrev pub TokenRead : List ℕ → ℕ → ParseStep → ℕ → ℕ → List ℕ → List ℕ → List ℕ → Type 0
TokenRead text at (Going q) next named names stack nodes = ParsingAt text names named stack nodes next q × (at < next)
TokenRead text at (Ended n) next named names stack nodes = NodesParsed text names nodes n
TokenRead text at (Halted place) next named names stack nodes = fails_there place ≡ parsed_nodes text
