-- What a move of the machine does on the tables. Assumes nothing: these are definitions.
use Rattle.std.specs.Prelude.{ℕ, ◌≡◌, List}
use Rattle.parsing_machine.specs.Parser.{perform}
use Rattle.node_tables.specs.Tables.{opened_of}
use Rattle.parsing_moves.specs.declared.NodeMove.{NodeMove}
use Rattle.parsing_moves.specs.Rows.{move_of}
use Rattle.parsing_steps.specs.declared.ParseStep.{ParseStep}
use Rattle.parsing_steps.specs.Stepping.{course_of}

-- the tables and the step are what the machine comes to by the move, whatever the text and the bytes of names are
pub record PerformsMove (stack nodes : List ℕ) (depth rows : ℕ) (move : NodeMove) (m at : ℕ) (stack' nodes' : List ℕ) (r : ParseStep) : Type 0 where
  pub shows :
      (text names : List ℕ)
      → course_of text names stack' nodes' r ≡ perform (move_of text names move) m at (opened_of text names stack nodes depth rows)

-- by any mark
pub record PerformsAny (stack nodes : List ℕ) (depth rows : ℕ) (move : NodeMove) (stack' nodes' : List ℕ) (r : ParseStep) : Type 0 where
  pub shows :
      (text names : List ℕ) (m at : ℕ)
      → course_of text names stack' nodes' r ≡ perform (move_of text names move) m at (opened_of text names stack nodes depth rows)

-- over any nodes that have closed
pub record PerformsOver (stack : List ℕ) (depth rows : ℕ) (move : NodeMove) (stack' : List ℕ) (r : ParseStep) : Type 0 where
  pub shows :
      (text names nodes : List ℕ) (m at : ℕ)
      → course_of text names stack' nodes r ≡ perform (move_of text names move) m at (opened_of text names stack nodes depth rows)
