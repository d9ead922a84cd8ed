-- What a rest, an open range and `mut` do on the tables. Assumes nothing: these are definitions.
use Rattle.std.specs.Prelude.{ℕ, suc, ◌+◌, ◌≤◌, ◌≡◌, List, ◌∷◌}
use Rattle.node_rows.specs.declared.NodeRow.{NodeRow}
use Rattle.node_rows.specs.Nodes.{closed_node_of}
use Rattle.parsing_machine.specs.Waiting.{settle}
use Rattle.parsing_machine.specs.Parser.{behind_alt, rest_item, rest_in, rest_read, open_range, mutated}
use Rattle.node_tables.specs.Tables.{rows_down}
use Rattle.parsing_steps.specs.declared.Heights.{Heights}
use Rattle.parsing_steps.specs.declared.ParseStep.{ParseStep}
use Rattle.parsing_steps.specs.Stepping.{course_of}

-- a mark behind a list's rest
pub record RestsItem (stack nodes : List ℕ) (depth rows m at : ℕ) (stack' nodes' : List ℕ) (r : ParseStep) : Type 0 where
  pub shows :
      (text names : List ℕ) → course_of text names stack' nodes' r ≡ rest_item m at (rows_down text names stack depth) (rows_down text names nodes rows)

-- a rest is noted, whatever the mark behind it is
pub record NotesRest (stack nodes : List ℕ) (depth rows dots : ℕ) (nodes' : List ℕ) (r : Heights) : Type 0 where
  pub shows :
      (text names : List ℕ) (m at : ℕ)
      → rest_item m at (rows_down text names stack r.depth) (rows_down text names nodes' r.rows)
      ≡ rest_in dots m at (rows_down text names stack depth) (rows_down text names nodes rows)
  pub total : r.depth + r.rows ≤ suc (depth + rows)
  pub shallow : r.depth ≤ depth

pub record RestsIn (stack nodes : List ℕ) (depth rows dots m at : ℕ) (stack' nodes' : List ℕ) (r : ParseStep) : Type 0 where
  pub shows :
      (text names : List ℕ) → course_of text names stack' nodes' r ≡ rest_in dots m at (rows_down text names stack depth) (rows_down text names nodes rows)

-- `..` that no bound follows
pub record RestsRead (stack nodes : List ℕ) (depth rows m at : ℕ) (stack' nodes' : List ℕ) (r : ParseStep) : Type 0 where
  pub shows :
      (text names : List ℕ) → course_of text names stack' nodes' r ≡ rest_read m at (rows_down text names stack depth) (rows_down text names nodes rows)

-- an alternative closes before a mark
pub record ShutsBefore (stack nodes : List ℕ) (below rows : ℕ) (w : NodeRow) (m at : ℕ) (stack' nodes' : List ℕ) (r : ParseStep) : Type 0 where
  pub shows :
      (text names : List ℕ)
      → course_of text names stack' nodes' r
      ≡ behind_alt m at (settle (rows_down text names stack below) (closed_node_of text names w ∷ rows_down text names nodes rows))

-- a range without an upper bound
pub record OpensRange (stack nodes : List ℕ) (depth rows m at : ℕ) (stack' nodes' : List ℕ) (r : ParseStep) : Type 0 where
  pub shows :
      (text names : List ℕ) → course_of text names stack' nodes' r ≡ open_range m at (rows_down text names stack depth) (rows_down text names nodes rows)

-- `mut` behind `&`
pub record MutatesTop (stack : List ℕ) (depth : ℕ) (after : List ℕ) : Type 0 where
  pub shows : (text names : List ℕ) → rows_down text names after depth ≡ mutated (rows_down text names stack depth)
