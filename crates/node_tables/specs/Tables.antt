-- What a table of rows holds, and what it holds when a row has been put. Assumes nothing: these are definitions.
use Rattle.std.specs.Prelude.{ℕ, zero, suc, ◌<◌, ◌≡◌, cond, List, [], ◌∷◌, ltb}
use Rattle.pattern_syntax.specs.Closing.{ClosedNode}
use Rattle.node_rows.specs.declared.NodeRow.{NodeRow}
use Rattle.node_rows.specs.Nodes.{node_row_at, closed_node_of}
use Rattle.parsing_machine.specs.Waiting.{Opened, opened}

-- a row is put, and those below it stay
pub record Puts (before : List ℕ) (i : ℕ) (row : NodeRow) (after : List ℕ) : Type 0 where
  pub here : node_row_at after i ≡ row
  pub below : (j : ℕ) → j < i → node_row_at after j ≡ node_row_at before j

-- the kind of a row's node
unfoldable pub row_kind : NodeRow → ℕ
row_kind row = cond (ltb row.kind 14) row.kind 14

-- the nodes of the first n rows, the last first
unfoldable pub rows_down : List ℕ → List ℕ → List ℕ → ℕ → List ClosedNode
rows_down text names table zero = []
rows_down text names table (suc n) = closed_node_of text names (node_row_at table n) ∷ rows_down text names table n

-- what two tables hold, as what waits and what has closed
unfoldable pub opened_of : List ℕ → List ℕ → List ℕ → List ℕ → ℕ → ℕ → Opened
opened_of text names stack nodes depth rows = opened (rows_down text names stack depth) (rows_down text names nodes rows)
