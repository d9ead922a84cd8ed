-- What the tables hold when an alternative has closed. Assumes nothing: these are definitions.
use Rattle.std.specs.Prelude.{ℕ, suc, ◌+◌, ◌<◌, ◌≤◌, ◌≡◌, Bool, false, ◌||◌, List, [], ◌∷◌, eqb}
use Rattle.pattern_syntax.specs.Closing.{ClosedNode}
use Rattle.node_rows.specs.declared.NodeRow.{NodeRow}
use Rattle.node_rows.specs.Nodes.{node_row_at, closed_node_of}
use Rattle.parsing_machine.specs.Waiting.{node_kind, begun_last, settle}
use Rattle.node_tables.specs.Tables.{row_kind, rows_down, opened_of}
use Rattle.parsing_steps.specs.declared.Heights.{Heights}

abbrev pub passes_by : NodeRow → Bool
passes_by row = eqb (row_kind row) 7 || eqb (row_kind row) 8

-- one part more
abbrev pub grown_row : NodeRow → NodeRow
grown_row row =
    record { kind = row.kind; at = row.at; parts = suc row.parts; more = row.more; spot = row.spot; from = row.from; to = row.to }

-- from another byte on
abbrev pub begun_row : ℕ → NodeRow → NodeRow
begun_row at row = record { kind = row.kind; at = at; parts = row.parts; more = row.more; spot = row.spot; from = row.from; to = row.to }

-- what waits has at most so many parts each
pub record PartsMost (most : ℕ) (stack : List ℕ) (depth : ℕ) : Type 0 where
  pub fit : (i : ℕ) → i < depth → (node_row_at stack i).parts ≤ most

-- what waits innermost is a name with `@` or a reference
unfoldable pub passes_first : List ClosedNode → Bool
passes_first [] = false
passes_first (f ∷ fs) = eqb (node_kind f.is) 7 || eqb (node_kind f.is) 8

-- settling goes on from here, whatever the text and the bytes of names are
abbrev pub GoesOn : List ℕ → List ℕ → ℕ → ℕ → List ℕ → ℕ → ℕ → Type 0
GoesOn stack nodes depth rows after d n =
    (text names : List ℕ)
    → settle (rows_down text names stack d) (rows_down text names after n) ≡ settle (rows_down text names stack depth) (rows_down text names nodes rows)

pub record Passes (stack nodes : List ℕ) (depth rows : ℕ) (after : List ℕ) (r : Heights) : Type 0 where
  pub goes : GoesOn stack nodes depth rows after r.depth r.rows
  pub rests : (text names : List ℕ) → passes_first (rows_down text names stack r.depth) ≡ false
  pub total : r.depth + r.rows ≡ depth + rows
  pub shallow : r.depth ≤ depth

-- the last node begins there
abbrev pub BeginsLast : List ℕ → ℕ → ℕ → List ℕ → Type 0
BeginsLast nodes rows at after = (text names : List ℕ) → rows_down text names after rows ≡ begun_last at (rows_down text names nodes rows)

-- an alternative has closed: what the tables hold then, which is no more than before, and has a part more at most
pub record Settles (stack nodes : List ℕ) (depth rows : ℕ) (stack' nodes' : List ℕ) (r : Heights) : Type 0 where
  pub shows :
      (text names : List ℕ)
      → opened_of text names stack' nodes' r.depth r.rows ≡ settle (rows_down text names stack depth) (rows_down text names nodes rows)
  pub total : r.depth + r.rows ≤ depth + rows
  pub raises : (most : ℕ) → PartsMost most stack depth → PartsMost (suc most) stack' r.depth

-- the same where what waits innermost is no name with `@` and no reference
pub record SettlesLast (stack nodes : List ℕ) (depth rows : ℕ) (stack' nodes' : List ℕ) (r : Heights) : Type 0 where
  pub shows :
      (text names : List ℕ) → passes_first (rows_down text names stack depth) ≡ false
      → opened_of text names stack' nodes' r.depth r.rows ≡ settle (rows_down text names stack depth) (rows_down text names nodes rows)
  pub total : r.depth + r.rows ≤ depth + rows
  pub raises : (most : ℕ) → PartsMost most stack depth → PartsMost (suc most) stack' r.depth

-- a node closes above what waits
pub record Shuts (stack nodes : List ℕ) (below rows : ℕ) (w : NodeRow) (stack' nodes' : List ℕ) (r : Heights) : Type 0 where
  pub shows :
      (text names : List ℕ)
      → opened_of text names stack' nodes' r.depth r.rows
      ≡ settle (rows_down text names stack below) (closed_node_of text names w ∷ rows_down text names nodes rows)
  pub total : r.depth + r.rows ≤ suc (below + rows)
  pub raises : (most : ℕ) → PartsMost most stack below → PartsMost (suc most) stack' r.depth
