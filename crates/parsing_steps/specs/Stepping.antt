-- What the tables and a step stand for. Assumes nothing: these are definitions.
use Rattle.std.specs.Prelude.{ℕ, suc, ◌+◌, ◌≤◌, ◌≡◌, Bool, cond, ◌&&◌, List, ◌∷◌, eqb}
use Rattle.node_rows.specs.declared.NodeRow.{NodeRow}
use Rattle.node_rows.specs.Nodes.{closed_node_of}
use Rattle.pattern_grammar.specs.Lexemes.{comma_mark, close_brace_mark}
use Rattle.parsing_machine.specs.declared.ReadState.{ReadState}
use Rattle.parsing_machine.specs.declared.ReadState.TheVariants.{Begin, AtBrace}
use Rattle.parsing_machine.specs.Waiting.{opened, node_kind, closes, part_more, grown, shut_top}
use Rattle.parsing_machine.specs.Moves.{nothing_held}
use Rattle.parsing_machine.specs.Parser.{Course, ended_with, halted_at, going_in, alt_read, item_last}
use Rattle.node_tables.specs.Tables.{row_kind, rows_down, opened_of}
use Rattle.parsing_moves.specs.Rows.{held_in}
use Rattle.parsing_steps.specs.declared.Heights.{Heights}
use Rattle.parsing_steps.specs.declared.ParseStep.{ParseStep}
use Rattle.parsing_steps.specs.declared.ParseStep.TheVariants.{Going, Ended, Halted}
use Rattle.parsing_steps.specs.Settling.{PartsMost}

-- the course of a step, with what the tables hold
unfoldable pub course_of : List ℕ → List ℕ → List ℕ → List ℕ → ParseStep → Course
course_of text names stack nodes (Going p) =
    going_in p.state (held_in text names p.state p.held) (opened_of text names stack nodes p.depth p.rows)
course_of text names stack nodes (Ended n) = ended_with (rows_down text names nodes n)
course_of text names stack nodes (Halted at) = halted_at at

-- a state that holds nothing
abbrev pub going_on : ReadState → Heights → ParseStep
going_on s h =
    Going (record { state = s; held = record { at = 0; more = 0; spot = 0; from = 0; to = 0 }; depth = h.depth; rows = h.rows })

-- `(` with nothing behind it but one pattern
abbrev pub is_bare_row : NodeRow → Bool
is_bare_row row = eqb (row_kind row) 9 && (eqb row.more 65535 && eqb row.parts 0)

-- an item is the last of its list
pub record EndsItem (stack nodes : List ℕ) (below rows : ℕ) (f : NodeRow) (stack' nodes' : List ℕ) (r : Heights) : Type 0 where
  pub shows :
      (text names : List ℕ)
      → opened_of text names stack' nodes' r.depth r.rows
      ≡ item_last (closed_node_of text names f) (rows_down text names stack below) (rows_down text names nodes rows)
  pub total : r.depth + r.rows ≤ suc (below + rows)

-- what waits innermost has a part more
pub record GrowsTop (stack : List ℕ) (depth : ℕ) (after : List ℕ) : Type 0 where
  pub shows :
      (text names : List ℕ) → rows_down text names after depth ≡ grown (rows_down text names stack depth)

-- or closes with it
pub record ShutsGrown (stack nodes : List ℕ) (depth rows : ℕ) (stack' nodes' : List ℕ) (r : Heights) : Type 0 where
  pub shows :
      (text names : List ℕ)
      → opened_of text names stack' nodes' r.depth r.rows ≡ shut_top (grown (rows_down text names stack depth)) (rows_down text names nodes rows)
  pub total : r.depth + r.rows ≤ depth + rows
  pub raises : (most : ℕ) → PartsMost most stack depth → PartsMost (suc most) stack' r.depth

-- a mark behind a list's item, and behind a field's pattern, as `ended_in` has it
pub record EndsInItem (stack nodes : List ℕ) (below rows : ℕ) (f : NodeRow) (m at : ℕ) (stack' nodes' : List ℕ) (r : ParseStep) : Type 0 where
  pub shows :
      (text names : List ℕ)
      → course_of text names stack' nodes' r
      ≡ cond (eqb m comma_mark)
      (going_in Begin nothing_held (opened (part_more (closed_node_of text names f) ∷ rows_down text names stack below) (rows_down text names nodes rows)))
      (cond (closes (node_kind (closed_node_of text names f).is) m)
      (alt_read (item_last (closed_node_of text names f) (rows_down text names stack below) (rows_down text names nodes rows)))
      (halted_at at))

pub record EndsInField (stack nodes : List ℕ) (below rows : ℕ) (f : NodeRow) (m at : ℕ) (stack' nodes' : List ℕ) (r : ParseStep) : Type 0 where
  pub shows :
      (text names : List ℕ)
      → course_of text names stack' nodes' r
      ≡ cond (eqb m comma_mark)
      (going_in AtBrace nothing_held
      (opened (grown (rows_down text names stack below)) (part_more (closed_node_of text names f) ∷ rows_down text names nodes rows)))
      (cond (eqb m close_brace_mark)
      (alt_read (shut_top (grown (rows_down text names stack below)) (part_more (closed_node_of text names f) ∷ rows_down text names nodes rows)))
      (halted_at at))
