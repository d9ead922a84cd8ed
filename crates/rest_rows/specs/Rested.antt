-- Rows with a rest, where one may stand, and what waits for one. Assumes nothing: these are definitions.
use Rattle.std.specs.Prelude.{ℕ, suc, ◌≡◌, Bool, cond, ◌&&◌, ◌||◌, List, eqb}
use Rattle.pattern_grammar.specs.Lexemes.{comma_mark, close_bracket_mark}
use Rattle.node_rows.specs.declared.NodeRow.{NodeRow}
use Rattle.parsing_machine.specs.Waiting.{rest_fits, slice_takes_rest}
use Rattle.node_tables.specs.Tables.{row_kind, rows_down}

-- a list's row, with the parts so far before its rest
abbrev pub counted_row : NodeRow → ℕ → NodeRow
counted_row row parts =
    record { kind = row.kind; at = row.at; parts = parts; more = row.parts; spot = row.spot; from = row.from; to = row.to }

-- a list whose next item is its rest; another row stays
unfoldable pub rested_row : NodeRow → NodeRow
rested_row row =
    cond (eqb (row_kind row) 11) (counted_row row (suc row.parts))
    (cond (eqb (row_kind row) 9 || eqb (row_kind row) 10) (counted_row row row.parts) row)

-- a list that has no rest so far
unfoldable pub takes_rest_row : NodeRow → Bool
takes_rest_row row = (eqb (row_kind row) 9 || (eqb (row_kind row) 10 || eqb (row_kind row) 11)) && eqb row.more 65535

abbrev pub rest_row : ℕ → NodeRow
rest_row dots = record { kind = 1; at = dots; parts = 0; more = 0; spot = 0; from = 0; to = 0 }

-- `a..`
abbrev pub open_row : ℕ → NodeRow
open_row at = record { kind = 5; at = at; parts = 1; more = 1; spot = 0; from = 1; to = 0 }

-- `&mut`
abbrev pub mutated_row : NodeRow → NodeRow
mutated_row row = record { kind = 8; at = row.at; parts = row.parts; more = 1; spot = 0; from = 0; to = 0 }

-- what waits is a slice, and a mark stands behind its item
abbrev pub bars_open : ℕ → ℕ → Bool
bars_open kind m = eqb kind 11 && (eqb m comma_mark || eqb m close_bracket_mark)

-- a rest may stand in what waits, whatever the text and the bytes of names are
pub record FitsSlice (stack : List ℕ) (depth : ℕ) (b : Bool) : Type 0 where
  pub tells : (text names : List ℕ) → b ≡ slice_takes_rest (rows_down text names stack depth)

pub record FitsRest (stack : List ℕ) (depth : ℕ) (b : Bool) : Type 0 where
  pub tells : (text names : List ℕ) → b ≡ rest_fits (rows_down text names stack depth)
