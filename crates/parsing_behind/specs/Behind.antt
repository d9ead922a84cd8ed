-- What a mark behind an alternative does on the tables. Assumes nothing: these are definitions.
use Rattle.std.specs.Prelude.{ℕ, ◌≡◌, List}
use Rattle.node_rows.specs.declared.NodeRow.{NodeRow}
use Rattle.parsing_machine.specs.Waiting.{innermost_kind, last_from, another_alt}
use Rattle.parsing_machine.specs.Parser.{ended_in, behind_alt}
use Rattle.node_tables.specs.Tables.{rows_down, opened_of}
use Rattle.parsing_steps.specs.declared.Heights.{Heights}
use Rattle.parsing_steps.specs.declared.ParseStep.{ParseStep}
use Rattle.parsing_steps.specs.Stepping.{course_of}

-- an Or with its first alternative
abbrev pub or_row : ℕ → NodeRow
or_row at = record { kind = 14; at = at; parts = 1; more = 0; spot = 0; from = 0; to = 0 }

pub record InnermostIs (stack : List ℕ) (depth kind : ℕ) : Type 0 where
  pub tells : (text names : List ℕ) → kind ≡ innermost_kind (rows_down text names stack depth)

pub record LastIs (nodes : List ℕ) (rows at : ℕ) : Type 0 where
  pub tells : (text names : List ℕ) → at ≡ last_from (rows_down text names nodes rows)

pub record AnotherWaits (stack nodes : List ℕ) (depth rows : ℕ) (stack' : List ℕ) (r : Heights) : Type 0 where
  pub shows :
      (text names : List ℕ) → opened_of text names stack' nodes r.depth r.rows ≡ another_alt (opened_of text names stack nodes depth rows)

pub record EndsIn (stack nodes : List ℕ) (depth rows m at : ℕ) (stack' nodes' : List ℕ) (r : ParseStep) : Type 0 where
  pub shows :
      (text names : List ℕ) → course_of text names stack' nodes' r ≡ ended_in m at (rows_down text names stack depth) (rows_down text names nodes rows)

pub record StandsBehind (stack nodes : List ℕ) (depth rows m at : ℕ) (stack' nodes' : List ℕ) (r : ParseStep) : Type 0 where
  pub shows : (text names : List ℕ) → course_of text names stack' nodes' r ≡ behind_alt m at (opened_of text names stack nodes depth rows)
