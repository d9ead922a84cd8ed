-- What the step of a pattern with a list makes. Assumes nothing: these are definitions.
use Rattle.std.specs.Prelude.{ℕ, ◌≡◌, List}
use Rattle.image.specs.declared.Tables.{Tables}
use Rattle.image.specs.declared.rows.PatRow.{PatRow}
use Rattle.pattern_typing.specs.Making.{list_made}
use Rattle.pattern_typing.specs.Closed.{closed_making}
use Rattle.draft_stack.specs.Stack.{words_taken}
use Rattle.draft_tables.specs.declared.DraftCounts.{DraftCounts}
use Rattle.draft_tables.specs.Results.{DraftStep}
use Rattle.draft_tables.specs.Steps.{SheetsStepped}
use Rattle.draft_rows.specs.Nodes.{node_step}

-- a row of so many parts that take so many words
abbrev pub ListStepped : Tables → List ℕ → DraftCounts → PatRow → ℕ → ℕ → DraftStep → List ℕ → Type 0
ListStepped tables table c row parts many r after =
    words_taken (closed_making (list_made row) parts) ≡ many → SheetsStepped tables table c (node_step (list_made row) parts) r after
