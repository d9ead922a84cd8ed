-- What the step of a node that is a literal makes, whatever literal its operand is of. Assumes nothing: these are definitions.
use Rattle.std.specs.Prelude.{ℕ, List}
use Rattle.image.specs.declared.Tables.{Tables}
use Rattle.pattern_syntax.specs.Written.{LiteralValue}
use Rattle.pattern_typing.specs.Making.{Making}
use Rattle.draft_tables.specs.declared.DraftCounts.{DraftCounts}
use Rattle.draft_tables.specs.Results.{DraftStep}
use Rattle.draft_tables.specs.Steps.{SheetsStepped}
use Rattle.draft_rows.specs.Nodes.{node_step}
use Rattle.draft_operands.specs.declared.LiteralBytes.{LiteralBytes}
use Rattle.draft_operands.specs.Literals.{IsOperandOf}

abbrev pub LiteralStepped : Tables → List ℕ → DraftCounts → LiteralBytes → (LiteralValue → Making) → ℕ → DraftStep → List ℕ → Type 0
LiteralStepped tables table c operand making parts r after =
    (v : LiteralValue) → IsOperandOf v operand → SheetsStepped tables table c (node_step (making v) parts) r after
