-- The tables of the downward pass, and what the pass leaves in them. Assumes nothing: these are definitions.
use Rattle.std.specs.Prelude.{ℕ, ◌+◌, ◌*◌, ◌≤◌, ◌≡◌, true, List, [], ◌∷◌, length, drop}
use Rattle.std.proofs.Math.Option.{none}
use Rattle.image.specs.declared.Tables.{Tables}
use Rattle.image.specs.Tables.{Whole}
use Rattle.type_sheets.specs.Sheets.{sheet_holds}
use Rattle.name_tables.specs.Tested.{NameBytesWithin}
use Rattle.pattern_typing.specs.Resolving.{Resolved, resolved}
use Rattle.pattern_typing.specs.Downward.{Waiting, wait_for, next_context, behind_next, Typed, type_nodes, typing_of}
use Rattle.pattern_typing.specs.Closed.{closed_making}
use Rattle.node_rows.specs.declared.MakingRow.{MakingRow}
use Rattle.node_rows.specs.Nodes.{node_row_at, node_of, nodes_in}
use Rattle.node_rows.specs.Makings.{making_row_at, closed_making_of, makings_in}
use Rattle.name_resolving.specs.Results.{Refused}
use Rattle.name_resolving.specs.Gives.{refused_of}
use Rattle.node_resolving.specs.Known.{PartsKnown}
use Rattle.typing_state.specs.Parents.{stack_of}
use Rattle.node_typing.specs.declared.steps.TypedRow.{TypedRow}

-- the words of a row of what is made
abbrev pub making_words : MakingRow → List ℕ
making_words row =
    row.kind ∷ row.parts ∷ row.ty ∷ row.derefs ∷ row.a ∷ row.b ∷ row.c ∷ row.from ∷ row.to ∷ row.element ∷ row.many ∷ row.copy ∷ []

-- the types that parents name are the sheet's
abbrev pub StackKnown : List ℕ → List Waiting → Type 0
StackKnown sheet [] = Unit
StackKnown sheet (w ∷ stack) = PartsKnown sheet w.reads × StackKnown sheet stack

-- the sizes of the lent tables
pub record Sized (nodes makings waiting : List ℕ) : Type 0 where
  pub nodes_long : length nodes ≡ 114688
  pub makings_long : length makings ≡ 196608
  pub waiting_long : length waiting ≡ 114695

-- a sheet and a name table that keep their rules
pub record Typing (sheet : List ℕ) (tables : Tables) (names : List ℕ) : Type 0 where
  pub whole : Whole sheet tables
  pub bytes : NameBytesWithin names
  pub holds : sheet_holds sheet ≡ true

-- what becomes of the node i
abbrev pub resolved_at : List ℕ → List ℕ → List ℕ → List ℕ → ℕ → List Waiting → List ℕ → Resolved
resolved_at sheet names spelled nodes i stack text =
    resolved sheet names (node_row_at nodes i).at (node_of text spelled (node_row_at nodes i)) (node_row_at nodes i).parts (next_context sheet stack)

-- what typing one row leaves: the row that is made, those above as they were, the stack, and whether it is refused
pub record RowTyped (sheet names spelled nodes : List ℕ) (i : ℕ) (before after : List ℕ) (stack : List Waiting) (waiting : List ℕ) (depth : ℕ) (r : TypedRow) : Type 0 where
  pub made : (text : List ℕ) → closed_making_of text spelled (making_row_at after i) ≡ closed_making (resolved_at sheet names spelled nodes i stack text).making (node_row_at nodes i).parts
  pub above : drop (12 * (i + 1)) after ≡ drop (12 * (i + 1)) before
  pub refuses : (text : List ℕ) → refused_of r.refused ≡ (resolved_at sheet names spelled nodes i stack text).refused_at
  pub waits : (text : List ℕ) → stack_of waiting r.depth ≡ wait_for (resolved_at sheet names spelled nodes i stack text).reads (node_row_at nodes i).parts (behind_next stack)
  pub deep : r.depth ≤ depth + 1

-- at most one parent waits at the start
abbrev pub starts_at : List ℕ → List ℕ → ℕ → Type 0
starts_at sheet waiting first = (first ≤ 1) × StackKnown sheet (stack_of waiting first)

-- nothing is typed yet
abbrev pub untyped : List Waiting → Typed
untyped stack = record { stack = stack; refused = none; makes = [] }

-- the rows say what the definition makes of the nodes, and the answer is the first position that it refuses, whatever the text
pub record NodesTyped (sheet names spelled nodes : List ℕ) (n : ℕ) (waiting : List ℕ) (first : ℕ) (makings : List ℕ) (r : Refused) : Type 0 where
  pub makes : (text : List ℕ) → makings_in text spelled makings n ≡ (type_nodes sheet names (nodes_in text spelled nodes n) (untyped (stack_of waiting first))).makes
  pub refuses : (text : List ℕ) → refused_of r ≡ (type_nodes sheet names (nodes_in text spelled nodes n) (untyped (stack_of waiting first))).refused

-- the same from the expected type on
pub record PatternTyped (sheet names spelled nodes : List ℕ) (n expected : ℕ) (makings : List ℕ) (r : Refused) : Type 0 where
  pub makes : (text : List ℕ) → makings_in text spelled makings n ≡ (type_nodes sheet names (nodes_in text spelled nodes n) (typing_of expected)).makes
  pub refuses : (text : List ℕ) → refused_of r ≡ (type_nodes sheet names (nodes_in text spelled nodes n) (typing_of expected)).refused
