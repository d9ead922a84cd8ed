-- What a row of makings makes of a draft and its stack, and what it asks for. Assumes nothing: these are definitions.
use Rattle.std.specs.Prelude.{ℕ, ◌≤◌, ◌<◌, ◌≡◌, Bool, true, ◌&&◌, List, [], ◌∷◌}
use Rattle.image.specs.declared.Tables.{Tables}
use Rattle.image.specs.Tables.{Whole}
use Rattle.pattern_typing.specs.Making.{Making, not_made, row_made, literal_made, operand_made, operand_named, range_made, bind_made, reference_made, list_made, slice_made, field_made}
use Rattle.pattern_typing.specs.Closed.{ClosedMaking}
use Rattle.node_rows.specs.declared.MakingRow.{MakingRow}
use Rattle.node_rows.specs.Makings.{closed_making_of}
use Rattle.draft_stack.specs.Stack.{Stacked, words_taken, emit_one, may_have_parts}
use Rattle.draft_tables.specs.declared.DraftCounts.{DraftCounts}
use Rattle.draft_tables.specs.Results.{DraftStep}
use Rattle.draft_tables.specs.Room.{DraftRoom}
use Rattle.draft_operands.specs.Literals.{literal_fits}
use Rattle.draft_binds.specs.Named.{SteppedFor}

-- a making's literal has 16 bytes or fewer
unfoldable pub making_fits : Making → Bool
making_fits not_made = true
making_fits (row_made row) = true
making_fits (literal_made t derefs v) = literal_fits v
making_fits (operand_made v) = literal_fits v
making_fits (operand_named o) = true
making_fits (range_made t derefs lower upper dots) = true
making_fits (bind_made t mode annotation name at) = true
making_fits (reference_made t) = true
making_fits (list_made row) = true
making_fits (slice_made t derefs before) = true
making_fits (field_made number) = true

-- and so has that of each
unfoldable pub literals_fit : List ClosedMaking → Bool
literals_fit [] = true
literals_fit (m ∷ ms) = making_fits m.makes && literals_fit ms

-- a making finds its parts on the stack, which has room for one word more, and its literal is no longer
pub record MakingReady (tables : Tables) (c : DraftCounts) (m : ClosedMaking) : Type 0 where
  pub room : DraftRoom tables c
  pub high : c.height < 16384
  pub may : may_have_parts m.makes m.parts ≡ true
  pub enough : words_taken m ≤ c.height
  pub fits : making_fits m.makes ≡ true

-- the step of a row
abbrev pub making_step : List ℕ → List ℕ → List ℕ → MakingRow → Stacked → Stacked
making_step sheet text names row s = emit_one sheet (closed_making_of text names row) s.stack s.draft

-- what the table becomes, where text and names are these
abbrev pub MakingStepped : List ℕ → List ℕ → List ℕ → Tables → List ℕ → DraftCounts → MakingRow → DraftStep → List ℕ → Type 0
MakingStepped sheet text names tables table c row r after = SteppedFor names sheet tables table c (making_step sheet text names row) r after

-- whatever the names are: no name is in the row
abbrev pub LeafStepped : List ℕ → Tables → List ℕ → DraftCounts → MakingRow → DraftStep → List ℕ → Type 0
LeafStepped text tables table c row r after =
    (sheet names : List ℕ) → Whole sheet tables → MakingStepped sheet text names tables table c row r after

-- whatever the text is: no literal is in the row
abbrev pub NodeStepped : List ℕ → List ℕ → Tables → List ℕ → DraftCounts → MakingRow → DraftStep → List ℕ → Type 0
NodeStepped sheet names tables table c row r after = (text : List ℕ) → MakingStepped sheet text names tables table c row r after

-- whatever both are
abbrev pub JoinedStepped : Tables → List ℕ → DraftCounts → MakingRow → DraftStep → List ℕ → Type 0
JoinedStepped tables table c row r after =
    (sheet text names : List ℕ) → Whole sheet tables → MakingStepped sheet text names tables table c row r after
