-- What a step makes of a draft and its stack in a table, within the limits or past one. Assumes nothing: these are definitions.
use Rattle.std.specs.Prelude.{Some, None}
use Rattle.std.specs.Prelude.{ℕ, ◌≡◌, true, false, List}
use Rattle.image.specs.declared.Tables.{Tables}
use Rattle.image.specs.Tables.{Whole}
use Rattle.pattern_images.specs.Imaging.{derefs_within, within_image_limits}
use Rattle.draft_stack.specs.Stack.{Stacked}
use Rattle.draft_tables.specs.declared.DraftCounts.{DraftCounts}
use Rattle.draft_tables.specs.Results.{DraftStep}
use Rattle.draft_tables.specs.Layout.{stacked_in}
use Rattle.draft_tables.specs.Room.{DraftRoom}

-- no pattern of the table has more than 16 derefs
abbrev pub DerefsHeld : List ℕ → DraftCounts → Type 0
DerefsHeld table c = (names : List ℕ) → derefs_within (stacked_in names table c).draft.patterns ≡ true

-- the table holds what the step makes, within the limits
pub record DraftHeld (tables : Tables) (table : List ℕ) (c : DraftCounts) (step : List ℕ → Stacked → Stacked) (counts : DraftCounts) (after : List ℕ) : Type 0 where
  pub room : DraftRoom tables counts
  pub holds : (names : List ℕ) → stacked_in names after counts ≡ step names (stacked_in names table c)
  pub derefs : DerefsHeld table c → DerefsHeld after counts

-- or what it makes is past one
abbrev pub DraftStepped : List ℕ → Tables → List ℕ → DraftCounts → (List ℕ → Stacked → Stacked) → DraftStep → List ℕ → Type 0
DraftStepped sheet tables table c step (Some counts) after = DraftHeld tables table c step counts after
DraftStepped sheet tables table c step None after = (names : List ℕ) → within_image_limits sheet (step names (stacked_in names table c)).draft ≡ false

-- a step that goes by the counts of a sheet alone
abbrev pub SheetsStepped : Tables → List ℕ → DraftCounts → (List ℕ → List ℕ → Stacked → Stacked) → DraftStep → List ℕ → Type 0
SheetsStepped tables table c step r after = (sheet : List ℕ) → Whole sheet tables → DraftStepped sheet tables table c (step sheet) r after
