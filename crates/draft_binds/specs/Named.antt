-- What a step makes of a draft and its stack in a table where the names' bytes are these: a name is looked for among them. Assumes nothing: these
-- are definitions.
use Rattle.std.specs.Prelude.{Some, None}
use Rattle.std.specs.Prelude.{ℕ, ◌≡◌, true, false, List}
use Rattle.image.specs.declared.Tables.{Tables}
use Rattle.pattern_images.specs.Imaging.{derefs_within, within_image_limits}
use Rattle.draft_stack.specs.Stack.{Stacked}
use Rattle.draft_tables.specs.declared.DraftCounts.{DraftCounts}
use Rattle.draft_tables.specs.Results.{DraftStep}
use Rattle.draft_tables.specs.Layout.{stacked_in}
use Rattle.draft_tables.specs.Room.{DraftRoom}

-- the table holds what the step makes, within the limits
pub record HeldFor (names : List ℕ) (tables : Tables) (table : List ℕ) (c : DraftCounts) (step : Stacked → Stacked) (counts : DraftCounts) (after : List ℕ) : Type 0 where
  pub room : DraftRoom tables counts
  pub holds : stacked_in names after counts ≡ step (stacked_in names table c)
  pub derefs : derefs_within (stacked_in names table c).draft.patterns ≡ true → derefs_within (stacked_in names after counts).draft.patterns ≡ true

-- or what it makes is past one
abbrev pub SteppedFor : List ℕ → List ℕ → Tables → List ℕ → DraftCounts → (Stacked → Stacked) → DraftStep → List ℕ → Type 0
SteppedFor names sheet tables table c step (Some counts) after = HeldFor names tables table c step counts after
SteppedFor names sheet tables table c step None after = within_image_limits sheet (step (stacked_in names table c)).draft ≡ false
