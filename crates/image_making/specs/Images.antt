-- What rows of makings add to a sheet, one after another, and the image of it. Assumes nothing: these are definitions.
use Rattle.std.specs.Prelude.{Some, None}
use Rattle.std.specs.Prelude.{ℕ, ◌≡◌, true, false, List, [], length}
use Rattle.image.specs.declared.Tables.{Tables}
use Rattle.image.specs.Tables.{Whole}
use Rattle.row_tables.specs.Rows.{stored}
use Rattle.type_sheets.specs.Sheets.{sheet_holds}
use Rattle.pattern_typing.specs.Closed.{ClosedMaking}
use Rattle.pattern_images.specs.Drafts.{Draft, empty_draft}
use Rattle.pattern_images.specs.Imaging.{image_with, derefs_within, within_image_limits}
use Rattle.draft_stack.specs.Stack.{emit_up, parts_stand}
use Rattle.draft_tables.specs.declared.DraftCounts.{DraftCounts}
use Rattle.draft_tables.specs.Results.{DraftStep}
use Rattle.draft_tables.specs.Layout.{stacked_in}
use Rattle.draft_tables.specs.Room.{DraftRoom}
use Rattle.draft_makings.specs.Makings.{literals_fit}
use Rattle.image_making.specs.Results.{ImageMade}

-- the sheet keeps its rules, each making finds its parts, and no literal is longer than 16 bytes
pub record ImageReady (sheet : List ℕ) (tables : Tables) (ms : List ClosedMaking) : Type 0 where
  pub whole : Whole sheet tables
  pub ruled : sheet_holds sheet ≡ true
  pub stand : parts_stand ms 0 ≡ true
  pub fit : literals_fit ms ≡ true

-- what makings add to a sheet
abbrev pub draft_up : List ℕ → List ClosedMaking → Draft
draft_up sheet ms = (emit_up sheet ms [] empty_draft).draft

-- the table holds what they add, and what they leave on the stack, within the limits
pub record EmittedUp (names sheet : List ℕ) (tables : Tables) (ms : List ClosedMaking) (counts : DraftCounts) (table : List ℕ) : Type 0 where
  pub room : DraftRoom tables counts
  pub holds : stacked_in names table counts ≡ emit_up sheet ms [] empty_draft
  pub derefs : derefs_within (stacked_in names table counts).draft.patterns ≡ true

-- or that is past one
abbrev pub EmitsUp : List ℕ → List ℕ → Tables → List ClosedMaking → DraftStep → List ℕ → Type 0
EmitsUp names sheet tables ms (Some counts) table = EmittedUp names sheet tables ms counts table
EmitsUp names sheet tables ms None table = within_image_limits sheet (draft_up sheet ms) ≡ false

-- a draft is within the limits, and its image was written from byte 0 on, so many bytes
pub record ImageOf (sheet : List ℕ) (d : Draft) (before : List ℕ) (long : ℕ) (after : List ℕ) : Type 0 where
  pub within : within_image_limits sheet d ≡ true
  pub bytes : long ≡ length (image_with sheet d)
  pub written : after ≡ stored before 0 (image_with sheet d)

-- or it is past one, and nothing was written
pub record NoImageOf (sheet : List ℕ) (d : Draft) (before after : List ℕ) : Type 0 where
  pub past : within_image_limits sheet d ≡ false
  pub kept : after ≡ before

abbrev pub MakesImage : List ℕ → Draft → List ℕ → ImageMade → List ℕ → Type 0
MakesImage sheet d before (Some long) after = ImageOf sheet d before long after
MakesImage sheet d before None after = NoImageOf sheet d before after
