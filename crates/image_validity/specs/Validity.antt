-- What is proved of the image of a sheet and a pattern. Assumes nothing: these are definitions.
use Rattle.std.specs.Prelude.{ℕ, ◌<◌, ◌≡◌, true, List}
use Rattle.std.proofs.Math.Option.{none}
use Rattle.image.specs.Tables.{type_count}
use Rattle.image.specs.Valid.{valid}
use Rattle.type_sheets.specs.Sheets.{sheet_holds}
use Rattle.name_tables.specs.Names.{names_hold}
use Rattle.pattern_syntax.specs.Written.{Written}
use Rattle.pattern_syntax.specs.Formed.{in_pattern, formed}
use Rattle.pattern_typing.specs.Crossing.{by_value}
use Rattle.pattern_typing.specs.Contexts.{typed}
use Rattle.pattern_typing.specs.Failing.{refused_in}
use Rattle.pattern_images.specs.Imaging.{image_with, within_image_limits}
use Rattle.pattern_reading.specs.Reads.{draft_of}
use Rattle.image_growth.specs.Growing.{IsBytes}

-- a sheet, a name table and an expected type that keep their rules, a tree that is formed and not refused, and no limit passed
pub record Readable (sheet names : List ℕ) (expected : ℕ) (w : Written) : Type 0 where
  pub bytes : IsBytes sheet
  pub sheet_holds_lem : sheet_holds sheet ≡ true
  pub names_hold_lem : names_hold sheet names ≡ true
  pub exists : expected < type_count sheet
  pub is_formed : formed w in_pattern ≡ true
  pub taken : refused_in sheet names w (typed expected by_value) ≡ none
  pub within : within_image_limits sheet (draft_of sheet names expected w) ≡ true

-- the image that a readable tree gives
abbrev pub HasValidImage : List ℕ → List ℕ → ℕ → Written → Type 0
HasValidImage sheet names expected w = valid (image_with sheet (draft_of sheet names expected w)) ≡ true
