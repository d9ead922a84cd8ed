-- What is answered for a text, and what is left in the image's bytes. Assumes nothing: these are definitions.
use Rattle.std.specs.Prelude.{Ok, Err}
use Rattle.std.specs.Prelude.{ℕ, ◌<◌, ◌≤◌, ◌≡◌, true, List, length}
use Rattle.image.specs.declared.Tables.{Tables}
use Rattle.image.specs.Tables.{Whole, type_count}
use Rattle.row_tables.specs.Rows.{stored}
use Rattle.type_sheets.specs.Sheets.{sheet_holds}
use Rattle.name_tables.specs.Names.{names_hold}
use Rattle.pattern_reading.specs.Reads.{Answer, image_of, refused_with}
use Rattle.reading_typed.specs.Results.{PatternRead}

-- sheet, expected type and name table keep their rules
pub record TablesRead (sheet : List ℕ) (tables : Tables) (names : List ℕ) (expected : ℕ) : Type 0 where
  pub whole : Whole sheet tables
  pub ruled : sheet_holds sheet ≡ true
  pub known : expected < type_count sheet
  pub named : names_hold sheet names ≡ true

-- an image's bytes are the first ones, those behind them are as they were, and the answer is its length, which is within the room; what is refused
-- writes nothing
abbrev pub ReadsAs : Answer → List ℕ → PatternRead → List ℕ → Type 0
ReadsAs (image_of bytes) before r after = (r ≡ Ok (length bytes)) × (length bytes ≤ 34321) × (after ≡ stored before 0 bytes)
ReadsAs (refused_with number at) before r after = (r ≡ Err (record { number = number; position = at })) × (after ≡ before)
