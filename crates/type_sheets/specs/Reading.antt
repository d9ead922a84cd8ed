-- What reading a sheet answers, and the first part of the test. Assumes nothing: these are definitions.
use Rattle.std.specs.Prelude.{Some, None}
use Rattle.std.specs.Prelude.{ℕ, Bool, cond, ◌&&◌, List, [], ◌∷◌, leb}
use Rattle.image.specs.Tables.{tables_of}
use Rattle.image.specs.Lists.{all_true}
use Rattle.image.specs.Rules.{counts_what_follows, version_is_one, tables_fill_the_rest}
use Rattle.type_sheets.specs.Results.{Sheet}
use Rattle.type_sheets.specs.Sheets.{within_sheet_limits, sheet_holds}

-- a sheet that keeps its rules is read as the places of its tables, and any other is refused
unfoldable pub sheet_of : List ℕ → Sheet
sheet_of sheet = cond (sheet_holds sheet) (Some (tables_of sheet)) None

-- the six counts are within their limits
abbrev pub sheet_limits : ℕ → ℕ → ℕ → ℕ → ℕ → ℕ → Bool
sheet_limits t v p b l d = leb t 256 && leb v 512 && leb p 512 && leb b 256 && leb l 2048 && leb d 16384

-- the rules on the bytes before the tables, and the limits
unfoldable pub sheet_framed : List ℕ → Bool
sheet_framed sheet = all_true (counts_what_follows sheet ∷ version_is_one sheet ∷ tables_fill_the_rest sheet ∷ within_sheet_limits sheet ∷ [])

-- the tables' places, where the frame holds
unfoldable pub sheet_frame_of : List ℕ → Sheet
sheet_frame_of sheet = cond (sheet_framed sheet) (Some (tables_of sheet)) None
