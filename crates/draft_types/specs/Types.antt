-- The types of a sheet and of a draft's table, and what it means that one is looked for, or added. Assumes nothing: these are definitions.
use Rattle.std.specs.Prelude.{Some, None}
use Rattle.std.specs.Prelude.{ℕ, ◌-◌, ◌<◌, ◌≡◌, cond, List, ltb}
use Rattle.std.proofs.Math.Option.{Option, none, some}
use Rattle.image.specs.declared.rows.TypeRow.{TypeRow}
use Rattle.image.specs.declared.Tables.{Tables}
use Rattle.image.specs.Tables.{type_count}
use Rattle.image.specs.Rows.{type_at}
use Rattle.row_tables.specs.Rows.{row_at}
use Rattle.pattern_images.specs.Drafts.{next_type, with_type, number_of_type}
use Rattle.draft_tables.specs.declared.DraftCounts.{DraftCounts}
use Rattle.draft_tables.specs.Layout.{type_of_words, draft_in, stacked_in, drafted}
use Rattle.draft_tables.specs.Room.{DraftRoom}
use Rattle.draft_types.specs.Results.{LikeType}
use Rattle.draft_types.specs.Results.{TypeStep}

-- the type t of a sheet and of a draft's table
unfoldable pub type_from : List ℕ → List ℕ → ℕ → TypeRow
type_from sheet table t = cond (ltb t (type_count sheet)) (type_at sheet t) (type_of_words (row_at 5 table (t - type_count sheet)))

-- what was found
unfoldable pub found : LikeType → Option ℕ
found (Some t) = some t
found None = none

-- a type has a number, and the table holds it
pub record TypeHeld (sheet : List ℕ) (tables : Tables) (table : List ℕ) (c : DraftCounts) (row : TypeRow) (t : ℕ) (counts : DraftCounts) (after : List ℕ) : Type 0 where
  pub room : DraftRoom tables counts
  pub height : counts.height ≡ c.height
  pub holds : (names : List ℕ) → stacked_in names after counts ≡ drafted (with_type sheet row) (stacked_in names table c)
  pub number : (names : List ℕ) → t ≡ number_of_type sheet row (draft_in names table c)

-- or there would be more than 256 types
abbrev pub TypeStepped : List ℕ → Tables → List ℕ → DraftCounts → TypeRow → TypeStep → List ℕ → Type 0
TypeStepped sheet tables table c row (Some (t, counts)) after = TypeHeld sheet tables table c row t counts after
TypeStepped sheet tables table c row None after = (names : List ℕ) → 256 < next_type sheet (with_type sheet row (draft_in names table c))
