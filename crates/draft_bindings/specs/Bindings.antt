-- What the steps of a binding make: the types that it lacks, and the binding itself. Assumes nothing: these are definitions.
use Rattle.std.specs.Prelude.{Some, None}
use Rattle.std.specs.Prelude.{ℕ, ◌<◌, ◌≡◌, cond, List, eqb}
use Rattle.image.specs.declared.Tables.{Tables}
use Rattle.pattern_typing.specs.Making.{BoundAt, bound_at_type, bound_at_array}
use Rattle.pattern_images.specs.Drafts.{Draft, next_type}
use Rattle.draft_tables.specs.declared.DraftCounts.{DraftCounts}
use Rattle.draft_tables.specs.Layout.{draft_in, stacked_in, drafted}
use Rattle.draft_tables.specs.Room.{DraftRoom}
use Rattle.draft_types.specs.Results.{TypeStep}
use Rattle.draft_bindings.specs.declared.BoundWords.{BoundWords}

-- what a name is bound at, by the words of a row
unfoldable pub bound_at_of : BoundWords → BoundAt
bound_at_of w = cond (eqb w.element 65535) (bound_at_type w.ty) (bound_at_array w.element w.many w.copy)

-- the table holds what a draft becomes, and a type has its number
pub record NumberHeld (tables : Tables) (table : List ℕ) (c : DraftCounts) (becomes : Draft → Draft) (number : Draft → ℕ) (t : ℕ) (counts : DraftCounts) (after : List ℕ) : Type 0 where
  pub room : DraftRoom tables counts
  pub height : counts.height ≡ c.height
  pub holds : (names : List ℕ) → stacked_in names after counts ≡ drafted becomes (stacked_in names table c)
  pub numbered : (names : List ℕ) → t ≡ number (draft_in names table c)

-- or there would be more than 256 types
abbrev pub NumberStepped : List ℕ → Tables → List ℕ → DraftCounts → (Draft → Draft) → (Draft → ℕ) → TypeStep → List ℕ → Type 0
NumberStepped sheet tables table c becomes number (Some (t, counts)) after = NumberHeld tables table c becomes number t counts after
NumberStepped sheet tables table c becomes number None after = (names : List ℕ) → 256 < next_type sheet (becomes (draft_in names table c))
