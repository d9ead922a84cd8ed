-- What the functions of this crate answer, as std's types. Assumes nothing: these are definitions.
use Rattle.std.specs.Prelude.{ℕ, Option}
use Rattle.draft_tables.specs.declared.DraftCounts.{DraftCounts}

-- the number of a type like it, if there is one
abbrev pub LikeType : Type 0
LikeType = Option ℕ

-- a type's number, and the counts with it; none where there is no room
abbrev pub TypeStep : Type 0
TypeStep = Option (ℕ × DraftCounts)
