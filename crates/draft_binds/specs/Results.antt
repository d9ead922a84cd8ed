-- What the functions of this crate answer, as std's types. Assumes nothing: these are definitions.
use Rattle.std.specs.Prelude.{ℕ, Option}
use Rattle.draft_tables.specs.declared.DraftCounts.{DraftCounts}

-- a binding's number, and the counts with it; none where there is no room
abbrev pub BindingStep : Type 0
BindingStep = Option (ℕ × DraftCounts)
