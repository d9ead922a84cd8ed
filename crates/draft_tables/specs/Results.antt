-- What the functions of this crate answer, as std's types. Assumes nothing: these are definitions.
use Rattle.std.specs.Prelude.{Option}
use Rattle.draft_tables.specs.declared.DraftCounts.{DraftCounts}

-- the counts with what was added; none where a limit is passed
abbrev pub DraftStep : Type 0
DraftStep = Option DraftCounts
