-- What the functions of this crate answer, as std's types. Assumes nothing: these are definitions.
use Rattle.std.specs.Prelude.{Option}
use Rattle.mir.specs.declared.BasicBlockId.{BasicBlockId}
use Rattle.mir.specs.declared.Counts.{Counts}
use Rattle.place.specs.declared.LocalId.{LocalId}

-- a new block: the counts with it, and its number; none where the limit is passed
abbrev pub NewBlock : Type 0
NewBlock = Option (Counts × BasicBlockId)

-- a new local: the counts with it, and its number; none where the limit is passed
abbrev pub NewLocal : Type 0
NewLocal = Option (Counts × LocalId)

-- the counts with one row more; none where a limit is passed
abbrev pub Counted : Type 0
Counted = Option Counts
