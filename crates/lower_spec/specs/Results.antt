-- What the functions of this crate answer, as std's types. Assumes nothing: these are definitions.
use Rattle.std.specs.Prelude.{Option, Result}
use Rattle.mir.specs.declared.BasicBlockId.{BasicBlockId}
use Rattle.mir.specs.declared.Counts.{Counts}
use Rattle.place.specs.declared.LocalId.{LocalId}
use Rattle.refusals.specs.declared.MirLowerError.{MirLowerError}

-- a temporary: the counts with it, and its number, or why it was refused
abbrev pub NewTemp : Type 0
NewTemp = Result (Counts × LocalId) MirLowerError

-- a binding's local, or why there is none
abbrev pub BoundLocal : Type 0
BoundLocal = Result LocalId MirLowerError

-- merged blocks: the counts, and the block where they go on, if there is one, or why it was refused
abbrev pub Merged : Type 0
Merged = Result (Counts × Option BasicBlockId) MirLowerError

-- a block that may be absent
abbrev pub OptBlock : Type 0
OptBlock = Option BasicBlockId
