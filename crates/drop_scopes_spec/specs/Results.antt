-- What the functions of this crate answer, as std's types. Assumes nothing: these are definitions.
use Rattle.std.specs.Prelude.{Result}
use Rattle.mir.specs.declared.BasicBlockId.{BasicBlockId}
use Rattle.mir.specs.declared.Counts.{Counts}
use Rattle.refusals.specs.declared.MirLowerError.{MirLowerError}

-- the counts, and the block that goes on, or why it was refused
abbrev pub AtBlock : Type 0
AtBlock = Result (Counts × BasicBlockId) MirLowerError
