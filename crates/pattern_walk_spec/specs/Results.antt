-- What the functions of this crate answer, as std's types. Assumes nothing: these are definitions.
use Rattle.std.specs.Prelude.{Option, Result}
use Rattle.image.specs.declared.PatId.{PatId}
use Rattle.mir.specs.declared.BasicBlockId.{BasicBlockId}
use Rattle.mir.specs.declared.Counts.{Counts}
use Rattle.refusals.specs.declared.MirLowerError.{MirLowerError}

-- what the lowering of a pattern, or a part of it, gives: the counts, the block where a match goes on, and the one where a mismatch does; or why it was refused, and the pattern
-- that was visited then
abbrev pub Lowered : Type 0
Lowered = Result (Counts × BasicBlockId × Option BasicBlockId) (MirLowerError × PatId)
