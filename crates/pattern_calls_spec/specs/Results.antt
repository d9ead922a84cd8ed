-- What the functions of this crate answer, as std's types. Assumes nothing: these are definitions.
use Rattle.std.specs.Prelude.{Option, Result}
use Rattle.body_calls_spec.specs.declared.PatternCallError.{PatternCallError}
use Rattle.mir.specs.declared.BasicBlockId.{BasicBlockId}
use Rattle.mir.specs.declared.Counts.{Counts}

-- the calls on patterns: the counts, the block where a match goes on, and the one where a mismatch does, or why it was refused
abbrev pub MatchCall : Type 0
MatchCall = Result (Counts × BasicBlockId × Option BasicBlockId) PatternCallError
