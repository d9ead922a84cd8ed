-- What the functions of this crate answer, as std's types. Assumes nothing: these are definitions.
use Rattle.std.specs.Prelude.{Result}
use Rattle.mir.specs.declared.Counts.{Counts}
use Rattle.refusals.specs.declared.MirLowerError.{MirLowerError}

-- what a step of the lowering leaves: the counts, or why it was refused
abbrev pub Stepped : Type 0
Stepped = Result Counts MirLowerError
