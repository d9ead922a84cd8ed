-- What an alternative answers that is walked again. Assumes nothing: these are definitions.
use Rattle.std.specs.Prelude.{Ok, Err}
use Rattle.lower_spec.specs.Results.{OptBlock}
use Rattle.pattern_walk_spec.specs.Results.{Lowered}

-- the answer of a walk, with the else of another
unfoldable pub with_else : Lowered → OptBlock → Lowered
with_else (Err (e, at)) other = Err (e, at)
with_else (Ok (c, then, els)) other = Ok (c, then, other)
