-- What the code of patterns without subpatterns answers. Assumes nothing: these are definitions.
use Rattle.std.specs.Prelude.{Ok, Err}
use Rattle.image.specs.declared.PatId.{PatId}
use Rattle.refusals.specs.declared.MirLowerError.{MirLowerError}
use Rattle.mir.specs.declared.BasicBlockId.{BasicBlockId}
use Rattle.mir.specs.declared.Counts.{Counts}
use Rattle.lower_spec.specs.Results.{OptBlock}
use Rattle.pattern_matching.specs.declared.MatchingMode.{MatchingMode}
use Rattle.pattern_walk_spec.specs.Results.{Lowered}

-- a path that names something else, as the code answers it
unfoldable pub other_path : Counts → MatchingMode → PatId → BasicBlockId → OptBlock → Lowered
other_path c MatchingMode.Check p current els = Err (MirLowerError.NotSupported, p)
other_path c MatchingMode.Bind p current els = Ok (c, current, els)
other_path c MatchingMode.Assign p current els = Ok (c, current, els)
