-- The mode that tests. Assumes nothing: these are definitions.
use Rattle.std.specs.Prelude.{Bool, true, false}
use Rattle.pattern_matching.specs.declared.MatchingMode.{MatchingMode}

-- a walk in Check
unfoldable pub is_check : MatchingMode → Bool
is_check MatchingMode.Check = true
is_check MatchingMode.Bind = false
is_check MatchingMode.Assign = false
