-- The lowering that the auditor's page speaks of. Assumes nothing: these are definitions.
use Rattle.pattern_matching.specs.Patterns.{pattern_match}
use Rattle.audit.specs.Started.{Lowers}

-- `pattern_match`, on the patterns of an image whose bindings' locals are `bindings`
abbrev pub lowering : Lowers
lowering image bindings pat ctx current els place = pattern_match image bindings pat ctx current els place
