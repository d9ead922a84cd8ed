-- The bindings of a draft's table by their names. Assumes nothing: these are definitions.
use Rattle.std.specs.Prelude.{Some, None}
use Rattle.std.specs.Prelude.{ℕ}
use Rattle.std.proofs.Math.Option.{Option, none, some}
use Rattle.draft_names.specs.Results.{FoundBinding}

-- what was found
unfoldable pub found_binding : FoundBinding → Option ℕ
found_binding (Some b) = some b
found_binding None = none
