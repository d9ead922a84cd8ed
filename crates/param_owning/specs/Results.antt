-- What the functions of this crate answer, as std's types. Assumes nothing: these are definitions.
use Rattle.std.specs.Prelude.{Bool, Result}
use Rattle.refusals.specs.declared.MirLowerError.{MirLowerError}

-- whether a binding's local is the parameter's own, or why it has none
abbrev pub Owned : Type 0
Owned = Result Bool MirLowerError
