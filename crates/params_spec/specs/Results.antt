-- What the functions of this crate answer, as std's types. Assumes nothing: these are definitions.
use Rattle.std.specs.Prelude.{ℕ, Option, Result}
use Rattle.body_calls_spec.specs.declared.PatternCallError.{PatternCallError}
use Rattle.image.specs.declared.BindingId.{BindingId}
use Rattle.mir.specs.declared.BasicBlockId.{BasicBlockId}
use Rattle.mir.specs.declared.Counts.{Counts}
use Rattle.place.specs.declared.LocalId.{LocalId}

-- self, if there is one: its binding and its type
abbrev pub SelfParam : Type 0
SelfParam = Option (BindingId × ℕ)

-- the call on parameters: the counts, the block that goes on, and the first parameter's local, or why it was refused
abbrev pub ParamsCall : Type 0
ParamsCall = Result (Counts × BasicBlockId × LocalId) PatternCallError
