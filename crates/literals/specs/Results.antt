-- What the functions of this crate answer, as std's types. Assumes nothing: these are definitions.
use Rattle.std.specs.Prelude.{Result}
use Rattle.mir.specs.declared.rvalues.Constant.{Constant}
use Rattle.refusals.specs.declared.MirLowerError.{MirLowerError}

-- a literal or a constant as an operand, or why it is none
abbrev pub LoweredOperand : Type 0
LoweredOperand = Result Constant MirLowerError
