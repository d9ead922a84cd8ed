-- What the functions of this crate answer, as std's types. Assumes nothing: these are definitions.
use Rattle.std.specs.Prelude.{Option}
use Rattle.mir.specs.declared.blocks.Terminator.{Terminator}

-- the terminator of a block that there is
abbrev pub Look : Type 0
Look = Option Terminator
