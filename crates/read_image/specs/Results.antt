-- What the functions of this crate answer, as std's types. Assumes nothing: these are definitions.
use Rattle.std.specs.Prelude.{Option}
use Rattle.image.specs.declared.Tables.{Tables}

-- the places of an image's tables; none where it breaks a rule
abbrev pub Read : Type 0
Read = Option Tables
