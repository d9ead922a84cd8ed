-- What the functions of this crate answer, as std's types. Assumes nothing: these are definitions.
use Rattle.std.specs.Prelude.{Option}
use Rattle.image.specs.declared.Tables.{Tables}

-- the places of a type sheet's tables; none where it breaks a rule
abbrev pub Sheet : Type 0
Sheet = Option Tables
