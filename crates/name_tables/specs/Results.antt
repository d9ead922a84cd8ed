-- What the functions of this crate answer, as std's types. Assumes nothing: these are definitions.
use Rattle.std.specs.Prelude.{ℕ, Option}

-- the row of a name, if the table has it
abbrev pub FoundRow : Type 0
FoundRow = Option ℕ
