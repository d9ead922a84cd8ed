-- What the functions of this crate answer, as std's types. Assumes nothing: these are definitions.
use Rattle.std.specs.Prelude.{ℕ, Option}

-- the first position that is refused, if there is one
abbrev pub Refused : Type 0
Refused = Option ℕ

-- what a name stands for: its kind and its number, if the table has it
abbrev pub Named : Type 0
Named = Option (ℕ × ℕ)
