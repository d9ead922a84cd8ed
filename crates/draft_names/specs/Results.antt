-- What the functions of this crate answer, as std's types. Assumes nothing: these are definitions.
use Rattle.std.specs.Prelude.{ℕ, Option}

-- the number of a binding of that name, if there is one
abbrev pub FoundBinding : Type 0
FoundBinding = Option ℕ
