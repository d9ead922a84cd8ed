-- What the functions of this crate answer, as std's types. Assumes nothing: these are definitions.
use Rattle.std.specs.Prelude.{ℕ, Option}

-- a type's number, if there is one
abbrev pub TypeNumber : Type 0
TypeNumber = Option ℕ
