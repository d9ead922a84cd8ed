-- What the functions of this crate answer, as std's types. Assumes nothing: these are definitions.
use Rattle.std.specs.Prelude.{ℕ, Option}

-- the type that a walk starts at, if there is one
abbrev pub StartType : Type 0
StartType = Option ℕ
