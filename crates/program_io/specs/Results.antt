-- What the functions of this crate answer, as std's types. Assumes nothing: these are definitions.
use Rattle.std.specs.Prelude.{ℕ, Option}

-- how many bytes were read; none where a read failed
abbrev pub Input : Type 0
Input = Option ℕ
