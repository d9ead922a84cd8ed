-- What the functions of this crate answer, as std's types. Assumes nothing: these are definitions.
use Rattle.std.specs.Prelude.{ℕ, Result}

-- how many nodes a text has, or the position at which it fails
abbrev pub Parsed : Type 0
Parsed = Result ℕ ℕ
