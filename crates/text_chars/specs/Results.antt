-- What the functions of this crate answer, as std's types. Assumes nothing: these are definitions.
use Rattle.std.specs.Prelude.{ℕ, Option, Result}

-- a scalar value, and how many bytes it has behind its first; none where the bytes hold none
abbrev pub Scalar : Type 0
Scalar = Option (ℕ × ℕ)

-- where the next token begins, or where a comment before it is broken
abbrev pub Start : Type 0
Start = Result ℕ ℕ
