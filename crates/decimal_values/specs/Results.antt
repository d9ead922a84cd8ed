-- What the functions of this crate answer, as std's types. Assumes nothing: these are definitions.
use Rattle.std.specs.Prelude.{ℕ, Option}

-- an integer's value as two halves, the low one first; none where it does not fit
abbrev pub Value : Type 0
Value = Option (ℕ × ℕ)
