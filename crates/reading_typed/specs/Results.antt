-- What the functions of this crate answer, as std's types. Assumes nothing: these are definitions.
use Rattle.std.specs.Prelude.{ℕ, Result}
use Rattle.reading_typed.specs.declared.ReadRefusal.{ReadRefusal}

-- how many bytes the image has, or the number and the position of a refusal
abbrev pub PatternRead : Type 0
PatternRead = Result ℕ ReadRefusal
