-- What the functions of this crate answer, as std's types. Assumes nothing: these are definitions.
use Rattle.std.specs.Prelude.{ℕ, Option}

-- how many bytes the image of a record has; none where the list has ended, or the image does not fit
abbrev pub Entry : Type 0
Entry = Option ℕ

-- how many words a record has; none where the list has ended, or they do not fit
abbrev pub Words : Type 0
Words = Option ℕ
