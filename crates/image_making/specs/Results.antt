-- What the functions of this crate answer, as std's types. Assumes nothing: these are definitions.
use Rattle.std.specs.Prelude.{ℕ, Option}

-- how many bytes the image has; none where a limit is passed
abbrev pub ImageMade : Type 0
ImageMade = Option ℕ
