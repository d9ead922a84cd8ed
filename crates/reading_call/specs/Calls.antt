-- What the call on a text answers, and what it leaves in the image's bytes. Assumes nothing: these are definitions.
use Rattle.std.specs.Prelude.{ℕ, List}
use Rattle.pattern_reading.specs.Reads.{read_pattern}
use Rattle.reading_typed.specs.Results.{PatternRead}
use Rattle.reading_typed.specs.Answers.{ReadsAs}

-- the call on a text, a sheet, a name table and an expected type
pub record PatternReads (text sheet names : List ℕ) (expected : ℕ) (before : List ℕ) (r : PatternRead) (after : List ℕ) : Type 0 where
  pub shows : ReadsAs (read_pattern text sheet names expected) before r after
