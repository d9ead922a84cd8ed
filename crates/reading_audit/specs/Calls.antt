-- What is said of a call on a text: what it leaves in the image's bytes. Assumes nothing: these are definitions.
use Rattle.std.specs.Prelude.{ℕ, ◌≡◌, List, length}
use Rattle.row_tables.specs.Rows.{stored}
use Rattle.pattern_reading.specs.Reads.{image_of, refused_with, read_pattern}

-- an image of so many bytes stands at the start of what was handed in, and the bytes behind it are as they were
pub record ImageStands (text sheet names : List ℕ) (expected : ℕ) (before : List ℕ) (count : ℕ) (after : List ℕ) : Type 0 where
  pub bytes : List ℕ
  pub read : read_pattern text sheet names expected ≡ image_of bytes
  pub long : count ≡ length bytes
  pub written : after ≡ stored before 0 bytes

-- "Refused, writing nothing"
pub record NothingWritten (text sheet names : List ℕ) (expected : ℕ) (before : List ℕ) (number at : ℕ) (after : List ℕ) : Type 0 where
  pub told : read_pattern text sheet names expected ≡ refused_with number at
  pub kept : after ≡ before
