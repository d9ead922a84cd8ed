-- A text written into a lent buffer, piece by piece. Assumes nothing: these are definitions.
use Rattle.std.specs.Prelude.{ℕ, ◌+◌, ◌≡◌, true, ◌&&◌, List, leb, length}
use Rattle.row_tables.specs.Rows.{stored}
use Rattle.listing_text.specs.declared.pen.Pen.{Pen}

-- A piece of text was written where the pen was, if there was room for it: b₀ lies in the buffer before, and b after.
pub record Wrote (b₀ : List ℕ) (pen : Pen) (text : List ℕ) (pen' : Pen) (b : List ℕ) : Type 0 where
  pub room : pen'.ok ≡ (pen.ok && leb (pen.at + length text) (length b₀))
  pub at : pen'.ok ≡ true → pen'.at ≡ pen.at + length text
  pub stands : pen'.ok ≡ true → b ≡ stored b₀ pen.at text
