-- What reading an image answers. Assumes nothing: these are definitions.
use Rattle.std.specs.Prelude.{Some, None}
use Rattle.std.specs.Prelude.{ℕ, ◌≡◌, cond, List}
use Rattle.std.proofs.Math.Option.{Option, none, some}
use Rattle.refusals.specs.Refusals.{Refusal, breaks_a_rule}
use Rattle.image.specs.Tables.{tables_of}
use Rattle.image.specs.Valid.{valid}
use Rattle.read_image.specs.Results.{Read}

-- the numbers of an answer, where it is a refusal
abbrev pub refusal_of : Read → Option Refusal
refusal_of (Some tables) = none
refusal_of None = some breaks_a_rule

-- a valid image is read as the places of its tables, and any other is refused
unfoldable pub read_of : List ℕ → Read
read_of image = cond (valid image) (Some (tables_of image)) None

-- the answer for an image: what the definition gives; and a refusal, with document 01's numbers, exactly for what is not valid
pub record Reads (image : List ℕ) (r : Read) : Type 0 where
  pub answer : r ≡ read_of image
  pub refusal : refusal_of r ≡ cond (valid image) none (some breaks_a_rule)
