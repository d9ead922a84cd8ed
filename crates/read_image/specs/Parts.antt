-- The parts of the test, in the order in which they are tried: each is some of the rules of `valid`. Assumes nothing: these are definitions.
use Rattle.std.specs.Prelude.{Some, None}
use Rattle.std.specs.Prelude.{ℕ, ◌≤◌, ◌≡◌, Bool, true, cond, ◌&&◌, List, [], ◌∷◌, leb, length}
use Rattle.image.specs.Tables.{tables_of}
use Rattle.image.specs.Lists.{all_true}
use Rattle.image.specs.Rules.{counts_what_follows, version_is_one, tables_fill_the_rest, within_limits}
use Rattle.read_image.specs.Results.{Read}

-- the six counts are within their limits
abbrev pub limits : ℕ → ℕ → ℕ → ℕ → ℕ → ℕ → Bool
limits t v p b l d = leb t 256 && leb v 512 && (leb 1 p && leb p 512) && leb b 256 && leb l 2048 && leb d 16384

-- the rules on the bytes before the tables, and the limits
unfoldable pub framed : List ℕ → Bool
framed image = all_true (counts_what_follows image ∷ version_is_one image ∷ tables_fill_the_rest image ∷ within_limits image ∷ [])

-- the rules on the first five bytes
pub record Begun (image : List ℕ) : Type 0 where
  pub long : 17 ≤ length image
  pub counted : counts_what_follows image ≡ true
  pub version : version_is_one image ≡ true

-- the tables' places, where the frame holds
unfoldable pub frame_of : List ℕ → Read
frame_of image = cond (framed image) (Some (tables_of image)) None
