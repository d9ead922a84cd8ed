-- The fields whose types stand in the list. Assumes nothing.
use Prim.Native.Nat.{ℕ, zero, suc, ◌+◌, ◌≤◌, ◌<◌}
use mathlib.Core.Path.{◌≡◌, refl, ap, ◌∙◌}
use mathlib.Core.List.{List}
use native.Mathlib.Omega.{arith}
use borrow.Author.Tests.{le-ltb, lt-ltb}
use lib.ListN.{length, get_or}
use Rattle.image.specs.Rows.{list_at}
use Rattle.image.specs.Rules.{listed}
use Rattle.place.specs.declared.place_ty.PlaceTy.{PlaceTy}
use Rattle.place.specs.PlaceTypes.{field_of}

pub length_listed : (image : List ℕ) (step from count : ℕ) → length (listed image step from count) ≡ count
unfolding listed
length_listed image step from zero = refl
length_listed image step from (suc count) = ap suc (length_listed image step (from + step) count)

-- the word i of a range of the list
pub listed_at : (image : List ℕ) (from count i : ℕ) → i < count → get_or (listed image 1 from count) i 0 ≡ list_at image (from + i)
unfolding listed
listed_at image from zero i h = absurd (omega arith)
listed_at image from (suc count) zero h = let e : from ≡ from + 0 = omega arith in ap (list_at image) e
listed_at image from (suc count) (suc i) h = let e : from + 1 + i ≡ from + suc i = omega arith in listed_at image (from + 1) count i (omega arith) ∙ ap (list_at image) e

pub field_past : (image : List ℕ) (from count i : ℕ) → count ≤ i → PlaceTy.Inapplicable ≡ field_of (listed image 1 from count) i
unfolding field_of
field_past image from count i h = rw (length_listed image 1 from count, le-ltb i count h)

pub field_at_lem : (image : List ℕ) (from count i : ℕ) → i < count → PlaceTy.Ty (list_at image (from + i)) ≡ field_of (listed image 1 from count) i
unfolding field_of
field_at_lem image from count i h = rw (length_listed image 1 from count, lt-ltb i count h, listed_at image from count i h)
