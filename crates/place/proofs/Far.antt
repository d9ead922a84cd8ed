-- The type so many elements on: the invariant of the loop over a place's elements. Assumes nothing.
use Prim.Native.Nat.{ℕ, ◌+◌, ◌<◌}
use mathlib.Core.Path.{◌≡◌, refl, sym, ap, ◌∙◌}
use mathlib.Core.Bool.{true}
use mathlib.Core.List.{List, [], ◌∷◌, ◌++◌, map, map-append}
use native.Mathlib.Numerals.{add-one}
use lib.ListN.{length, get_or, take}
use lib.Seq.{take-suc}
use Rattle.image.specs.Valid.{valid}
use Rattle.place.specs.declared.Place.{Place}
use Rattle.place.specs.declared.elems.ProjectionElem.{ProjectionElem}
use Rattle.place.specs.declared.place_ty.PlaceTy.{PlaceTy}
use Rattle.place.specs.Elems.{elem_of}
use Rattle.place.specs.Places.{projection_of}
use Rattle.place.specs.PlaceTypes.{projection_ty, multi_projection_ty, Named}
use Rattle.place.proofs.Named.{named_projection}

-- two projections, one behind the other
multi_append : (image : List ℕ) (ty : PlaceTy) (xs ys : List ProjectionElem) → multi_projection_ty image ty (xs ++ ys) ≡ multi_projection_ty image (multi_projection_ty image ty xs) ys
unfolding multi_projection_ty
multi_append image ty [] ys = refl
multi_append image ty (x ∷ xs) ys = multi_append image (projection_ty ty image x) xs ys

-- `here` is the type i elements on from ty
pub record Far (image : List ℕ) (ty : PlaceTy) (elems : List ℕ) (here : PlaceTy) (i : ℕ) : Type 0 where
  pub is : here ≡ multi_projection_ty image ty (map elem_of (take i elems))
  pub named : Named image here

pub far_start : (image : List ℕ) (ty : PlaceTy) (elems : List ℕ) → Named image ty → Far image ty elems ty 0
unfolding multi_projection_ty
far_start image ty elems h = record { is = refl; named = h }

-- one element on
pub far_more : (image : List ℕ) (ty : PlaceTy) (elems : List ℕ) (here : PlaceTy) (i : ℕ) → valid image ≡ true → i < length elems → Far image ty elems here i →
    Far image ty elems (projection_ty here image (elem_of (get_or elems i 0))) (i + 1)
unfolding multi_projection_ty
far_more image ty elems here i v h F =
    record {
      is =
          ap (λ (t : PlaceTy). projection_ty t image (elem_of (get_or elems i 0))) F.is
          ∙ sym (multi_append image ty (map elem_of (take i elems)) (elem_of (get_or elems i 0) ∷ []))
          ∙ ap (multi_projection_ty image ty) (sym (map-append elem_of (take i elems) (get_or elems i 0 ∷ [])))
          ∙ ap (λ (l : List ℕ). multi_projection_ty image ty (map elem_of l)) (sym (take-suc elems i 0 h))
          ∙ ap (λ (k : ℕ). multi_projection_ty image ty (map elem_of (take k elems))) (sym (add-one i));
      named = named_projection image v here (elem_of (get_or elems i 0)) F.named;
    }

-- at the end of the place
pub far_end : (image : List ℕ) (ty : PlaceTy) (place : Place) (here : PlaceTy) (i : ℕ) → i ≡ place.len → Far image ty place.elems here i → here ≡ multi_projection_ty image ty (projection_of place)
unfolding projection_of
far_end image ty place here i e F = F.is ∙ ap (λ (k : ℕ). multi_projection_ty image ty (map elem_of (take k place.elems))) e
