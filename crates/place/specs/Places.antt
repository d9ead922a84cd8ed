-- Places, and one element more. Assumes nothing: these are definitions.
use Rattle.std.specs.Prelude.{◌+◌, ◌≡◌, true, cond, List, [], ◌∷◌, ◌++◌, map, ltb, take, set}
use Rattle.place.specs.declared.Place.{Place}
use Rattle.place.specs.declared.Projected.{Projected}
use Rattle.place.specs.declared.elems.ProjectionElem.{ProjectionElem}
use Rattle.place.specs.Elems.{elem_of, word_of}

-- the elements of a place, from its local on
unfoldable pub projection_of : Place → List ProjectionElem
projection_of place = map elem_of (take place.len place.elems)

-- the place one element on, in the next of its words
abbrev pub onward : Place → ProjectionElem → Place
onward place elem = record { local = place.local; len = place.len + 1; elems = set place.elems place.len (word_of elem) }

-- one element more: taken where there are fewer than 16
pub record Projects (place : Place) (elem : ProjectionElem) (r : Projected) : Type 0 where
  pub room : r.ok ≡ ltb place.len 16
  pub is : r.place ≡ cond (ltb place.len 16) (onward place elem) place
  pub elems : r.ok ≡ true → projection_of r.place ≡ projection_of place ++ (elem ∷ [])
