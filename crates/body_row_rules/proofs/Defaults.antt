-- What a default arm answers, for each element that it stands for. Assumes nothing.
use Prim.Native.Nat.{ℕ}
use mathlib.Core.Path.{◌≡◌, refl}
use mathlib.Core.Bool.{true}
use mathlib.Core.List.{[], ◌∷◌}
use types.Run.{OneOf, miss}
use denote.Enum.Declared as Declared
use Rattle.place.specs.declared.elems.ProjectionElem.{ProjectionElem}
use Rattle.place.specs.contracts.elems.ProjectionElem as projection-elem
use Rattle.body_row_rules.specs.Bodies.{elem_holds}

pub no_downcast : (elem : ProjectionElem) (variants : ℕ) → OneOf (0 ∷ 1 ∷ 2 ∷ 3 ∷ 4 ∷ []) (Declared.tag_of projection-elem.the_type elem) → true ≡ elem_holds variants elem
unfolding elem_holds
no_downcast ProjectionElem.Deref variants h = refl
no_downcast (ProjectionElem.Field i) variants h = refl
no_downcast (ProjectionElem.Index i) variants h = refl
no_downcast (ProjectionElem.IndexFromEnd i) variants h = refl
no_downcast (ProjectionElem.Subslice a b) variants h = refl
no_downcast (ProjectionElem.Downcast v) variants h = absurd (miss (0 ∷ 1 ∷ 2 ∷ 3 ∷ 4 ∷ []) 5 tt h)
no_downcast ProjectionElem.Unknown variants h = absurd (miss (0 ∷ 1 ∷ 2 ∷ 3 ∷ 4 ∷ []) 6 tt h)
