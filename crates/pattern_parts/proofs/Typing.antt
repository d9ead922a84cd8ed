-- The type at a place, by the ways through the code. Assumes nothing.
use Rattle.std.specs.Prelude.{Some, None, Ok, Err}
use Prim.Native.Nat.{ℕ, suc, ◌+◌, ◌*◌, ◌-◌, ◌≤◌, ◌<◌}
use mathlib.Core.Path.{◌≡◌, refl, ap, ◌∙◌}
use mathlib.Core.Bool.{Bool, true, false, ◌&&◌}
use mathlib.Core.Option.{Option, none, some}
use mathlib.Core.List.{List, [], ◌∷◌}
use native.Mathlib.Omega.{arith}
use borrow.Author.Tests.{lt-ltb, le-ltb}
use lib.Dec.{ltb}
use Rattle.image.specs.declared.kinds.TypeKind.{TypeKind}
use Rattle.image.specs.declared.rows.TypeRow.{TypeRow}
use Rattle.image.specs.Tables.{type_count}
use Rattle.image.specs.Kinds.{type_kind}
use Rattle.image.specs.Lists.{all_in}
use Rattle.image.specs.Rows.{type_at, list_at}
use Rattle.image.specs.Rules.{listed}
use Rattle.image.specs.Types.{Shape, shape_by, ty_of}
use Rattle.image.specs.Valid.{valid}
use Rattle.refusals.specs.declared.MirLowerError.{MirLowerError}
use Rattle.refusals.specs.Refusals.{stopped}
use Rattle.place.specs.declared.Place.{Place}
use Rattle.place.specs.declared.elems.ProjectionElem.{ProjectionElem}
use Rattle.place.specs.declared.place_ty.PlaceTy.{PlaceTy}
use Rattle.place.specs.Places.{projection_of}
use Rattle.place.specs.PlaceTypes.{projection_ty, multi_projection_ty, Named}
use Rattle.place.proofs.Named.{named_projection}
use Rattle.pattern_matching.specs.Variants.{shape_of}
use Rattle.pattern_parts.specs.Parts.{needed_ty, tuple_at, reference_at, adt_at, fields_there}

-- the numbers of a place's type name entries, however far the projection goes
named_multi : (image : List ℕ) (ty : PlaceTy) (elems : List ProjectionElem) → valid image ≡ true → Named image ty → Named image (multi_projection_ty image ty elems)
unfolding multi_projection_ty
named_multi image ty [] v h = h
named_multi image ty (elem ∷ elems) v h = named_multi image (projection_ty ty image elem) elems v (named_projection image v ty elem h)

-- `place_ty`
pub place_typed : (image : List ℕ) (place : Place) {root ty r : PlaceTy} → ty ≡ root → r ≡ multi_projection_ty image ty (projection_of place) → valid image ≡ true → Named image root →
    (r ≡ multi_projection_ty image root (projection_of place)) × Named image r
place_typed image place {root = root} {ty = ty} same is v h =
    let typed = is ∙ ap (λ (t : PlaceTy). multi_projection_ty image t (projection_of place)) same in (typed, rw typed (named_multi image root (projection_of place) v h))

-- a type of the table is there
pub needed_named : (image : List ℕ) (ty : PlaceTy) {t : ℕ} → Ok (Some t) ≡ needed_ty ty → Named image ty → t < type_count image
unfolding needed_ty
needed_named image (PlaceTy.Ty u) {t = t} e h = let same : t ≡ u = cc in rw same h
needed_named image (PlaceTy.Variant u v) {t = t} e h = let same : t ≡ u = cc in rw same h.0
needed_named image (PlaceTy.Part u) e h = let z : ◌≡◌ {A = ℕ} 0 1 = cc in absurd (omega arith)
needed_named image PlaceTy.Bool e h = let z : ◌≡◌ {A = ℕ} 0 1 = cc in absurd (omega arith)
needed_named image PlaceTy.Usize e h = let z : ◌≡◌ {A = ℕ} 0 1 = cc in absurd (omega arith)
needed_named image PlaceTy.I128 e h = let z : ◌≡◌ {A = ℕ} 0 1 = cc in absurd (omega arith)
needed_named image PlaceTy.Inapplicable e h = let z : ◌≡◌ {A = ℕ} 0 1 = cc in absurd (omega arith)

-- what the type at a place is, where it is one of the table
shape_there : (image : List ℕ) (ty : PlaceTy) {t : ℕ} → Ok (Some t) ≡ needed_ty ty → shape_of image ty ≡ some (ty_of image t).shape
unfolding needed_ty shape_of
shape_there image (PlaceTy.Ty u) {t = t} e = let same : t ≡ u = cc in rw same refl
shape_there image (PlaceTy.Variant u v) {t = t} e = let same : t ≡ u = cc in rw same refl
shape_there image (PlaceTy.Part u) e = let z : ◌≡◌ {A = ℕ} 0 1 = cc in absurd (omega arith)
shape_there image PlaceTy.Bool e = let z : ◌≡◌ {A = ℕ} 0 1 = cc in absurd (omega arith)
shape_there image PlaceTy.Usize e = let z : ◌≡◌ {A = ℕ} 0 1 = cc in absurd (omega arith)
shape_there image PlaceTy.I128 e = let z : ◌≡◌ {A = ℕ} 0 1 = cc in absurd (omega arith)
shape_there image PlaceTy.Inapplicable e = let z : ◌≡◌ {A = ℕ} 0 1 = cc in absurd (omega arith)

-- the same by its row
pub shape_known : (image : List ℕ) (ty : PlaceTy) {t : ℕ} {row : TypeRow} {kind : TypeKind} → Ok (Some t) ≡ needed_ty ty → row ≡ type_at image t → kind ≡ type_kind row.kind →
    shape_of image ty ≡ some (shape_by kind image row)
unfolding ty_of
shape_known image ty is at of = rw (of, at) (shape_there image ty is)

-- a projection does not apply, and that is what is refused
pub needed_refused : (ty : PlaceTy) {e : MirLowerError} → Err e ≡ needed_ty ty → e ≡ MirLowerError.PlaceType
unfolding needed_ty
needed_refused (PlaceTy.Ty u) h = let z : ◌≡◌ {A = ℕ} 0 1 = cc in absurd (omega arith)
needed_refused (PlaceTy.Variant u v) h = let z : ◌≡◌ {A = ℕ} 0 1 = cc in absurd (omega arith)
needed_refused (PlaceTy.Part u) h = let z : ◌≡◌ {A = ℕ} 0 1 = cc in absurd (omega arith)
needed_refused PlaceTy.Bool h = let z : ◌≡◌ {A = ℕ} 0 1 = cc in absurd (omega arith)
needed_refused PlaceTy.Usize h = let z : ◌≡◌ {A = ℕ} 0 1 = cc in absurd (omega arith)
needed_refused PlaceTy.I128 h = let z : ◌≡◌ {A = ℕ} 0 1 = cc in absurd (omega arith)
needed_refused PlaceTy.Inapplicable h = cc

-- no type of the table is there
pub shape_none : (image : List ℕ) (ty : PlaceTy) {e : MirLowerError} → Err e ≡ needed_ty ty → shape_of image ty ≡ none
unfolding needed_ty shape_of
shape_none image (PlaceTy.Ty u) e = let z : ◌≡◌ {A = ℕ} 0 1 = cc in absurd (omega arith)
shape_none image (PlaceTy.Variant u v) e = let z : ◌≡◌ {A = ℕ} 0 1 = cc in absurd (omega arith)
shape_none image (PlaceTy.Part u) e = let z : ◌≡◌ {A = ℕ} 0 1 = cc in absurd (omega arith)
shape_none image PlaceTy.Bool e = let z : ◌≡◌ {A = ℕ} 0 1 = cc in absurd (omega arith)
shape_none image PlaceTy.Usize e = let z : ◌≡◌ {A = ℕ} 0 1 = cc in absurd (omega arith)
shape_none image PlaceTy.I128 e = let z : ◌≡◌ {A = ℕ} 0 1 = cc in absurd (omega arith)
shape_none image PlaceTy.Inapplicable e = refl

-- the type of a part of an array, or of a local that a test made, is no tuple, no reference and no ADT
pub record Other (s : Option Shape) : Type 0 where
  pub no_tuple : tuple_at s ≡ stopped (MirLowerError.TypeError 1)
  pub no_reference : reference_at s ≡ stopped (MirLowerError.TypeError 3)
  pub no_adt : (v : ℕ) → adt_at s v ≡ stopped (MirLowerError.TypeError 4)

pub shape_other : (image : List ℕ) (ty : PlaceTy) → Ok None ≡ needed_ty ty → Other (shape_of image ty)
unfolding needed_ty shape_of tuple_at reference_at adt_at
shape_other image (PlaceTy.Ty u) e = let z : ◌≡◌ {A = ℕ} 0 1 = cc in absurd (omega arith)
shape_other image (PlaceTy.Variant u v) e = let z : ◌≡◌ {A = ℕ} 0 1 = cc in absurd (omega arith)
shape_other image (PlaceTy.Part u) e = record { no_tuple = refl; no_reference = refl; no_adt = λ v. refl }
shape_other image PlaceTy.Bool e = record { no_tuple = refl; no_reference = refl; no_adt = λ v. refl }
shape_other image PlaceTy.Usize e = record { no_tuple = refl; no_reference = refl; no_adt = λ v. refl }
shape_other image PlaceTy.I128 e = record { no_tuple = refl; no_reference = refl; no_adt = λ v. refl }
shape_other image PlaceTy.Inapplicable e = let z : ◌≡◌ {A = ℕ} 0 1 = cc in absurd (omega arith)

-- `fields_there`, i of the count fields being looked at: what is left to look at
pub fields_left : List ℕ → ℕ → ℕ → ℕ → ℕ → Bool
fields_left image from count fields i = all_in (λ w. ltb w fields) (listed image 2 (from + 2 * i) (count - i))

module _ (image : List ℕ) (from count fields : ℕ) where
  pub fields_start : fields_there image from count fields ≡ fields_left image from count fields 0
  unfolding fields_there fields_left
  fields_start = let a : from ≡ from + 2 * 0 = omega arith in let b : count ≡ count - 0 = omega arith in
      ap (λ (k : ℕ). all_in (λ w. ltb w fields) (listed image 2 k count)) a ∙ ap (λ (k : ℕ). all_in (λ w. ltb w fields) (listed image 2 (from + 2 * 0) k)) b

  -- one of them
  fields_one : (i : ℕ) → i < count → fields_left image from count fields i ≡ ltb (list_at image (from + 2 * i)) fields && fields_left image from count fields (i + 1)
  unfolding fields_left listed all_in
  fields_one i h =
      let a : count - i ≡ suc (count - (i + 1)) = omega arith in
      let b : from + 2 * i + 2 ≡ from + 2 * (i + 1) = omega arith in
      ap (λ (k : ℕ). all_in (λ w. ltb w fields) (listed image 2 (from + 2 * i) k)) a
      ∙ ap (λ (k : ℕ). ltb (list_at image (from + 2 * i)) fields && all_in (λ w. ltb w fields) (listed image 2 k (count - (i + 1)))) b

  -- one that is not there
  pub fields_missing : (i : ℕ) → i < count → fields ≤ list_at image (from + 2 * i) → fields_left image from count fields i ≡ false
  fields_missing i h past = fields_one i h ∙ rw (le-ltb (list_at image (from + 2 * i)) fields past) refl

  -- one that is
  pub fields_more : (i : ℕ) → i < count → list_at image (from + 2 * i) < fields → fields_left image from count fields i ≡ fields_left image from count fields (i + 1)
  fields_more i h there = fields_one i h ∙ rw (lt-ltb (list_at image (from + 2 * i)) fields there) refl

  -- all of them are
  pub fields_end : (i : ℕ) → count ≤ i → fields_left image from count fields i ≡ true
  unfolding fields_left listed all_in
  fields_end i h = let a : count - i ≡ 0 = omega arith in ap (λ (k : ℕ). all_in (λ w. ltb w fields) (listed image 2 (from + 2 * i) k)) a
