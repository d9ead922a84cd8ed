-- References that are crossed, and places below the place handed in. Assumes nothing.
use Prim.Native.Nat.{ℕ, zero, suc}
use mathlib.Core.Path.{◌≡◌, refl, sym, ap, ◌∙◌}
use mathlib.Core.Bool.{true}
use mathlib.Core.Option.{none, some}
use mathlib.Core.List.{List, [], ◌∷◌, ◌++◌, append-nil, append_assoc}
use native.Mathlib.Omega.{arith}
use borrow.Author.Tests.{eq-eqb}
use lib.ListN.{replicate}
use Rattle.image.specs.Types.{Shape, integer, bool, char, str, tuple, adt, reference, array, slice, unknown, ty_of}
use Rattle.place.specs.declared.elems.ProjectionElem.{ProjectionElem}
use Rattle.views.specs.Views.{Path}
use Rattle.cases_spec.specs.Cases.{referent}
use Rattle.meaning.specs.Values.{Value, derefed, part_at, place_in, value_fits}
use Rattle.meaning.specs.Running.{Env, Scene, elem_numbers, same_elem, behind_root, part_behind, read}
use Rattle.meaning.specs.Matching.{onto, crossed, crossed_path}
use Rattle.meaning.specs.Typing.{TypeNumber}
use Rattle.meaning.specs.Fit.{behind}
use Rattle.meaning.proofs.Numbers.{numbers_met}
use Rattle.meaning.proofs.Parts.{fits_reference}

-- what is absent is not there
pub none_some : {u : ℕ} → none ≡ some u → ⊥
none_some {u} e = let z : ◌≡◌ {A = ℕ} 0 1 = cc in omega arith

-- only a reference refers to a type
pub refers : (s : Shape) {u : ℕ} → referent s ≡ some u → s ≡ reference u
unfolding referent
refers (integer size signed) e = absurd (none_some e)
refers bool e = absurd (none_some e)
refers char e = absurd (none_some e)
refers str e = absurd (none_some e)
refers (tuple fields) e = absurd (none_some e)
refers (adt kind variants) e = absurd (none_some e)
refers (reference t) {u} e = ap reference (let q : t ≡ u = cc in q)
refers (array t n) e = absurd (none_some e)
refers (slice t) e = absurd (none_some e)
refers unknown e = absurd (none_some e)

module _ (image : List ℕ) where
  -- behind no type there is none
  pub behind_none : (d : ℕ) → behind image d none ≡ none
  unfolding behind
  behind_none zero = refl
  behind_none (suc d) = refl

  -- the first of some references
  pub behind_first : (d t u : ℕ) → behind image (suc d) (some t) ≡ some u → (w : ℕ) × ((ty_of image t).shape ≡ reference w) × (behind image d (some w) ≡ some u)
  unfolding behind
  behind_first d t u e = by (referent (ty_of image t).shape) refl e
    where
      by : (r : TypeNumber) → referent (ty_of image t).shape ≡ r → behind image d r ≡ some u → (w : ℕ) × ((ty_of image t).shape ≡ reference w) × (behind image d (some w) ≡ some u)
      by none q b = absurd (none_some (sym (behind_none d) ∙ b))
      by (some w) q b = (w, refers (ty_of image t).shape q, b)

  -- what lies behind so many references fits the type that does
  pub fits_crossed : (d : ℕ) (v : Value) (t u : ℕ) → behind image d (some t) ≡ some u → value_fits image v t ≡ true → value_fits image (crossed d v) u ≡ true
  unfolding crossed behind part_at derefed
  fits_crossed zero v t u b fits = let same : t ≡ u = cc in rw same at fits
  fits_crossed (suc d) v t u b fits =
      let (w, e, rest) = behind_first d t u b in
      let (x, q, inner) = fits_reference image v t w e fits in
      fits_crossed d (derefed v) w u rest (rw q inner)

-- crossing references is going down a projection
pub crossed_place : (d : ℕ) (v : Value) → crossed d v ≡ place_in (replicate d ProjectionElem.Deref) v
unfolding crossed place_in
crossed_place zero v = refl
crossed_place (suc d) v = crossed_place d (part_at ProjectionElem.Deref v)

-- down one projection, and then another
pub place_append : (xs ys : List ProjectionElem) (v : Value) → place_in (xs ++ ys) v ≡ place_in ys (place_in xs v)
unfolding place_in
place_append [] ys v = refl
place_append (x ∷ xs) ys v = place_append xs ys (part_at x v)

-- a place below the one handed in
abbrev pub below : Scene → List ProjectionElem → Path
below scene rest = record { local = scene.root.local; elems = scene.root.elems ++ rest }

pub below_here : (scene : Scene) → below scene [] ≡ scene.root
below_here scene = ap (λ (es : List ProjectionElem). record { local = scene.root.local; elems = es }) (append-nil scene.root.elems)

pub onto_below : (scene : Scene) (rest : List ProjectionElem) (elem : ProjectionElem) → onto (below scene rest) elem ≡ below scene (rest ++ (elem ∷ []))
unfolding onto
onto_below scene rest elem = ap (λ (es : List ProjectionElem). record { local = scene.root.local; elems = es }) (append_assoc scene.root.elems rest (elem ∷ []))

-- an element is the same as itself
pub elem_same : (e : ProjectionElem) → same_elem e e ≡ true
unfolding same_elem
elem_same e = numbers_met (elem_numbers e)

-- behind the root lies what comes after its elements
pub behind_root_lem : (root rest : List ProjectionElem) → behind_root root (root ++ rest) ≡ some rest
unfolding behind_root
behind_root_lem [] rest = refl
behind_root_lem (e ∷ root) rest = rw (elem_same e) (behind_root_lem root rest)

-- what lies there is a part of the value handed in
pub read_below : (scene : Scene) (env : Env) (rest : List ProjectionElem) → read scene env (below scene rest) ≡ place_in rest scene.here
unfolding read part_behind
read_below scene env rest =
    let root = scene.root in
    rw (eq-eqb root.local root.local refl, behind_root_lem root.elems rest)

pub read_onto : (scene : Scene) (env : Env) (rest : List ProjectionElem) (elem : ProjectionElem) → read scene env (onto (below scene rest) elem) ≡ part_at elem (read scene env (below scene rest))
unfolding place_in
read_onto scene env rest elem =
    ap (read scene env) (onto_below scene rest elem) ∙ read_below scene env (rest ++ (elem ∷ [])) ∙ place_append rest (elem ∷ []) scene.here ∙ ap (part_at elem) (sym (read_below scene env rest))

-- references crossed on the way
pub crossed_below : (scene : Scene) (d : ℕ) (rest : List ProjectionElem) → crossed_path d (below scene rest) ≡ below scene (rest ++ replicate d ProjectionElem.Deref)
unfolding crossed_path
crossed_below scene zero rest = ap (below scene) (sym (append-nil rest))
crossed_below scene (suc d) rest =
    ap (crossed_path d) (onto_below scene rest ProjectionElem.Deref) ∙ crossed_below scene d (rest ++ (ProjectionElem.Deref ∷ []))
    ∙ ap (below scene) (append_assoc rest (ProjectionElem.Deref ∷ []) (replicate d ProjectionElem.Deref))

pub read_crossed : (scene : Scene) (env : Env) (d : ℕ) (rest : List ProjectionElem) → read scene env (crossed_path d (below scene rest)) ≡ crossed d (read scene env (below scene rest))
read_crossed scene env d rest =
    ap (read scene env) (crossed_below scene d rest) ∙ read_below scene env (rest ++ replicate d ProjectionElem.Deref) ∙ place_append rest (replicate d ProjectionElem.Deref) scene.here
    ∙ sym (crossed_place d (place_in rest scene.here)) ∙ ap (crossed d) (sym (read_below scene env rest))
