-- What `read` gives, in plain terms: a part of the value handed in where the place lies behind the one handed in, and everywhere else what the locals hold.
-- Assumes nothing.
use Prim.Native.Nat.{ℕ}
use mathlib.Core.Path.{◌≡◌, refl, sym, ap, ap₂, ◌∙◌}
use mathlib.Core.Logic.{◌↔◌}
use mathlib.Core.Bool.{Bool, true, false, cond}
use mathlib.Core.Option.{Option, none, some}
use mathlib.Core.List.{List, [], ◌∷◌, ◌++◌}
use native.Mathlib.Omega.{arith}
use borrow.Author.Tests.{eqb-true}
use lib.Dec.{eqb}
use lib.ListN.{get_or}
use Rattle.place.specs.declared.elems.ProjectionElem.{ProjectionElem}
use Rattle.views.specs.Views.{Path}
use Rattle.meaning.specs.Values.{Value, place_in}
use Rattle.meaning.specs.Running.{Env, value_of, same_numbers, Scene, elem_numbers, same_elem, behind_root, part_behind, read}
use Rattle.meaning.proofs.Numbers.{numbers_meet}
use Rattle.meaning.proofs.Crossing.{below, elem_same}

-- the element of such numbers
abbrev elem_by : List ℕ → ProjectionElem
elem_by ns =
    get_or
    (ProjectionElem.Deref ∷ ProjectionElem.Field (get_or ns 1 0) ∷ ProjectionElem.Index (get_or ns 1 0) ∷ ProjectionElem.IndexFromEnd (get_or ns 1 0)
    ∷ ProjectionElem.Subslice (get_or ns 1 0) (get_or ns 2 0) ∷ ProjectionElem.Downcast (get_or ns 1 0) ∷ [])
    (get_or ns 0 0) ProjectionElem.Unknown

numbers_tell : (e : ProjectionElem) → elem_by (elem_numbers e) ≡ e
unfolding elem_numbers
numbers_tell ProjectionElem.Deref = refl
numbers_tell (ProjectionElem.Field i) = refl
numbers_tell (ProjectionElem.Index i) = refl
numbers_tell (ProjectionElem.IndexFromEnd i) = refl
numbers_tell (ProjectionElem.Subslice front end) = refl
numbers_tell (ProjectionElem.Downcast v) = refl
numbers_tell ProjectionElem.Unknown = refl

elems_meet : (e f : ProjectionElem) → same_elem e f ≡ true → e ≡ f
unfolding same_elem
elems_meet e f h = sym (numbers_tell e) ∙ ap elem_by (numbers_meet (elem_numbers e) (elem_numbers f) h) ∙ numbers_tell f

-- elements are the same exactly when they are equal
pub elems_same_exactly_when_equal : (e f : ProjectionElem) → same_elem e f ≡ true ↔ e ≡ f
elems_same_exactly_when_equal e f = (elems_meet e f, λ q. rw (sym q) (elem_same e))

-- what is left behind the root, with the root in front of it, is the path
behind_is : (root path rest : List ProjectionElem) → behind_root root path ≡ some rest → path ≡ root ++ rest
unfolding behind_root
behind_is [] path rest e = let q : path ≡ rest = cc in q
behind_is (x ∷ root) [] rest e = absurd (let z : ◌≡◌ {A = ℕ} 0 1 = cc in omega arith)
behind_is (x ∷ root) (y ∷ path) rest e = by (same_elem x y) refl (behind_is root path rest) e
  where
    by : (b : Bool) → same_elem x y ≡ b → (behind_root root path ≡ some rest → path ≡ root ++ rest) → cond b (behind_root root path) none ≡ some rest → y ∷ path ≡ x ∷ (root ++ rest)
    by true q rec r = ap₂ ◌∷◌ (sym (elems_meet x y q)) (rec r)
    by false q rec r = absurd (let z : ◌≡◌ {A = ℕ} 0 1 = cc in omega arith)

-- a place that does not lie behind the one handed in is read out of what its local holds
pub read_elsewhere : (scene : Scene) (env : Env) (path : Path) → ((rest : List ProjectionElem) → path ≡ below scene rest → ⊥) →
    read scene env path ≡ place_in path.elems (value_of (env path.local))
unfolding read part_behind
read_elsewhere scene env path apart = by (eqb path.local scene.root.local) refl (behind_root scene.root.elems path.elems) refl
  where
    other : Value
    other = place_in path.elems (value_of (env path.local))

    by : (b : Bool) → eqb path.local scene.root.local ≡ b → (r : Option (List ProjectionElem)) → behind_root scene.root.elems path.elems ≡ r →
        part_behind (cond b r none) scene.here other ≡ other
    by false e r q = refl
    by true e none q = refl
    by true e (some rest) q =
        let l = eqb-true path.local scene.root.local e in
        let p = behind_is scene.root.elems path.elems rest q in
        absurd (apart rest (λ i. record { local = l i; elems = p i }))

-- with the field 1 of local 0 handed in, its field 0 is read out of what local 0 holds
pub another_field : (image : List ℕ) (v : Value) (env : Env) →
    read (record { image = image; root = record { local = 0; elems = ProjectionElem.Field 1 ∷ [] }; here = v }) env (record { local = 0; elems = ProjectionElem.Field 0 ∷ [] })
    ≡ place_in (ProjectionElem.Field 0 ∷ []) (value_of (env 0))
unfolding read part_behind behind_root same_elem elem_numbers same_numbers
another_field image v env = refl
