-- The places of a walk: below the place handed in, with the parts of its value and their types. Assumes nothing.
use Prim.Native.Nat.{ℕ, zero, suc, ◌+◌, ◌≤◌, ◌<◌}
use native.Mathlib.Omega.{arith}
use mathlib.Core.Path.{◌≡◌, refl, sym, ap, ap₂, ◌∙◌, subst}
use mathlib.Core.Bool.{Bool, true, false, cond}
use mathlib.Core.Option.{some}
use mathlib.Core.List.{List, [], ◌∷◌, ◌++◌, append-nil, append_assoc}
use borrow.Author.Tests.{ltb-true}
use lib.Dec.{ltb}
use lib.ListN.{length, get_or, set, length-set, length-append, get_or-append}
use Rattle.refusals.specs.declared.MirLowerError.{MirLowerError}
use Rattle.refusals.specs.Refusals.{Result}
use Rattle.refusals.specs.Refusals.{done, stopped}
use Rattle.image.specs.Valid.{valid}
use Rattle.image.specs.Types.{ty_of, reference}
use Rattle.place.specs.declared.LocalId.{LocalId}
use Rattle.place.specs.declared.Place.{Place}
use Rattle.place.specs.declared.elems.ProjectionElem.{ProjectionElem}
use Rattle.place.specs.declared.place_ty.PlaceTy.{PlaceTy}
use Rattle.place.specs.Elems.{word_of, Fits}
use Rattle.place.specs.Places.{projection_of}
use Rattle.place.specs.PlaceTypes.{deref_ty, ty_projection, projection_ty, multi_projection_ty, Named}
use Rattle.place.proofs.Projecting.{longer}
use Rattle.place.proofs.Named.{named_projection}
use Rattle.mir.specs.Locals.{local_ty}
use Rattle.state.specs.State.{State}
use Rattle.views.specs.Views.{Path}
use Rattle.pattern_matching.specs.Walking.{Out, Walk, ok, step, project, derefed}
use Rattle.pattern_matching.specs.Variants.{place_ty}
use Rattle.growth.proofs.Walks.{not_ok}
use Rattle.meaning.specs.Values.{Value, part_at, place_in}
use Rattle.meaning.specs.Running.{Env, Scene, read}
use Rattle.meaning.specs.Matching.{crossed}
use Rattle.meaning.specs.Fit.{behind}
use Rattle.meaning.proofs.Crossing.{below, read_below, place_append, behind_first}
use Rattle.correctness.specs.Demand2.{place_path}

-- the local of the place handed in is one of the state's, and its type's word is this
pub record Rooted (scene : Scene) (word : ℕ) (st : State) : Type 0 where
  pub there : scene.root.local < length st.locals
  pub is : get_or st.locals scene.root.local 0 ≡ word

-- it stays so where locals are added
pub rooted_more : (scene : Scene) (word : ℕ) (st st₁ : State) (more : List ℕ) → st₁.locals ≡ st.locals ++ more → Rooted scene word st → Rooted scene word st₁
rooted_more scene word st st₁ more e h =
    let n : length st₁.locals ≡ length st.locals + length more = ap length e ∙ length-append st.locals more in
    record {
      there = omega (arith, h.there);
      is = ap (λ (ls : List ℕ). get_or ls scene.root.local 0) e ∙ get_or-append st.locals more 0 scene.root.local h.there ∙ h.is;
    }

-- a place below the one handed in, of the type ty, where the value w lies
pub record Stands (scene : Scene) (word : ℕ) (place : Place) (ty : PlaceTy) (w : Value) : Type 0 where
  pub elements : length place.elems ≡ 16
  pub within : place.len ≤ 16
  pub behind : List ProjectionElem
  pub path : place_path place ≡ below scene behind
  pub value : place_in behind scene.here ≡ w
  pub typed : multi_projection_ty scene.image (local_ty word) (projection_of place) ≡ ty
  pub named : Named scene.image ty

-- what lies there
pub stands_read : {scene : Scene} {word : ℕ} {place : Place} {ty : PlaceTy} {w : Value} (env : Env) → Stands scene word place ty w → read scene env (place_path place) ≡ w
stands_read {scene} env s = ap (read scene env) s.path ∙ read_below scene env s.behind ∙ s.value

-- its type in a state
pub stands_typed : {scene : Scene} {word : ℕ} {place : Place} {ty : PlaceTy} {w : Value} (st : State) → Rooted scene word st → Stands scene word place ty w →
    place_ty scene.image st place ≡ ty
unfolding place_ty
stands_typed {scene} {place} st r s =
    let root : place.local.0 ≡ scene.root.local = ap (λ (p : Path). p.local) s.path in
    ap (λ (l : ℕ). multi_projection_ty scene.image (local_ty (get_or st.locals l 0)) (projection_of place)) root
    ∙ ap (λ (x : ℕ). multi_projection_ty scene.image (local_ty x) (projection_of place)) r.is
    ∙ s.typed

-- the type of one element more
pub multi_snoc : (image : List ℕ) (ty : PlaceTy) (xs : List ProjectionElem) (x : ProjectionElem) → multi_projection_ty image ty (xs ++ (x ∷ [])) ≡ projection_ty (multi_projection_ty image ty xs) image x
unfolding multi_projection_ty
multi_snoc image ty [] x = refl
multi_snoc image ty (y ∷ xs) x = multi_snoc image (projection_ty ty image y) xs x

-- a refusal gives no place
stopped_not : {A : Type 0} {x : MirLowerError} {a : A} → stopped x ≡ done a → ⊥
stopped_not e = let z : ◌≡◌ {A = ℕ} 0 1 = cc in omega arith

-- what was given is what was given
done_is : {A : Type 0} {a b : A} → done a ≡ done b → a ≡ b
done_is e = cc

-- a place one element on
pub record Onward (place : Place) (elem : ProjectionElem) (place' : Place) : Type 0 where
  pub local : place'.local ≡ place.local
  pub elements : length place'.elems ≡ 16
  pub within : place'.len ≤ 16
  pub projection : projection_of place' ≡ projection_of place ++ (elem ∷ [])

-- a projection that was taken
pub onward : (place : Place) (elem : ProjectionElem) (place' : Place) → Fits elem → length place.elems ≡ 16 → project place elem ≡ done place' → Onward place elem place'
unfolding project
onward place elem place' f n e = by (ltb place.len 16) refl e
  where
    next : Place
    next = record { local = place.local; len = place.len + 1; elems = set place.elems place.len (word_of elem) }

    by : (b : Bool) → ltb place.len 16 ≡ b → cond b (done next) (stopped MirLowerError.Limit) ≡ done place' → Onward place elem place'
    by true q e =
        let h : place.len < 16 = ltb-true place.len 16 q in
        let p = longer place elem f n h in
        subst (λ (x : Place). Onward place elem x) (done_is e)
        (record {
          local = refl;
          elements = length-set place.elems place.len (word_of elem) ∙ n;
          within = omega arith;
          projection = p.elems refl;
        })
    by false q e = absurd (stopped_not e)

-- one element on lies the part of the value
pub stands_onward : {scene : Scene} {word : ℕ} {place : Place} {ty : PlaceTy} {w : Value} (elem : ProjectionElem) (place' : Place) → valid scene.image ≡ true → Fits elem →
    Stands scene word place ty w → project place elem ≡ done place' → Stands scene word place' (projection_ty ty scene.image elem) (part_at elem w)
unfolding place_in
stands_onward {scene} {word} {place} {ty} {w} elem place' holds f s e =
    let o = onward place elem place' f s.elements e in
    let local : place.local.0 ≡ scene.root.local = ap (λ (p : Path). p.local) s.path in
    let elems : projection_of place ≡ scene.root.elems ++ s.behind = ap (λ (p : Path). p.elems) s.path in
    record {
      elements = o.elements;
      within = o.within;
      behind = s.behind ++ (elem ∷ []);
      path = ap₂ (λ (l : ℕ) (es : List ProjectionElem). record { local = l; elems = es }) (ap (λ (l : LocalId). l.0) o.local ∙ local)
          (o.projection ∙ ap (λ (es : List ProjectionElem). es ++ (elem ∷ [])) elems ∙ append_assoc scene.root.elems s.behind (elem ∷ []));
      value = place_append s.behind (elem ∷ []) scene.here ∙ ap (part_at elem) s.value;
      typed = ap (multi_projection_ty scene.image (local_ty word)) o.projection ∙ multi_snoc scene.image (local_ty word) (projection_of place) elem
          ∙ ap (λ (x : PlaceTy). projection_ty x scene.image elem) s.typed;
      named = named_projection scene.image holds ty elem s.named;
    }

-- the same place, its type or its value told otherwise
pub stands_as : {scene : Scene} {word : ℕ} {place : Place} {ty ty' : PlaceTy} {w : Value} → ty ≡ ty' → Stands scene word place ty w → Stands scene word place ty' w
stands_as {scene} {word} {place} {w} e s = subst (λ (x : PlaceTy). Stands scene word place x w) e s

-- the place handed in
pub stands_start : (scene : Scene) (word : ℕ) (place : Place) (st : State) (t : ℕ) → scene.root ≡ place_path place → get_or st.locals place.local.0 0 ≡ word →
    length place.elems ≡ 16 → place.len ≤ 16 → place_ty scene.image st place ≡ PlaceTy.Ty t → Named scene.image (PlaceTy.Ty t) → Stands scene word place (PlaceTy.Ty t) scene.here
unfolding place_in place_ty
stands_start scene word place st t root is n h placed named =
    record {
      elements = n;
      within = h;
      behind = [];
      path = sym root ∙ ap (λ (es : List ProjectionElem). record { local = scene.root.local; elems = es }) (sym (append-nil scene.root.elems));
      value = refl;
      typed = ap (λ (x : ℕ). multi_projection_ty scene.image (local_ty x) (projection_of place)) (sym is) ∙ placed;
      named = named;
    }

-- a step that gave a place, and what followed it
pub stepped : {A B : Type 0} {C : Type 0} (p : ℕ) (x : Result A) (k : A → Walk B) {b : B} → step p x k ≡ ok b → ((a : A) → x ≡ done a → k a ≡ ok b → C) → C
stepped p (done a) k e f = f a refl e
stepped p (stopped x) k e f = absurd (not_ok e)

-- what a reference refers to has a type
deref_type : (image : List ℕ) (t u : ℕ) → (ty_of image t).shape ≡ reference u → projection_ty (PlaceTy.Ty t) image ProjectionElem.Deref ≡ PlaceTy.Ty u
unfolding projection_ty ty_projection deref_ty
deref_type image t u e = ap deref_ty e

-- references crossed: behind them lies what the pattern looks at
pub crossing : {C : Type 0} {scene : Scene} {word : ℕ} {place : Place} {t : ℕ} {w : Value} (p n u : ℕ) (k : Place → Walk Out) (r : Out) → valid scene.image ≡ true →
    Stands scene word place (PlaceTy.Ty t) w → behind scene.image n (some t) ≡ some u → derefed p place k n ≡ ok r →
    ((place' : Place) → Stands scene word place' (PlaceTy.Ty u) (crossed n w) → k place' ≡ ok r → C) → C
unfolding derefed behind crossed
crossing {place} {t} p zero u k r holds s b e f = let same : t ≡ u = cc in f place (stands_as (ap PlaceTy.Ty same) s) e
crossing {C} {scene} {place} {t} p (suc n) u k r holds s b e f =
    let (x, q, rest) = behind_first scene.image n t u b in
    stepped p (project place ProjectionElem.Deref) (λ place'. derefed p place' k n) e (λ place' e₁ e₂.
    crossing {place = place'} p n u k r holds (stands_as (deref_type scene.image t x q) (stands_onward ProjectionElem.Deref place' holds tt s e₁)) rest e₂ f)
