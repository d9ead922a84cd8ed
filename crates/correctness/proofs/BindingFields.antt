-- A walk in Bind over children in a row, each on the place one element on, binds what they bind. Assumes nothing.
use Prim.Native.Nat.{ℕ, zero, suc}
use native.Mathlib.Omega.{arith}
use mathlib.Core.Path.{◌≡◌, refl, sym, ap, ap₂, subst}
use mathlib.Core.Bool.{Bool, true}
use mathlib.Core.Option.{some}
use mathlib.Core.List.{List, [], ◌∷◌, reverse_aux}
use lib.ListN.{length, take, drop}
use Rattle.image.specs.Valid.{valid}
use Rattle.refusals.specs.Refusals.{done}
use Rattle.place.specs.declared.LocalId.{LocalId}
use Rattle.place.specs.declared.Place.{Place}
use Rattle.place.specs.declared.elems.ProjectionElem.{ProjectionElem}
use Rattle.place.specs.declared.place_ty.PlaceTy.{PlaceTy}
use Rattle.place.specs.Elems.{Fits}
use Rattle.place.specs.PlaceTypes.{projection_ty}
use Rattle.mir.specs.declared.BasicBlockId.{BasicBlockId}
use Rattle.lower_spec.specs.Results.{OptBlock}
use Rattle.views.specs.Views.{Path, Mir}
use Rattle.pattern_matching.specs.declared.MatchingMode.{MatchingMode}
use Rattle.pattern_matching.specs.Walking.{Ctx, Out, ok, Lowering, project}
use Rattle.pattern_matching.specs.Variants.{pattern_match_adt}
use Rattle.growth.specs.Opened.{Ready}
use Rattle.growth.proofs.Walks.{ok_is, walked}
use Rattle.meaning.specs.Values.{Value, part_at, value_fits}
use Rattle.meaning.specs.Running.{Scene}
use Rattle.meaning.specs.Matching.{onto, Bound, bind_all}
use Rattle.meaning.specs.Typing.{TypeNumber}
use Rattle.meaning.proofs.Children.{Valued}
use Rattle.correctness.specs.Demand2.{place_path}
use Rattle.correctness.proofs.Standing.{Rooted, rooted_more, Stands, onward, stands_onward, stepped}
use Rattle.correctness.proofs.Permuting.{Binder}
use Rattle.correctness.proofs.BindSteps.{Fills, fills_here, fills_seq}

-- the path of a place one element on
pub path_onward : (place : Place) (elem : ProjectionElem) (place' : Place) → Fits elem → length place.elems ≡ 16 → project place elem ≡ done place' → place_path place' ≡ onto (place_path place) elem
unfolding onto
path_onward place elem place' f n e =
    let o = onward place elem place' f n e in
    ap₂ (λ (l : ℕ) (es : List ProjectionElem). record { local = l; elems = es }) (ap (λ (l : LocalId). l.0) o.local) o.projection

-- no element, nothing bound
bind_none : (bs : List Binder) (path : Path) (v : Value) → bind_all bs [] path v ≡ []
unfolding bind_all
bind_none [] path v = refl
bind_none (b ∷ bs) path v = refl

module _ (scene : Scene) (word : ℕ) (bindings : List ℕ) (M : Mir) where
  -- a lowering binds, on places of this type with this value, what the binder says
  pub record FillsOn (l : Lowering) (ty : PlaceTy) (w : Value) (b : Binder) : Type 0 where
    pub fill : (ctx : Ctx) (c : BasicBlockId) (els : OptBlock) (place : Place) (r : Out) → Rooted scene word ctx.state → Ready ctx.state c els → Stands scene word place ty w →
        l MatchingMode.Bind ctx c els place ≡ ok r → Fills scene bindings M ctx c els (b (place_path place) w) r

  -- a lowering that binds where its pattern fits and matches
  pub record Can (l : Lowering) (f : TypeNumber → Bool) (m : Value → Bool) (b : Binder) : Type 0 where
    pub fills : (t : ℕ) (w : Value) → f (some t) ≡ true → m w ≡ true → value_fits scene.image w t ≡ true → FillsOn l (PlaceTy.Ty t) w b

  -- lowerings that all do
  pub data AllCan : List Lowering → List (TypeNumber → Bool) → List (Value → Bool) → List Binder → Type 0 where
    no_child : AllCan [] [] [] []
    child : {l : Lowering} {f : TypeNumber → Bool} {m : Value → Bool} {b : Binder} {ls : List Lowering} {fs : List (TypeNumber → Bool)} {ms : List (Value → Bool)} {bs : List Binder} →
        Can l f m b → AllCan ls fs ms bs → AllCan (l ∷ ls) (f ∷ fs) (m ∷ ms) (b ∷ bs)

  -- as many of each
  pub record SameLength (ls : List Lowering) (fs : List (TypeNumber → Bool)) (ms : List (Value → Bool)) (bs : List Binder) : Type 0 where
    pub fits : length fs ≡ length ls
    pub matches : length ms ≡ length ls
    pub binders : length bs ≡ length ls

  -- lowerings that bind are as many
  pub can_length : {ls : List Lowering} {fs : List (TypeNumber → Bool)} {ms : List (Value → Bool)} {bs : List Binder} → AllCan ls fs ms bs → SameLength ls fs ms bs
  can_length no_child = record { fits = refl; matches = refl; binders = refl }
  can_length (child c cs) = let n = can_length cs in record { fits = ap suc n.fits; matches = ap suc n.matches; binders = ap suc n.binders }

  -- the first of them
  pub can_take : (n : ℕ) {ls : List Lowering} {fs : List (TypeNumber → Bool)} {ms : List (Value → Bool)} {bs : List Binder} → AllCan ls fs ms bs →
      AllCan (take n ls) (take n fs) (take n ms) (take n bs)
  can_take zero cs = no_child
  can_take (suc n) no_child = no_child
  can_take (suc n) (child c cs) = child c (can_take n cs)

  -- the last of them
  pub can_drop : (n : ℕ) {ls : List Lowering} {fs : List (TypeNumber → Bool)} {ms : List (Value → Bool)} {bs : List Binder} → AllCan ls fs ms bs →
      AllCan (drop n ls) (drop n fs) (drop n ms) (drop n bs)
  can_drop zero cs = cs
  can_drop (suc n) no_child = no_child
  can_drop (suc n) (child c cs) = can_drop n cs

  module _ (ty : PlaceTy) (w : Value) where
    -- each lowering with its element and its binder
    abbrev pub AllFill : List ProjectionElem → List Lowering → List Binder → Type 0
    AllFill [] ls bs = Unit
    AllFill (elem ∷ elems) [] [] = Unit
    AllFill (elem ∷ elems) [] (b ∷ bs) = ⊥
    AllFill (elem ∷ elems) (l ∷ ls) [] = ⊥
    AllFill (elem ∷ elems) (l ∷ ls) (b ∷ bs) = Fits elem × FillsOn l (projection_ty ty scene.image elem) (part_at elem w) b × AllFill elems ls bs

    -- no lowering
    pub fill_none : (elems : List ProjectionElem) → AllFill elems [] []
    fill_none [] = tt
    fill_none (elem ∷ elems) = tt

    -- the last first, before others
    pub fill_reverse : (elems others : List ProjectionElem) (ls : List Lowering) (ls' : List Lowering) (bs bs' : List Binder) → length ls ≡ length elems → length bs ≡ length elems →
        AllFill elems ls bs → AllFill others ls' bs' → AllFill (reverse_aux elems others) (reverse_aux ls ls') (reverse_aux bs bs')
    fill_reverse [] others [] ls' [] bs' e q h k = k
    fill_reverse [] others [] ls' (b ∷ bs) bs' e q h k = absurd (omega arith)
    fill_reverse [] others (l ∷ ls) ls' bs bs' e q h k = absurd (omega arith)
    fill_reverse (elem ∷ elems) others [] ls' bs bs' e q h k = absurd (omega arith)
    fill_reverse (elem ∷ elems) others (l ∷ ls) ls' [] bs' e q h k = absurd (omega arith)
    fill_reverse (elem ∷ elems) others (l ∷ ls) ls' (b ∷ bs) bs' e q h k =
        fill_reverse elems (elem ∷ others) ls (l ∷ ls') bs (b ∷ bs') (omega arith) (omega arith) h.2 (h.0, h.1, k)

    -- children in turn
    pub fills_adt : valid scene.image ≡ true → (p : ℕ) (elems : List ProjectionElem) (ls : List Lowering) (bs : List Binder) → AllFill elems ls bs →
        (ctx : Ctx) (c : BasicBlockId) (els : OptBlock) (place : Place) (r : Out) → Rooted scene word ctx.state → Ready ctx.state c els → Stands scene word place ty w →
        pattern_match_adt p elems ls MatchingMode.Bind ctx c els place ≡ ok r → Fills scene bindings M ctx c els (bind_all bs elems (place_path place) w) r
    unfolding pattern_match_adt bind_all
    fills_adt holds p [] ls bs h ctx c els place r root ready s e =
        subst (λ (x : Out). Fills scene bindings M ctx c els (bind_all bs [] (place_path place) w) x) (ok_is e)
        (subst (λ (xs : List Bound). Fills scene bindings M ctx c els xs (record { ctx = ctx; then = c; else = els })) (sym (bind_none bs (place_path place) w)) (fills_here ctx c els ready))
    fills_adt holds p (elem ∷ elems) [] [] h ctx c els place r root ready s e = subst (λ (x : Out). Fills scene bindings M ctx c els [] x) (ok_is e) (fills_here ctx c els ready)
    fills_adt holds p (elem ∷ elems) [] (b ∷ bs) h ctx c els place r root ready s e = absurd h
    fills_adt holds p (elem ∷ elems) (l ∷ ls) [] h ctx c els place r root ready s e = absurd h
    fills_adt holds p (elem ∷ elems) (l ∷ ls) (b ∷ bs) h ctx c els place r root ready s e =
        stepped p (project place elem) _ e (λ place' e₁ f₁.
        walked (l MatchingMode.Bind ctx c els place') _ f₁ (λ r₁ e₂ f₂.
        let first = h.1.fill ctx c els place' r₁ root ready (stands_onward elem place' holds h.0 s e₁) e₂ in
        let here : Fills scene bindings M ctx c els (b (onto (place_path place) elem) (part_at elem w)) r₁ =
        subst (λ (path : Path). Fills scene bindings M ctx c els (b path (part_at elem w)) r₁) (path_onward place elem place' h.0 s.elements e₁) first in
        let root₁ = rooted_more scene word ctx.state r₁.ctx.state first.leaves.worked.more_locals first.leaves.worked.locals root in
        fills_seq r₁ r ready here (fills_adt holds p elems ls bs h.2 r₁.ctx r₁.then r₁.else place r root₁ first.leaves.ready s f₂)))

    -- a child on an element that leads to a place of its type, where it matches
    pub record Suit (elem : ProjectionElem) (f : TypeNumber → Bool) (m : Value → Bool) : Type 0 where
      pub fit : Fits elem
      pub number : ℕ
      pub valued : Valued scene.image ty w elem number
      pub fits : f (some number) ≡ true
      pub matches : m (part_at elem w) ≡ true

    -- children that all do
    abbrev pub Suited : List ProjectionElem → List (TypeNumber → Bool) → List (Value → Bool) → Type 0
    Suited [] fs ms = Unit
    Suited (elem ∷ elems) [] [] = Unit
    Suited (elem ∷ elems) [] (m ∷ ms) = ⊥
    Suited (elem ∷ elems) (f ∷ fs) [] = ⊥
    Suited (elem ∷ elems) (f ∷ fs) (m ∷ ms) = Suit elem f m × Suited elems fs ms

    -- and then their lowerings bind
    pub suited_fill : {ls : List Lowering} {fs : List (TypeNumber → Bool)} {ms : List (Value → Bool)} {bs : List Binder} (elems : List ProjectionElem) → AllCan ls fs ms bs →
        Suited elems fs ms → AllFill elems ls bs
    suited_fill [] cs h = tt
    suited_fill (elem ∷ elems) no_child h = tt
    suited_fill (elem ∷ elems) (child {l} {b} c cs) h =
        let x = h.0 in (
          x.fit,
          subst (λ (y : PlaceTy). FillsOn l y (part_at elem w) b) (sym x.valued.0) (c.fills x.number (part_at elem w) x.fits x.matches x.valued.1),
          suited_fill elems cs h.1,
        )
