-- Arguments in turn, each on the place one element on: they lead on where all of them match. Assumes nothing.
use Prim.Native.Nat.{ℕ, zero, suc, ◌<◌}
use mathlib.Core.Path.{◌≡◌, refl, ap, subst}
use mathlib.Core.Bool.{Bool, true, false, cond, ◌&&◌}
use mathlib.Core.Option.{some}
use mathlib.Core.List.{List, [], ◌∷◌, reverse, reverse_aux}
use lib.Dec.{leb}
use lib.ListN.{length, take, drop}
use Rattle.image.specs.Valid.{valid}
use Rattle.refusals.specs.declared.MirLowerError.{MirLowerError}
use Rattle.place.specs.declared.Place.{Place}
use Rattle.place.specs.declared.elems.ProjectionElem.{ProjectionElem}
use Rattle.place.specs.declared.place_ty.PlaceTy.{PlaceTy}
use Rattle.place.specs.Elems.{Fits}
use Rattle.mir.specs.declared.BasicBlockId.{BasicBlockId}
use Rattle.state.specs.State.{State}
use Rattle.lower_spec.specs.Results.{OptBlock}
use Rattle.views.specs.Views.{Mir, mir_of}
use Rattle.views.specs.Growing.{GoesOn}
use Rattle.pattern_matching.specs.declared.MatchingMode.{MatchingMode}
use Rattle.pattern_matching.specs.Walking.{Ctx, Out, Walk, ok, refused, Lowering, project}
use Rattle.pattern_matching.specs.Variants.{pattern_match_adt, fields_up_to, pattern_match_tuple_like}
use Rattle.growth.specs.Opened.{count, Ready, Leaves}
use Rattle.growth.proofs.Working.{goes_on_lem, goes_on_trans}
use Rattle.growth.proofs.Walks.{not_ok, ok_is, walked, Grows, AllGrow, all_take, all_drop, all_reverse}
use Rattle.growth.proofs.Fields.{grows_adt}
use Rattle.meaning.specs.Values.{Value, part_at, value_fits}
use Rattle.meaning.specs.Running.{Env, Scene}
use Rattle.meaning.specs.Typing.{TypeNumber}
use Rattle.meaning.proofs.Children.{Placed, Valued}
use Rattle.correctness.proofs.Walking.{Lands, on, walked_here}
use Rattle.correctness.proofs.Landing.{lands_both}
use Rattle.correctness.proofs.Standing.{Rooted, rooted_more, Stands, stands_as, stands_onward, stepped}
use Rattle.correctness.proofs.Rows.{zip_match}

-- a walk that did nothing
pub lands_here : {scene : Scene} {bindings : List ℕ} {M : Mir} (ctx : Ctx) (c : BasicBlockId) (els : OptBlock) (r : Out) (env : Env) → c.0 < count ctx.state →
    ok (record { ctx = ctx; then = c; else = els }) ≡ ok r → Lands scene bindings M ctx c.0 env [] r true
lands_here {scene} {bindings} {M} ctx c els r env h e =
    subst (λ (x : Out). Lands scene bindings M ctx c.0 env [] x true) (ok_is e) (on (walked_here ctx c.0 env h))

-- a body that goes on from the end of a walk goes on from before its last part
pub before : {M : Mir} {st : State} {c : BasicBlockId} {els : OptBlock} (r r' : Out) → Leaves st c els r → Leaves r.ctx.state r.then r.else r' →
    GoesOn (mir_of r'.ctx.state) M → GoesOn (mir_of r.ctx.state) M
before r r' q q' x = goes_on_trans (goes_on_lem q'.worked q.ready.opened) x

-- the place handed in stays where it is
pub rooted_after : {scene : Scene} {word : ℕ} {st : State} {c : BasicBlockId} {els : OptBlock} (r : Out) → Leaves st c els r → Rooted scene word st → Rooted scene word r.ctx.state
rooted_after {scene} {word} {st} r q h = rooted_more scene word st r.ctx.state q.worked.more_locals q.worked.locals h

-- what was walked where it was not refused
pub accepted : (b : Bool) (w : Walk Out) (e : MirLowerError) (p : ℕ) {r : Out} → cond b w (refused e p) ≡ ok r → (b ≡ true) × (w ≡ ok r)
accepted true w e p is = (refl, is)
accepted false w e p is = absurd (not_ok is)

-- In Check, a lowering leads every value of a type that f admits where m says: m is what its pattern means
pub record Meant (scene : Scene) (bindings : List ℕ) (M : Mir) (word : ℕ) (l : Lowering) (m : Value → Bool) (f : TypeNumber → Bool) : Type 0 where
  pub grows : Grows l
  pub lands : (t : ℕ) → f (some t) ≡ true → (ctx : Ctx) (c : BasicBlockId) (els : OptBlock) (place : Place) (w : Value) → Rooted scene word ctx.state →
      Stands scene word place (PlaceTy.Ty t) w → value_fits scene.image w t ≡ true → Ready ctx.state c els → (r : Out) → l MatchingMode.Check ctx c els place ≡ ok r →
      GoesOn (mir_of r.ctx.state) M → (env : Env) → Lands scene bindings M ctx c.0 env [] r (m w)

-- lowerings, what their patterns mean, and the types that they admit, in a row
pub data AllMeant (scene : Scene) (bindings : List ℕ) (M : Mir) (word : ℕ) : List Lowering → List (Value → Bool) → List (TypeNumber → Bool) → Type 0 where
  nil : AllMeant scene bindings M word [] [] []
  cons : {l : Lowering} {m : Value → Bool} {f : TypeNumber → Bool} {ls : List Lowering} {ms : List (Value → Bool)} {fs : List (TypeNumber → Bool)} →
      Meant scene bindings M word l m f → AllMeant scene bindings M word ls ms fs → AllMeant scene bindings M word (l ∷ ls) (m ∷ ms) (f ∷ fs)

-- the element leads to a place of the type and to a part of the value that fits it, and has a word
abbrev pub Reached : List ℕ → PlaceTy → Value → ProjectionElem → ℕ → Type 0
Reached image ty w elem t = Valued image ty w elem t × Fits elem

module _ {scene : Scene} {bindings : List ℕ} {M : Mir} {word : ℕ} where
  -- the first of them
  pub meant_take : {ls : List Lowering} {ms : List (Value → Bool)} {fs : List (TypeNumber → Bool)} (n : ℕ) → AllMeant scene bindings M word ls ms fs →
      AllMeant scene bindings M word (take n ls) (take n ms) (take n fs)
  meant_take zero a = nil
  meant_take (suc n) nil = nil
  meant_take (suc n) (cons h a) = cons h (meant_take n a)

  -- those behind the first
  pub meant_drop : {ls : List Lowering} {ms : List (Value → Bool)} {fs : List (TypeNumber → Bool)} (n : ℕ) → AllMeant scene bindings M word ls ms fs →
      AllMeant scene bindings M word (drop n ls) (drop n ms) (drop n fs)
  meant_drop zero a = a
  meant_drop (suc n) nil = nil
  meant_drop (suc n) (cons h a) = meant_drop n a

  -- the last first, before others
  meant_turn : {ls ls' : List Lowering} {ms ms' : List (Value → Bool)} {fs fs' : List (TypeNumber → Bool)} → AllMeant scene bindings M word ls ms fs →
      AllMeant scene bindings M word ls' ms' fs' → AllMeant scene bindings M word (reverse_aux ls ls') (reverse_aux ms ms') (reverse_aux fs fs')
  meant_turn nil b = b
  meant_turn (cons h a) b = meant_turn a (cons h b)

  -- the last first
  pub meant_reverse : {ls : List Lowering} {ms : List (Value → Bool)} {fs : List (TypeNumber → Bool)} → AllMeant scene bindings M word ls ms fs →
      AllMeant scene bindings M word (reverse ls) (reverse ms) (reverse fs)
  meant_reverse a = meant_turn a nil

  -- all of them grow a body well
  pub meant_grow : {ls : List Lowering} {ms : List (Value → Bool)} {fs : List (TypeNumber → Bool)} → AllMeant scene bindings M word ls ms fs → AllGrow ls
  meant_grow nil = tt
  meant_grow (cons h a) = (h.grows, meant_grow a)

  -- there are as many of each
  pub meant_count : {ls : List Lowering} {ms : List (Value → Bool)} {fs : List (TypeNumber → Bool)} → AllMeant scene bindings M word ls ms fs → (length ls ≡ length ms) × (length ls ≡ length fs)
  meant_count nil = (refl, refl)
  meant_count (cons h a) = (ap suc (meant_count a).0, ap suc (meant_count a).1)

  -- arguments in turn
  pub lands_adt : {ls : List Lowering} {ms : List (Value → Bool)} {fs : List (TypeNumber → Bool)} (p : ℕ) (elems : List ProjectionElem) → valid scene.image ≡ true →
      AllMeant scene bindings M word ls ms fs → (ctx : Ctx) (c : BasicBlockId) (els : OptBlock) (place : Place) (ty : PlaceTy) (w : Value) →
      Placed (Reached scene.image ty w) elems fs → Rooted scene word ctx.state → Stands scene word place ty w → Ready ctx.state c els → (r : Out) →
      pattern_match_adt p elems ls MatchingMode.Check ctx c els place ≡ ok r → GoesOn (mir_of r.ctx.state) M → (env : Env) →
      Lands scene bindings M ctx c.0 env [] r (zip_match elems ms w)
  unfolding pattern_match_adt zip_match
  lands_adt p [] holds a ctx c els place ty w at root s h r is x env = lands_here ctx c els r env h.inside is
  lands_adt p (elem ∷ elems) holds nil ctx c els place ty w at root s h r is x env = lands_here ctx c els r env h.inside is
  lands_adt {ls = l ∷ ls} p (elem ∷ elems) holds (cons m a) ctx c els place ty w at root s h r is x env =
      stepped p (project place elem) _ is (λ place' e₁ is₁.
      walked (l MatchingMode.Check ctx c els place') _ is₁ (λ r₁ e₂ e₃.
      let q : Leaves ctx.state c els r₁ = (m.grows MatchingMode.Check ctx c els place').leaves h r₁ e₂ in
      let q' : Leaves r₁.ctx.state r₁.then r₁.else r = (grows_adt p elems ls (meant_grow a) MatchingMode.Check r₁.ctx r₁.then r₁.else place).leaves q.ready r e₃ in
      lands_both r₁ r h q q'
      (m.lands at.0.ty at.0.fits ctx c els place' (part_at elem w) root (stands_as at.0.at.0.0 (stands_onward elem place' holds at.0.at.1 s e₁)) at.0.at.0.1 h r₁ e₂ (before r₁ r q q' x) env)
      (λ env _. lands_adt p elems holds a r₁.ctx r₁.then r₁.else place ty w at.1 (rooted_after r₁ q root) s q.ready r e₃ x env)))

  -- arguments before an ellipsis on the first fields, and then those behind it on the last ones, from the last on
  pub lands_row : {ls : List Lowering} {ms : List (Value → Bool)} {fs : List (TypeNumber → Bool)} (p at n : ℕ) → valid scene.image ≡ true →
      AllMeant scene bindings M word ls ms fs → (ctx : Ctx) (c : BasicBlockId) (els : OptBlock) (place : Place) (ty : PlaceTy) (w : Value) →
      Placed (Reached scene.image ty w) (fields_up_to n) (take at fs) → Placed (Reached scene.image ty w) (reverse (fields_up_to n)) (reverse (drop at fs)) →
      Rooted scene word ctx.state → Stands scene word place ty w → Ready ctx.state c els → (r : Out) →
      pattern_match_tuple_like p ls at n MatchingMode.Check ctx c els place ≡ ok r → GoesOn (mir_of r.ctx.state) M → (env : Env) →
      Lands scene bindings M ctx c.0 env [] r (zip_match (fields_up_to n) (take at ms) w && zip_match (reverse (fields_up_to n)) (reverse (drop at ms)) w)
  unfolding pattern_match_tuple_like
  lands_row {ls} p at n holds a ctx c els place ty w front back root s h r is x env =
      walked (pattern_match_adt p (fields_up_to n) (take at ls) MatchingMode.Check ctx c els place) _ (accepted (leb at (length ls)) _ MirLowerError.Ellipsis p is).1 (λ r₁ e₁ e₂.
      let g = meant_grow a in
      let q : Leaves ctx.state c els r₁ = (grows_adt p (fields_up_to n) (take at ls) (all_take at ls g) MatchingMode.Check ctx c els place).leaves h r₁ e₁ in
      let q' : Leaves r₁.ctx.state r₁.then r₁.else r =
      (grows_adt p (reverse (fields_up_to n)) (reverse (drop at ls)) (all_reverse (drop at ls) (all_drop at ls g)) MatchingMode.Check r₁.ctx r₁.then r₁.else place).leaves q.ready r e₂ in
      lands_both r₁ r h q q'
      (lands_adt p (fields_up_to n) holds (meant_take at a) ctx c els place ty w front root s h r₁ e₁ (before r₁ r q q' x) env)
      (λ env _. lands_adt p (reverse (fields_up_to n)) holds (meant_reverse (meant_drop at a)) r₁.ctx r₁.then r₁.else place ty w back (rooted_after r₁ q root) s q.ready r e₂ x env))
