-- An Or in Bind: the first of its alternatives that matches is tested and then binds. Assumes nothing.
use Rattle.std.specs.Prelude.{None}
use Prim.Native.Nat.{ℕ}
use mathlib.Core.Path.{◌≡◌, refl, sym, subst}
use mathlib.Core.Logic.{inl}
use mathlib.Core.Bool.{Bool, true}
use mathlib.Core.Option.{some}
use mathlib.Core.List.{List, [], map}
use Rattle.place.specs.declared.Place.{Place}
use Rattle.place.specs.declared.place_ty.PlaceTy.{PlaceTy}
use Rattle.mir.specs.declared.BasicBlockId.{BasicBlockId}
use Rattle.views.specs.Views.{Mir, mir_of}
use Rattle.views.specs.Growing.{GoesOn}
use Rattle.pattern_matching.specs.declared.MatchingMode.{MatchingMode}
use Rattle.pattern_matching.specs.Walking.{Ctx, Out, Lowering}
use Rattle.pattern_matching.specs.Patterns.{or_pattern}
use Rattle.growth.specs.Opened.{Ready, Leaves}
use Rattle.growth.proofs.Working.{goes_on_lem, goes_on_trans}
use Rattle.growth.proofs.Walks.{ok_is, walked}
use Rattle.growth.proofs.Joining.{grows_or}
use Rattle.meaning.specs.Values.{Value, value_fits}
use Rattle.meaning.specs.Running.{Env, Scene}
use Rattle.meaning.specs.Matching.{Bound}
use Rattle.meaning.specs.Typing.{TypeNumber}
use Rattle.meaning.specs.Fit.{items_all_fit}
use Rattle.image.proofs.Bools.{and_left, and_right}
use Rattle.correctness.specs.Demand2.{place_path}
use Rattle.correctness.proofs.Walking.{rest, worked_locals, Walked, Lands, on, off, walked_seq, walked_later}
use Rattle.correctness.proofs.Standing.{Rooted, rooted_more, Stands}
use Rattle.correctness.proofs.Arguments.{Meant, AllMeant, nil, cons, meant_grow, rooted_after}
use Rattle.correctness.proofs.Choosing.{any_of, first_where, Choice, Choices, nil as no-choice, cons as choice}
use Rattle.correctness.proofs.Joined.{walked_or}
use Rattle.correctness.proofs.Permuting.{Binder}
use Rattle.correctness.proofs.BindingFields.{FillsOn, Can, AllCan, no_child, child}

module _ (scene : Scene) (word : ℕ) (bindings : List ℕ) (M : Mir) where
  -- tests, and then the bindings where they led on: a mismatch goes where the tests led it
  twice : {ctx : Ctx} {c : BasicBlockId} {env : Env} {bs : List Bound} {b : Bool} (r n : Out) → Leaves ctx.state c None r → Leaves r.ctx.state r.then None n →
      Lands scene bindings M ctx c.0 env [] r b →
      ((env : Env) → b ≡ true → Walked scene bindings M r.ctx r.then.0 env bs n.ctx n.then.0 (rest n.ctx.state M)) →
      Lands scene bindings M ctx c.0 env bs (record { ctx = n.ctx; then = n.then; else = r.else }) b
  twice r n q q' (on w) k =
      on (walked_seq w (k w.env' refl) (worked_locals q.worked) q.worked.blocks q'.worked.blocks (goes_on_lem q'.worked q.ready.opened) (inl q'.ready.opened) q.then)
  twice r n q q' (off e i w) k = off e i (walked_later w (goes_on_lem q'.worked q.ready.opened) q'.worked.blocks)

  module _ (t : ℕ) (w : Value) (value : value_fits scene.image w t ≡ true) (place : Place) (stands : Stands scene word place (PlaceTy.Ty t) w) where
    -- an alternative
    alternative_binds : {l : Lowering} {m : Value → Bool} {f : TypeNumber → Bool} {b : Binder} → Meant scene bindings M word l m f → Can scene word bindings M l f m b → f (some t) ≡ true →
        Choice (λ ctx. Rooted scene word ctx.state) scene bindings M MatchingMode.Bind place l (m w) (b (place_path place) w)
    alternative_binds {l} {m} {f} {b} h k fits =
        record {
          grows = h.grows;
          lands = λ ctx c root ready r e x env.
              walked (l MatchingMode.Check ctx c None place) _ e (λ r₁ e₁ e₂.
              walked (l MatchingMode.Bind r₁.ctx r₁.then None place) _ e₂ (λ n e₃ e₄.
              let q : Leaves ctx.state c None r₁ = (h.grows MatchingMode.Check ctx c None place).leaves ready r₁ e₁ in
              let again : Ready r₁.ctx.state r₁.then None = record { inside = q.ready.inside; opened = q.ready.opened; else = tt; lines = q.ready.lines } in
              let q' : Leaves r₁.ctx.state r₁.then None n = (h.grows MatchingMode.Bind r₁.ctx r₁.then None place).leaves again n e₃ in
              let y : GoesOn (mir_of n.ctx.state) M = subst (λ (z : Out). GoesOn (mir_of z.ctx.state) M) (sym (ok_is e₄)) x in
              subst (λ (z : Out). Lands scene bindings M ctx c.0 env (b (place_path place) w) z (m w)) (ok_is e₄)
              (twice r₁ n q q'
              (h.lands t fits ctx c None place w root stands value ready r₁ e₁ (goes_on_trans (goes_on_lem q'.worked q.ready.opened) y) env)
              (λ env matches.
              ((k.fills t w fits matches value).fill r₁.ctx r₁.then None place n (rooted_after r₁ q root) again stands e₃).walked y env))));
        }

    -- all alternatives
    choices : {ls : List Lowering} {ms : List (Value → Bool)} {fs : List (TypeNumber → Bool)} {bs : List Binder} → AllMeant scene bindings M word ls ms fs →
        AllCan scene word bindings M ls fs ms bs → items_all_fit fs (some t) ≡ true →
        Choices (λ ctx. Rooted scene word ctx.state) scene bindings M MatchingMode.Bind place ls (map (λ m. m w) ms) (map (λ b. b (place_path place) w) bs)
    unfolding items_all_fit
    choices nil no_child fits = no-choice
    choices (cons {f = f} {fs = fs} h hs) (child k ks) fits =
        choice (alternative_binds h k (and_left (f (some t)) (items_all_fit fs (some t)) fits)) (choices hs ks (and_right (f (some t)) (items_all_fit fs (some t)) fits))

  -- the alternatives of an Or
  pub fills_or : (p : ℕ) {ls : List Lowering} {ms : List (Value → Bool)} {fs : List (TypeNumber → Bool)} {bs : List Binder} → AllMeant scene bindings M word ls ms fs →
      AllCan scene word bindings M ls fs ms bs → (t : ℕ) (w : Value) → value_fits scene.image w t ≡ true → items_all_fit fs (some t) ≡ true → any_of (map (λ m. m w) ms) ≡ true →
      FillsOn scene word bindings M (or_pattern p ls) (PlaceTy.Ty t) w (λ path v. first_where (map (λ m. m v) ms) (map (λ b. b path v) bs))
  fills_or p {ls} hs ks t w value fits matches =
      record {
        fill = λ ctx c els place r root ready s e.
            record {
              leaves = (grows_or p ls (meant_grow hs) MatchingMode.Bind ctx c els place).leaves ready r e;
              walked = λ x env.
                  walked_or (λ ctx ctx₁ c f h. rooted_more scene word ctx.state ctx₁.state f.more_locals f.locals h) p (choices t w value place s hs ks fits) ctx c els root ready r e x env
                  matches;
            };
      }
