-- What a walk in Bind does to the locals: a binding is filled, and one walk follows another. Assumes nothing.
use Prim.Native.Nat.{ℕ}
use native.Mathlib.Nat.{lt_of_lt_of_le}
use native.Mathlib.Omega.{arith}
use mathlib.Core.Path.{◌≡◌, refl, sym, ap, ◌∙◌, subst}
use mathlib.Core.Logic.{inl}
use mathlib.Core.Bool.{Bool, true, false, cond}
use mathlib.Core.List.{List, [], ◌∷◌, ◌++◌}
use lib.Dec.{eqb}
use lib.ListN.{get_or}
use Rattle.image.specs.declared.kinds.BindingMode.{BindingMode}
use Rattle.refusals.specs.declared.MirLowerError.{MirLowerError}
use Rattle.refusals.specs.Refusals.{done, stopped}
use Rattle.place.specs.declared.LocalId.{LocalId}
use Rattle.place.specs.declared.Place.{Place}
use Rattle.place.specs.declared.place_ty.PlaceTy.{PlaceTy}
use Rattle.mir.specs.declared.BasicBlockId.{BasicBlockId}
use Rattle.mir.specs.Rvalues.{place_rvalue_row}
use Rattle.state.specs.Steps.{try_statement}
use Rattle.lower_spec.specs.Results.{OptBlock}
use Rattle.lower_spec.specs.Temps.{is_held, binding_local, push_storage_live_for_local}
use Rattle.views.specs.Views.{of_place, set, Mir, mir_of}
use Rattle.views.specs.Growing.{GoesOn}
use Rattle.views.proofs.ReadBack.{place_rvalue_back}
use Rattle.pattern_matching.specs.declared.MatchingMode.{MatchingMode}
use Rattle.pattern_matching.specs.Walking.{Ctx, Out, ok, with_state, visited}
use Rattle.pattern_matching.specs.Tests.{binding_rvalue, pattern_match_binding}
use Rattle.growth.specs.Opened.{Ready, Leaves}
use Rattle.growth.proofs.Working.{goes_on_lem, goes_on_trans}
use Rattle.growth.proofs.Opening.{adds_same}
use Rattle.growth.proofs.Leaving.{leaves_lines, leaves_seq}
use Rattle.growth.proofs.Walks.{ok_is}
use Rattle.growth.proofs.Testing.{good_binding}
use Rattle.meaning.specs.Values.{Value}
use Rattle.meaning.specs.Running.{Held, value, Env, update, Scene, of_place_value, rvalue_value, execute}
use Rattle.meaning.specs.Matching.{Bound, bound_as}
use Rattle.correctness.specs.Demand2.{place_path, held_after}
use Rattle.correctness.proofs.Trails.{trail_here}
use Rattle.correctness.proofs.Walking.{rest, Walked, walked_here}
use Rattle.correctness.proofs.Landing.{follow}
use Rattle.correctness.proofs.Standing.{Stands, stands_read, stepped}
use Rattle.correctness.proofs.Doing.{does_seq, does_run, does_live, does_line}
use Rattle.correctness.proofs.Permuting.{Same}

-- a run over what a walk left gives the locals these bindings
pub record Fills (scene : Scene) (bindings : List ℕ) (M : Mir) (ctx : Ctx) (c : BasicBlockId) (els : OptBlock) (bs : List Bound) (r : Out) : Type 0 where
  pub leaves : Leaves ctx.state c els r
  pub walked : GoesOn (mir_of r.ctx.state) M → (env : Env) → Walked scene bindings M ctx c.0 env bs r.ctx r.then.0 (rest r.ctx.state M)

module _ {scene : Scene} {bindings : List ℕ} {M : Mir} where
  -- nothing done
  pub fills_here : (ctx : Ctx) (c : BasicBlockId) (els : OptBlock) → Ready ctx.state c els → Fills scene bindings M ctx c els [] (record { ctx = ctx; then = c; else = els })
  fills_here ctx c els h =
      record {
        leaves = leaves_lines h (adds_same ctx.state c.0);
        walked = λ x env. walked_here ctx c.0 env h.inside;
      }

  module _ {ctx : Ctx} {c : BasicBlockId} {els : OptBlock} where
    -- one walk after another
    pub fills_seq : {bs bs' : List Bound} (r r' : Out) → Ready ctx.state c els → Fills scene bindings M ctx c els bs r →
        Fills scene bindings M r.ctx r.then r.else bs' r' → Fills scene bindings M ctx c els (bs ++ bs') r'
    fills_seq r r' h f g =
        record {
          leaves = leaves_seq r r' f.leaves g.leaves;
          walked = λ x env.
              let w = f.walked (goes_on_trans (goes_on_lem g.leaves.worked f.leaves.ready.opened) x) env in
              follow r r' h f.leaves g.leaves w (g.walked x w.env') (inl g.leaves.ready.opened);
        }

    -- the same bindings in another order
    pub fills_as : {bs cs : List Bound} (r : Out) → Same bindings bs cs → Fills scene bindings M ctx c els bs r → Fills scene bindings M ctx c els cs r
    fills_as r s f =
        record {
          leaves = f.leaves;
          walked = λ x env.
              let w = f.walked x env in
              record { env' = w.env'; entered = w.entered; run = w.run; locals = λ l i. w.locals l i ∙ s.same l (env l); trail = w.trail };
        }

  -- a visit changes no local
  pub fills_visited : {ctx : Ctx} {c : BasicBlockId} {els : OptBlock} {bs : List Bound} (p : ℕ) (r : Out) → Fills scene bindings M (visited ctx p) c els bs r →
      Fills scene bindings M ctx c els bs r
  unfolding visited
  fills_visited p r f =
      record {
        leaves = f.leaves;
        walked = λ x env.
            let w = f.walked x env in
            record { env' = w.env'; entered = w.entered; run = w.run; locals = w.locals; trail = w.trail };
      }

-- what stops does not go on
stopped_not : {A : Type 0} {x : MirLowerError} {a : A} → stopped x ≡ done a → ⊥
stopped_not e = let z : ◌≡◌ {A = ℕ} 0 1 = cc in omega arith

-- what a step gave
done_is : {A : Type 0} {a b : A} → done a ≡ done b → a ≡ b
done_is e = cc

-- the local of a binding
binding_local_lem : (bindings : List ℕ) (b : ℕ) (l : LocalId) → binding_local bindings b ≡ done l → l.0 ≡ get_or bindings b 65535
unfolding binding_local
binding_local_lem bindings b l e = by (eqb (get_or bindings b 65535) 65535) e
  where
    by : (t : Bool) → cond t (stopped MirLowerError.InaccessibleLocal) (done (record { 0 = get_or bindings b 65535 })) ≡ done l →
        l.0 ≡ get_or bindings b 65535
    by true e = absurd (stopped_not e)
    by false e = ap (λ (x : LocalId). x.0) (sym (done_is e))

-- what a binding is filled with
filled_with : {scene : Scene} {word : ℕ} {place : Place} {ty : PlaceTy} {w : Value} (how : BindingMode) (env : Env) → Stands scene word place ty w →
    of_place_value (binding_rvalue how) scene env (place_path place) ≡ bound_as how (place_path place) w
unfolding of_place_value binding_rvalue bound_as
filled_with BindingMode.Value env s = ap value (stands_read env s)
filled_with BindingMode.Ref env s = refl
filled_with BindingMode.RefMut env s = refl
filled_with BindingMode.Unknown env s = ap value (stands_read env s)

-- one local set is one binding
set_after : (bindings : List ℕ) (env : Env) (l b : ℕ) (held what : Held) → l ≡ get_or bindings b 65535 → held ≡ what → (k : ℕ) →
    update env l held k ≡ held_after bindings (record { binding = b; what = what } ∷ []) k (env k)
unfolding update held_after
set_after bindings env l b held what e q k = ap (λ (x : ℕ). cond (eqb k x) held (env k)) e ∙ ap (λ (x : Held). cond (eqb k (get_or bindings b 65535)) x (env k)) q

-- a binding is filled with what lies at the place, or with a reference to it
pub fills_binding : {scene : Scene} {word : ℕ} {place : Place} {ty : PlaceTy} {w : Value} (bindings : List ℕ) (M : Mir) (p q b : ℕ) (how : BindingMode) (ctx : Ctx) (c : BasicBlockId)
    (els : OptBlock) (r : Out) → Ready ctx.state c els → Stands scene word place ty w → pattern_match_binding bindings p q b how ctx c els place ≡ ok r →
    Fills scene bindings M ctx c els (record { binding = b; what = bound_as how (place_path place) w } ∷ []) r
unfolding pattern_match_binding execute rvalue_value
fills_binding {scene} {place} {w} bindings M p q b how ctx c els r h s e =
    stepped q (binding_local bindings b) _ e (λ l e₁ f₁.
    stepped p (push_storage_live_for_local ctx.state l c) _ f₁ (λ st₁ e₂ f₂.
    stepped p (try_statement st₁ (place_rvalue_row c l (binding_rvalue how) place)) _ f₂ (λ st₂ e₃ f₃.
    let is = binding_local_lem bindings b l e₁ in
    let good = (good_binding {mode = MatchingMode.Bind} bindings p q b how ctx c els place).leaves h r e in
    let d = does_seq (does_live (is_held ctx.state l) ctx.state st₁ l c e₂)
    (does_line {scene = scene} c.0 st₁ st₂ (place_rvalue_row c l (binding_rvalue how) place) (set l.0 (of_place (binding_rvalue how) (place_path place)))
    (place_rvalue_back c l (binding_rvalue how) place s.within s.elements) e₃) in
    let bound : Bound = record { binding = b; what = bound_as how (place_path place) w } in
    let out : Out = record { ctx = with_state ctx st₂; then = c; else = els } in
    subst (λ (x : Out). Fills scene bindings M ctx c els (bound ∷ []) x) (ok_is f₃)
    (record {
      leaves = subst (λ (x : Out). Leaves ctx.state c els x) (sym (ok_is f₃)) good;
      walked = λ x env.
          record {
            env' = update env l.0 (of_place_value (binding_rvalue how) scene env (place_path place));
            entered = [];
            run = does_run M env x.more d x.grown;
            locals = λ k i. set_after bindings env l.0 b (of_place_value (binding_rvalue how) scene env (place_path place)) (bound_as how (place_path place) w) is (filled_with how env s) k;
            trail = trail_here (lt_of_lt_of_le h.inside (subst (λ (x : Out). Leaves ctx.state c els x) (sym (ok_is f₃)) good).worked.blocks);
          };
    }))))
