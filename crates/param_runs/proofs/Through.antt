-- For parameters that all fit, on values that all match, the run comes to the block returned, with every parameter's bindings. Assumes nothing.
use Rattle.std.specs.Prelude.{None}
use Prim.Native.Nat.{ℕ, ◌+◌, ◌≤◌, ◌<◌}
use native.Mathlib.Nat.{le_refl, lt_of_lt_of_le}
use mathlib.Core.Path.{◌≡◌, refl, sym, ap, ◌∙◌, subst}
use mathlib.Core.Logic.{inl}
use mathlib.Core.Bool.{Bool, true, false, cond, false≢true}
use mathlib.Core.List.{List, [], ◌∷◌, ◌++◌}
use borrow.Author.Tests.{eqb-true}
use lib.Dec.{eqb}
use lib.ListN.{length, get_or}
use Rattle.image.specs.Lists.{distinct}
use Rattle.image.specs.Valid.{valid}
use Rattle.image.specs.Tree.{tree}
use Rattle.mir.specs.declared.BasicBlockId.{BasicBlockId}
use Rattle.views.specs.Views.{Mir, mir_of}
use Rattle.views.specs.Growing.{GoesOn}
use Rattle.pattern_matching.specs.Walking.{Ctx, Out, ok}
use Rattle.params_spec.specs.Params.{Param, lower_param, lower_params}
use Rattle.params_spec.specs.Calls.{params_named}
use Rattle.growth.specs.Opened.{count, From, Starts}
use Rattle.growth.proofs.Working.{goes_on_trans}
use Rattle.growth.proofs.Walks.{ok_is, walked}
use Rattle.growth.proofs.OpenBlocks.{leaves_goes_on}
use Rattle.meaning.specs.Values.{Value}
use Rattle.meaning.specs.Running.{Env, value, here}
use Rattle.meaning.specs.Matching.{Bound}
use Rattle.meaning.specs.Binding.{binds}
use Rattle.meaning.specs.Fit.{bound_in}
use Rattle.correctness.specs.Demand2.{held_after}
use Rattle.correctness.proofs.Trails.{Trail, Landing, trail_here, trail_seq}
use Rattle.correctness.proofs.Walking.{rest, after_append, worked_locals, Walked}
use Rattle.correctness.proofs.BindingNames.{names, distinct_apart, distinct_right}
use Rattle.named.specs.Named.{WordsBelow}
use Rattle.param_runs.specs.Through.{whole, params_fit, params_bind, params_bound, HeldFrom, Through, end, next}
use Rattle.param_runs.proofs.Owning.{unchanged, param_case}
use Rattle.param_runs.proofs.OpenBlocks.{param_opens, params_open}
use Rattle.param_runs.proofs.Typing.{TypedFrom, typed_grown, NamedParam, named_first, named_rest}
use Rattle.param_runs.proofs.Words.{words_more_lem}
use Rattle.param_runs.proofs.Walks.{scene_at, lowered_walks}
use Rattle.param_runs.proofs.Fitting.{asked, fit_first, fit_rest}
use Rattle.param_runs.proofs.Holding.{SmallFrom, held_later}

module _ (image bindings : List ℕ) (M : Mir) where
  -- a run through values that the lowering made on its way from ctx to ctx₁, from the block current to the block b: the locals of ctx get the bindings bs and are
  -- else unchanged
  pub record Passed (ctx : Ctx) (current : ℕ) (env : Env) (l : ℕ) (vs : List Value) (bs : List Bound) (ctx₁ : Ctx) (b : ℕ) : Type 0 where
    pub env' : Env
    pub entered : List ℕ
    pub through : Through image M l vs current (rest ctx.state M) env b (rest ctx₁.state M) env' entered
    pub locals : (k : ℕ) → k < length ctx.state.locals → env' k ≡ held_after bindings bs k (env k)
    pub trail : Trail ctx.state ctx₁.state current entered b

  -- no value
  passed_end : (ctx : Ctx) (current : ℕ) (env : Env) (l : ℕ) → current < count ctx.state → Passed ctx current env l [] [] ctx current
  unfolding held_after
  passed_end ctx current env l i = record { env' = env; entered = []; through = end; locals = λ k i. refl; trail = trail_here i }

  -- a value, and then others
  passed_next : {ctx ctx₁ ctx₂ : Ctx} {current b₁ b₂ : ℕ} {env : Env} {l : ℕ} {v : Value} {vs : List Value} {bs bs' : List Bound} → env l ≡ value v →
      (w : Walked (scene_at image l v) bindings M ctx current env bs ctx₁ b₁ (rest ctx₁.state M)) → Passed ctx₁ b₁ w.env' (l + 1) vs bs' ctx₂ b₂ → length ctx.state.locals ≤ length ctx₁.state.locals →
      count ctx.state ≤ count ctx₁.state → count ctx₁.state ≤ count ctx₂.state → GoesOn (mir_of ctx₁.state) (mir_of ctx₂.state) →
      Landing ctx.state current ctx₂.state b₂ → From ctx.state current b₁ → Passed ctx current env l (v ∷ vs) (bs ++ bs') ctx₂ b₂
  passed_next {env} {bs} {bs'} is w u s h₁ h₂ x o f =
      record {
        env' = u.env';
        entered = w.entered ++ u.entered;
        through = next is w.run u.through;
        locals = λ k i. u.locals k (lt_of_lt_of_le i s) ∙ ap (held_after bindings bs' k) (w.locals k i) ∙ sym (after_append bindings bs bs' k (env k));
        trail = trail_seq w.trail u.trail x h₁ h₂ o f;
      }

  -- a value that is held by its binding's local already
  own_walked : (ctx : Ctx) (current : ℕ) (env : Env) (b l : ℕ) (v : Value) → current < count ctx.state → get_or bindings b 65535 ≡ l → env l ≡ value v →
      Walked (scene_at image l v) bindings M ctx current env (record { binding = b; what = value v } ∷ []) ctx current (rest ctx.state M)
  unfolding held_after
  own_walked ctx current env b l v i own is =
      record { env' = env; entered = []; run = here; locals = λ k j. by k (eqb k (get_or bindings b 65535)) refl; trail = trail_here i }
    where
      by : (k : ℕ) (t : Bool) → eqb k (get_or bindings b 65535) ≡ t → env k ≡ cond t (value v) (env k)
      by k true e = ap env (eqb-true k (get_or bindings b 65535) e ∙ own) ∙ is
      by k false e = refl

  -- such a value, and then others
  pub passed_own : {ctx ctx₁ : Ctx} {current b₁ : ℕ} {env : Env} (b : ℕ) {l : ℕ} {v : Value} {vs : List Value} {bs : List Bound} → current < count ctx.state →
      get_or bindings b 65535 ≡ l → env l ≡ value v → Passed ctx current env (l + 1) vs bs ctx₁ b₁ → count ctx.state ≤ count ctx₁.state → GoesOn (mir_of ctx.state) (mir_of ctx₁.state) →
      Landing ctx.state current ctx₁.state b₁ → Passed ctx current env l (v ∷ vs) (record { binding = b; what = value v } ∷ bs) ctx₁ b₁
  unfolding own_walked
  passed_own {ctx} {current} {env} b {l} {v} i own is u h x o =
      passed_next is (own_walked ctx current env b l v i own is) u (le_refl _) (le_refl _) h x o (λ j. refl)

  module _ (image_valid : valid image ≡ true) (image_bytes : (i : ℕ) → get_or image i 0 < 256) where
    -- what a parameter's walk comes to, and that the values of those behind it are held then
    record Step (l : ℕ) (v : Value) (vs : List Value) (ctx : Ctx) (current : BasicBlockId) (env : Env) (r : Out) (bs : List Bound) : Type 0 where
      walk : Walked (scene_at image l v) bindings M ctx current.0 env bs r.ctx r.then.0 (rest r.ctx.state M)
      held : HeldFrom walk.env' (l + 1) vs

    -- a parameter
    param_step : (q : Param) (qs : List Param) (l : ℕ) (v : Value) (vs : List Value) (ctx : Ctx) (current : BasicBlockId) (env : Env) (r : Out) → NamedParam image q →
        Starts ctx current None → TypedFrom ctx.state.locals l (q ∷ qs) → SmallFrom l (q ∷ qs) → params_fit image bindings (q ∷ qs) l (v ∷ vs) ≡ true →
        distinct (params_bound image (q ∷ qs)) ≡ true → HeldFrom env l (v ∷ vs) → lower_param image bindings q.pattern l ctx current ≡ ok r → GoesOn (mir_of r.ctx.state) M →
        Step l v vs ctx current env r (binds image (tree image q.pattern) (whole l) v)
    unfolding params_bound own_walked
    param_step q qs l v vs ctx current env r named starts (there, is, typed) (i, small) fit differ (holds, held) =
        let pat = tree image q.pattern in
        let ask = asked image bindings q l v (fit_first image bindings q qs l v vs fit) in
        param_case image bindings l ctx current (λ r. GoesOn (mir_of r.ctx.state) M → Step l v vs ctx current env r (binds image pat (whole l) v)) r q.pattern
        (λ own onward.
        let o = ask.owns own in
        subst (Step l v vs ctx current env (unchanged ctx current)) (sym o.binds_it)
        (record { walk = own_walked ctx current.0 env o.binding l v starts.inside o.local holds; held = held }))
        (λ r₁ other e₁ onward.
        let low = ask.lowered other in
        let w = lowered_walks image bindings q l v ctx current r₁ M env image_valid image_bytes named starts there is low ask.valued ask.matched e₁ onward in
        record {
          walk = w;
          held = held_later image bindings ctx q l v low env w.env' w.locals qs (l + 1) vs (fit_rest image bindings q qs l v vs fit) typed small
              (distinct_apart (names (bound_in image pat)) (params_bound image qs) differ) held;
        })

    -- each parameter in order
    pub params_pass : (qs : List Param) (l : ℕ) (vs : List Value) (ctx : Ctx) (current : BasicBlockId) (env : Env) (r : Out) → params_named image qs ≡ true →
        Starts ctx current None → TypedFrom ctx.state.locals l qs → SmallFrom l qs → WordsBelow bindings (length ctx.state.locals) →
        params_fit image bindings qs l vs ≡ true → distinct (params_bound image qs) ≡ true → HeldFrom env l vs → lower_params image bindings qs l ctx current ≡ ok r →
        GoesOn (mir_of r.ctx.state) M → Passed ctx current.0 env l vs (params_bind image qs l vs) r.ctx r.then.0
    unfolding lower_params params_fit params_bind params_bound
    params_pass [] l [] ctx current env r named starts typed small words fit differ held e onward =
        subst (λ (r : Out). Passed ctx current.0 env l [] [] r.ctx r.then.0) (ok_is e) (passed_end ctx current.0 env l starts.inside)
    params_pass [] l (v ∷ vs) ctx current env r named starts typed small words fit differ held e onward = absurd (false≢true fit)
    params_pass (q ∷ qs) l [] ctx current env r named starts typed small words fit differ held e onward = absurd (false≢true fit)
    params_pass (q ∷ qs) l (v ∷ vs) ctx current env r named starts typed small words fit differ held e onward =
        walked (lower_param image bindings q.pattern l ctx current) _ e (λ r₁ e₁ e₂.
        let p = param_opens image bindings q.pattern l ctx current r₁ starts e₁ in
        let o = params_open image bindings qs (l + 1) r₁.ctx r₁.then r p.ready e₂ in
        let on = leaves_goes_on p.ready o in
        let step = param_step q qs l v vs ctx current env r₁ (named_first image q qs named) starts typed small fit differ held e₁ (goes_on_trans on onward) in
        let s = worked_locals p.worked in
        passed_next held.0 step.walk
        (params_pass qs (l + 1) vs r₁.ctx r₁.then step.walk.env' r (named_rest image q qs named) p.ready
        (typed_grown ctx.state.locals r₁.ctx.state.locals p.worked.more_locals (l + 1) qs p.worked.locals typed.2) small.1
        (words_more_lem bindings (length ctx.state.locals) (length r₁.ctx.state.locals) s words) (fit_rest image bindings q qs l v vs fit)
        (distinct_right (names (bound_in image (tree image q.pattern))) (params_bound image qs) differ) step.held e₂ onward)
        s p.worked.blocks o.worked.blocks on (inl o.ready.opened) p.then)
