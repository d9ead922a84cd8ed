-- The run through self and the parameters. Assumes nothing.
use Rattle.std.specs.Prelude.{Some, None}
use Prim.Native.Nat.{ℕ, ◌+◌, ◌≤◌, ◌<◌}
use native.Mathlib.Omega.{arith}
use mathlib.Core.Path.{◌≡◌, refl, sym, ap, subst}
use mathlib.Core.Logic.{inl}
use mathlib.Core.Bool.{Bool, true, false, not, ◌&&◌, false≢true}
use mathlib.Core.Option.{Option, none, some}
use mathlib.Core.List.{List, [], ◌∷◌, ◌++◌}
use borrow.Author.Tests.{eqb-true, ltb-true}
use lib.Dec.{ltb}
use lib.ListN.{length, length-append}
use Rattle.refusals.specs.Refusals.{Result}
use Rattle.refusals.specs.Refusals.{done}
use Rattle.image.specs.declared.BindingId.{BindingId}
use Rattle.image.specs.Tables.{type_count, binding_count}
use Rattle.image.specs.Lists.{member, distinct}
use Rattle.image.specs.Tree.{tree}
use Rattle.image.proofs.Bools.{and_left, and_right}
use Rattle.mir.specs.declared.BasicBlockId.{BasicBlockId}
use Rattle.views.specs.Views.{Line, Mir, mir_of}
use Rattle.views.specs.Growing.{GoesOn}
use Rattle.pattern_matching.specs.Walking.{Ctx, Out, ok, with_state}
use Rattle.params_spec.specs.Results.{SelfParam}
use Rattle.params_spec.specs.Params.{Param, Declared, ParamsOut, declare, plain_binding, self_count, lower_params, lower_params_and_bindings}
use Rattle.params_spec.specs.Calls.{self_named, binds_receiver, none_binds_receiver}
use Rattle.growth.specs.Opened.{Starts}
use Rattle.growth.proofs.Opening.{adds_words}
use Rattle.growth.proofs.Leaving.{leaves_lines}
use Rattle.growth.proofs.OpenBlocks.{leaves_goes_on}
use Rattle.meaning.specs.Values.{Value}
use Rattle.meaning.specs.Running.{Env}
use Rattle.meaning.specs.Fit.{bound_in}
use Rattle.correctness.proofs.Trails.{distinct_of}
use Rattle.correctness.proofs.Walking.{rest, rest_same}
use Rattle.correctness.proofs.BindingNames.{not_and, names, member_left, member_right}
use Rattle.param_runs.specs.Through.{params_fit, all_fit, params_bind, bound_by, params_bound, bindings_differ, HeldFrom, Through, made_count, Handed, ComesThrough}
use Rattle.param_runs.proofs.Plain.{plain_named}
use Rattle.param_runs.proofs.Declaring.{self_types, param_types, Apart, AllMade, all_made}
use Rattle.param_runs.proofs.Stepping.{Steps, steps}
use Rattle.param_runs.proofs.OpenBlocks.{params_open}
use Rattle.param_runs.proofs.Typing.{typed_made}
use Rattle.param_runs.proofs.Words.{words_hold_lem}
use Rattle.param_runs.proofs.Holding.{small_from}
use Rattle.param_runs.proofs.Through.{Passed, passed_own, params_pass}

-- a parameter that is a plain `x` of a binding names it
binds_is : (b : ℕ) (o : Option ℕ) → binds_receiver b o ≡ true → o ≡ some b
unfolding binds_receiver
binds_is b none e = absurd (false≢true e)
binds_is b (some x) e = ap some (eqb-true x b e)

-- a binding that stands in no parameter: none is a plain `x` of it
unnamed_apart : (image : List ℕ) (params : List Param) (b : ℕ) → (member b (params_bound image params) ≡ true → ⊥) → Apart image params b
unfolding none_binds_receiver params_bound
unnamed_apart image [] b n = refl
unnamed_apart image (q ∷ qs) b n =
    by (binds_receiver b (plain_binding (tree image q.pattern))) refl
    (unnamed_apart image qs b (λ m. n (member_right b (names (bound_in image (tree image q.pattern))) (params_bound image qs) m)))
  where
    by : (t : Bool) → binds_receiver b (plain_binding (tree image q.pattern)) ≡ t → none_binds_receiver image b qs ≡ true → not t && none_binds_receiver image b qs ≡ true
    by true e others =
        absurd (n (member_left b (names (bound_in image (tree image q.pattern))) (params_bound image qs)
        (plain_named image (tree image q.pattern) b (binds_is b (plain_binding (tree image q.pattern)) e))))
    by false e others = others

-- self's stands in none
self_apart : (image : List ℕ) (b : BindingId) (ty : ℕ) (params : List Param) → bindings_differ image (Some (b, ty)) params ≡ true → Apart image params b.0
unfolding distinct
self_apart image b ty params e =
    unnamed_apart image params b.0 (not_and (member b.0 (params_bound image params)) (and_left (not (member b.0 (params_bound image params))) (distinct (params_bound image params)) e))

-- those of the parameters differ
params_differ : (image : List ℕ) (self : SelfParam) (params : List Param) → bindings_differ image self params ≡ true → distinct (params_bound image params) ≡ true
unfolding distinct
params_differ image None params e = e
params_differ image (Some (b, ty)) params e = and_right (not (member b.0 (params_bound image params))) (distinct (params_bound image params)) e

-- self names a binding
self_there : (image : List ℕ) (b : BindingId) (ty : ℕ) → self_named image (Some (b, ty)) ≡ true → b.0 < binding_count image
unfolding self_named
self_there image b ty e = ltb-true b.0 (binding_count image) (and_left (ltb b.0 (binding_count image)) (ltb ty (type_count image)) e)

-- a type for each parameter
pub types_count : (qs : List Param) → length (param_types qs) ≡ length qs
unfolding param_types
types_count [] = refl
types_count (q ∷ qs) = let e = types_count qs in omega (arith, e)

module _ (image : List ℕ) (params : List Param) (bindings : List ℕ) (ctx : Ctx) (current : BasicBlockId) (M : Mir) (made : Declared) (last : Out) (env : Env)
    (onward : GoesOn (mir_of last.ctx.state) M) where
  -- where the parameters start
  abbrev started : Ctx
  started = with_state ctx made.state

  -- the local of self, or else of the first parameter
  abbrev first : ℕ
  first = length ctx.state.locals

  -- the parameters, behind self
  behind_self : (self : SelfParam) (vs : List Value) → Handed image self params bindings ctx current → AllMade image self params (record { state = ctx.state; bindings = bindings }) made →
      lower_params image made.bindings params (first + self_count self) started current ≡ ok last →
      params_fit image made.bindings params (first + self_count self) vs ≡ true → bindings_differ image self params ≡ true → HeldFrom env (first + self_count self) vs →
      Starts started current None →
      Passed image made.bindings M started current.0 env (first + self_count self) vs (params_bind image params (first + self_count self) vs) last.ctx last.then.0
  behind_self self vs handed m e fit differ held starts =
      let typed = typed_made self params m.others m.makes in
      let few : 0 < length params → length made.state.locals ≤ 512 = λ h.
      let a = length-append (self_types self) (param_types params ++ m.others) in
      let b = length-append (param_types params) m.others in
      let c = types_count params in
      m.makes.few (omega (arith, a, b, c)) in
      params_pass image made.bindings M handed.image_valid handed.image_bytes params (first + self_count self) vs started current env last handed.params_named_lem starts typed
      (small_from made.state.locals (first + self_count self) params few typed) (m.words (words_hold_lem bindings (binding_count image) ctx.state handed.bindings_hold_lem).below) fit
      (params_differ image self params differ) held e onward

  -- self, whose binding has its own local, and then the parameters
  passes : (self : SelfParam) (vs : List Value) → Handed image self params bindings ctx current → AllMade image self params (record { state = ctx.state; bindings = bindings }) made →
      lower_params image made.bindings params (first + self_count self) started current ≡ ok last →
      all_fit image made.bindings self params first vs ≡ true → bindings_differ image self params ≡ true → HeldFrom env first vs → Starts started current None →
      Passed image made.bindings M started current.0 env first vs (bound_by image self params first vs) last.ctx last.then.0
  unfolding all_fit bound_by self_count
  passes None vs handed m e fit differ held starts =
      let none : first ≡ first + 0 = omega arith in
      subst (λ (l : ℕ). Passed image made.bindings M started current.0 env l vs (params_bind image params l vs) last.ctx last.then.0) (sym none)
      (behind_self None vs handed m e (subst (λ (l : ℕ). params_fit image made.bindings params l vs ≡ true) none fit) differ
      (subst (λ (l : ℕ). HeldFrom env l vs) none held) starts)
  passes (Some (b, ty)) [] handed m e fit differ held starts = absurd (false≢true fit)
  passes (Some (b, ty)) (v ∷ vs) handed m e fit differ held starts =
      let words = words_hold_lem bindings (binding_count image) ctx.state handed.bindings_hold_lem in
      let there = self_there image b ty handed.self_named_lem in
      let own = m.own (omega (arith, words.long, there)) (self_apart image b ty params differ) in
      let o = params_open image made.bindings params (first + 1) started current last starts e in
      passed_own image made.bindings M b.0 starts.inside own held.0 (behind_self (Some (b, ty)) vs handed m e fit differ held.1 starts) o.worked.blocks
      (leaves_goes_on starts o) (inl o.ready.opened)

-- a run through values from where the parameters start, as it is stated
finish : (image : List ℕ) (self : SelfParam) (params : List Param) (bindings : List ℕ) (ctx : Ctx) (current : BasicBlockId) (M : Mir) (vs : List Value) (env : Env) (made : Declared) (last : Out) →
    declare image self params (record { state = ctx.state; bindings = bindings }) ≡ done made → made.state.statements ≡ ctx.state.statements →
    Passed image made.bindings M (with_state ctx made.state) current.0 env (length ctx.state.locals) vs (bound_by image self params (length ctx.state.locals) vs) last.ctx last.then.0 →
    ComesThrough image self params bindings ctx current (record { ctx = last.ctx; then = last.then; bindings = made.bindings }) M vs env
unfolding rest
finish image self params bindings ctx current M vs env made last declared same p =
    record {
      env' = p.env';
      entered = p.entered;
      through = subst (λ (lines : List Line). Through image M (length ctx.state.locals) vs current.0 lines env last.then.0 (rest last.ctx.state M) p.env' p.entered)
          (rest_same ctx.state made.state M same) p.through;
      once = distinct_of (current.0 ∷ p.entered) p.trail.distinct;
      locals = λ l i. p.locals l (subst (λ (x : Result Declared). l < made_count x) declared i);
    }

-- For parameters that all fit, on values that all match, in every body that goes on from the lowered one.
module _ (image : List ℕ) (self : SelfParam) (params : List Param) (bindings : List ℕ) (ctx : Ctx) (current : BasicBlockId) (handed : Handed image self params bindings ctx current)
    (r : ParamsOut) (lowered : lower_params_and_bindings image self params bindings ctx current ≡ ok r) (M : Mir) (onward : GoesOn (mir_of r.ctx.state) M) (vs : List Value)
    (fit : all_fit image r.bindings self params (length ctx.state.locals) vs ≡ true) (differ : bindings_differ image self params ≡ true) (env : Env)
    (held : HeldFrom env (length ctx.state.locals) vs) where
  -- the same of any result
  abbrev Runs : ParamsOut → Type 0
  Runs r =
      GoesOn (mir_of r.ctx.state) M → all_fit image r.bindings self params (length ctx.state.locals) vs ≡ true →
      ComesThrough image self params bindings ctx current r M vs env

  -- The run comes to the returned block with every parameter's bindings as the Reference says, and enters no block twice.
  pub comes_through : ComesThrough image self params bindings ctx current r M vs env
  comes_through = subst Runs (sym s.is) runs onward fit
    where
      s : Steps image self params bindings ctx current r
      s = steps image self params bindings ctx current r lowered

      m : AllMade image self params (record { state = ctx.state; bindings = bindings }) s.made
      m = (all_made image self params (record { state = ctx.state; bindings = bindings })).at s.made s.declared

      starts : Starts (with_state ctx s.made.state) current None
      starts = (leaves_lines {v = ctx.visits} handed.starts (adds_words ctx.state s.made.state current.0 _ m.makes.blocks m.makes.statements m.makes.locals)).ready

      runs : Runs (record { ctx = s.end.ctx; then = s.end.then; bindings = s.made.bindings })
      runs onward fit =
          let p = passes image params bindings ctx current M s.made s.end env onward self vs handed m s.params_lowered fit differ held starts in
          finish image self params bindings ctx current M vs env s.made s.end s.declared m.makes.statements p
