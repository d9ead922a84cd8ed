-- What lower.rs does with self besides, kept here as the definition had it, and that no call that is taken comes to it. Assumes nothing.
use Rattle.std.specs.Prelude.{Some, None}
use Prim.Native.Nat.{ℕ, ◌+◌, ◌<◌}
use native.Mathlib.Omega.{arith}
use mathlib.Core.Path.{◌≡◌, refl, sym, ap, ◌∙◌}
use mathlib.Core.Bool.{Bool, true, false, cond, ◌&&◌}
use mathlib.Core.List.{List}
use borrow.Author.Tests.{eqb-true, eq-eqb, ne_eqb, ltb-true}
use lib.Dec.{eqb, ltb}
use lib.ListN.{length, get_or}
use Rattle.refusals.specs.Refusals.{Result, no_pattern}
use Rattle.refusals.specs.Refusals.{done, stopped}
use Rattle.row_tables.specs.Rows.{zeros}
use Rattle.image.specs.Lists.{all_true, all_in}
use Rattle.image.specs.Tables.{type_count, binding_count}
use Rattle.image.specs.Valid.{valid}
use Rattle.image.proofs.Bools.{and_left, and_right}
use Rattle.mir.specs.declared.BasicBlockId.{BasicBlockId}
use Rattle.mir.specs.declared.Counts.{Counts}
use Rattle.state.specs.State.{Body, decode}
use Rattle.lower_spec.specs.Temps.{binding_local}
use Rattle.calls_spec.specs.Calls.{Called, bad_image, bad_call, call}
use Rattle.body_calls_spec.specs.Calls.{body_taken}
use Rattle.pattern_matching.specs.Walking.{Ctx, Out, Walk, next, step, out, with_state}
use Rattle.pattern_matching.specs.Walking.{ok as gives}
use Rattle.pattern_matching.specs.Patterns.{match_self_param}
use Rattle.pattern_walk_spec.specs.Answers.{ctx_of}
use Rattle.pattern_walk_spec.specs.Calls.{by_walk, start_ctx}
use Rattle.handed.specs.Handed.{binding_local_holds, bindings_hold}
use Rattle.params_spec.specs.Results.{SelfParam}
use Rattle.params_spec.specs.Params.{Param, Declared, ParamsOut, declare, shut, unless_bound, lower_params, self_count, lower_all, lower_params_and_bindings}
use Rattle.params_spec.specs.Calls.{params_of, list_formed, receiver_apart, list_holds, self_named, params_hold, params_call}
use Rattle.param_runs.proofs.Declaring.{makes_count, all_made}

-- self, whose local is l, from the block `current` on: a binding with another local is filled by `match_self_param`
unfoldable pub lower_self : List ℕ → List ℕ → SelfParam → ℕ → Ctx → BasicBlockId → Walk Out
lower_self image bindings None l ctx current = out ctx current None
lower_self image bindings (Some (b, ty)) l ctx current =
    unless_bound bindings no_pattern b.0 l (out ctx current None) (shut (match_self_param image bindings b.0 ctx current (record { 0 = l })))

-- self, and then the parameters
unfoldable pub lower_all_with_self : List ℕ → List ℕ → SelfParam → List Param → ℕ → Ctx → BasicBlockId → Walk ParamsOut
lower_all_with_self image bindings self params l ctx current =
    next (lower_self image bindings self l ctx current) (λ r.
    next (lower_params image bindings params (l + self_count self) r.ctx r.then) (λ r₁.
    gives (record { ctx = r₁.ctx; then = r₁.then; bindings = bindings })))

-- `lower_params_and_bindings` with that step
unfoldable pub lower_with_self : List ℕ → SelfParam → List Param → List ℕ → Ctx → BasicBlockId → Walk ParamsOut
lower_with_self image self params bindings ctx current =
    step no_pattern (declare image self params (record { state = ctx.state; bindings = bindings })) (λ d.
    lower_all_with_self image d.bindings self params (length ctx.state.locals) (with_state ctx d.state) current)

-- the call with that step
unfoldable pub call_with_self : List ℕ → List ℕ → SelfParam → List ℕ → Body → Counts → BasicBlockId → Called ParamsOut
call_with_self image words self bindings b c current =
    call (valid image && list_holds image self words) (body_taken image b c && params_hold image self bindings b.blocks c current)
    (by_walk (lower_with_self image self (params_of words) bindings (start_ctx b c) current))

-- self's binding has the local l
abbrev pub SelfHas : SelfParam → List ℕ → ℕ → Type 0
SelfHas None bindings l = Unit {0}
SelfHas (Some (b, ty)) bindings l = get_or bindings b.0 65535 ≡ l

-- l is a local
abbrev SelfLocal : SelfParam → ℕ → Type 0
SelfLocal None l = Unit {0}
SelfLocal (Some (b, ty)) l = l < 65535

-- then nothing is left to do for self
self_idle : (image bindings : List ℕ) (self : SelfParam) (l : ℕ) (ctx : Ctx) (current : BasicBlockId) → SelfHas self bindings l × SelfLocal self l →
    lower_self image bindings self l ctx current ≡ out ctx current None
unfolding lower_self unless_bound binding_local
self_idle image bindings None l ctx current own = refl
self_idle image bindings (Some (b, ty)) l ctx current (own, small) =
    rw (ne_eqb (get_or bindings b.0 65535) 65535 (λ e. let z = sym own ∙ e in omega (arith, z)), eq-eqb l (get_or bindings b.0 65535) (sym own)) refl

-- two steps that follow one, and come to the same
step_same : {A B : Type 0} (p : ℕ) (x : Result A) (k k' : A → Walk B) → ((a : A) → x ≡ done a → k a ≡ k' a) → step p x k ≡ step p x k'
step_same p (done a) k k' f = f a refl
step_same p (stopped e) k k' f = refl

module _ (image : List ℕ) (self : SelfParam) (params : List Param) (bindings : List ℕ) (named : self_named image self ≡ true) (long : length bindings ≡ binding_count image)
    (apart : receiver_apart image self params ≡ true) where
  -- when all locals are made, self's binding has self's own
  self_has : (ctx : Ctx) (made : Declared) → declare image self params (record { state = ctx.state; bindings = bindings }) ≡ done made →
      SelfHas self made.bindings (length ctx.state.locals) × SelfLocal self (length ctx.state.locals)
  unfolding receiver_apart self_named
  self_has ctx made e = go self named apart e
    where
      go : (self : SelfParam) → self_named image self ≡ true → receiver_apart image self params ≡ true → declare image self params (record { state = ctx.state; bindings = bindings }) ≡ done made →
          SelfHas self made.bindings (length ctx.state.locals) × SelfLocal self (length ctx.state.locals)
      go None n a e = (tt, tt)
      go (Some (b, ty)) n a e =
          let m = (all_made image (Some (b, ty)) params (record { state = ctx.state; bindings = bindings })).at made e in
          let there = ltb-true b.0 (binding_count image) (and_left (ltb b.0 (binding_count image)) (ltb ty (type_count image)) n) in
          let count = makes_count m.makes in
          (m.own (omega (arith, long, there)) a, let few = m.makes.few (omega arith) in omega (arith, few, count))

  -- with the step for self or without it
  same_lowering : (ctx : Ctx) (current : BasicBlockId) → lower_with_self image self params bindings ctx current ≡ lower_params_and_bindings image self params bindings ctx current
  unfolding lower_with_self lower_all_with_self lower_params_and_bindings lower_all
  same_lowering ctx current =
      step_same no_pattern (declare image self params (record { state = ctx.state; bindings = bindings })) _ _ (λ d e.
      ap
      (λ (w : Walk Out).
      next w (λ r. next (lower_params image d.bindings params (length ctx.state.locals + self_count self) r.ctx r.then) (λ r₁.
      gives (record { ctx = r₁.ctx; then = r₁.then; bindings = d.bindings }))))
      (self_idle image d.bindings self (length ctx.state.locals) (with_state ctx d.state) current (self_has ctx d e)))

-- what a call is handed that is taken
module _ (image words : List ℕ) (self : SelfParam) (bindings : List ℕ) (b : Body) (c : Counts) (current : BasicBlockId)
    (list : list_holds image self words ≡ true) (held : params_hold image self bindings b.blocks c current ≡ true) where
  taken_apart : receiver_apart image self (params_of words) ≡ true
  unfolding list_holds
  taken_apart = and_right (list_formed image words) (receiver_apart image self (params_of words)) list

  taken_named : self_named image self ≡ true
  unfolding params_hold all_true
  taken_named = and_left (self_named image self) _ held

  taken_long : length bindings ≡ binding_count image
  unfolding params_hold all_true bindings_hold
  taken_long =
      let rest = and_left (bindings_hold (binding_count image) c bindings) _ (and_right (self_named image self) _ held) in
      eqb-true (length bindings) (binding_count image) (and_left (eqb (length bindings) (binding_count image)) (all_in (binding_local_holds c) bindings) rest)

  -- When all locals are made, self's binding has self's own local.
  pub self_has_its_own_local : (made : Declared) → declare image self (params_of words) (record { state = decode b c; bindings = bindings }) ≡ done made →
      SelfHas self made.bindings (length (decode b c).locals)
  self_has_its_own_local made e = (self_has image self (params_of words) bindings taken_named taken_long taken_apart (ctx_of b c (zeros 512)) made e).0

  -- the walk with the step for self is the one without it
  same_walk : lower_with_self image self (params_of words) bindings (ctx_of b c (zeros 512)) current ≡ lower_params_and_bindings image self (params_of words) bindings (ctx_of b c (zeros 512)) current
  same_walk = same_lowering image self (params_of words) bindings taken_named taken_long taken_apart (ctx_of b c (zeros 512)) current

-- two tests before what is the same where both hold
guarded : {A : Type 0} (s t u v : Bool) (x y z w : A) → (t ≡ true → v ≡ true → x ≡ y) → cond (s && t) (cond (u && v) x z) w ≡ cond (s && t) (cond (u && v) y z) w
guarded true true true true x y z w f = f refl refl
guarded true true true false x y z w f = refl
guarded true true false v x y z w f = refl
guarded true false u v x y z w f = refl
guarded false t u v x y z w f = refl

-- The call with that step is the call without it, whatever it is handed.
pub the_step_for_self_has_no_input : (image words : List ℕ) (self : SelfParam) (bindings : List ℕ) (b : Body) (c : Counts) (current : BasicBlockId) →
    call_with_self image words self bindings b c current ≡ params_call image words self bindings b c current
unfolding call_with_self params_call call
the_step_for_self_has_no_input image words self bindings b c current =
    guarded (valid image) (list_holds image self words) (body_taken image b c) (params_hold image self bindings b.blocks c current) _ _ bad_call bad_image (λ list names.
    ap by_walk (same_walk image words self bindings b c current list names))
