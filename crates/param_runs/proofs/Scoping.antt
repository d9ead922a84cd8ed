-- A list of parameters leaves a local that stands in the scopes' entries at most once so: their own locals are new, and so are recorded though no live mark is made. Assumes nothing.
use Rattle.std.specs.Prelude.{Some, None}
use Prim.Native.Nat.{ℕ, zero, suc, ◌+◌, ◌≤◌, ◌<◌}
use native.Mathlib.Omega.{arith}
use mathlib.Core.Path.{◌≡◌, refl, sym, subst}
use mathlib.Core.Bool.{Bool, true, false, cond, ◌&&◌}
use mathlib.Core.List.{List, [], ◌∷◌, ◌++◌}
use lib.Dec.{eqb, ltb}
use lib.ListN.{length, get_or, set, length-append}
use Rattle.refusals.specs.declared.MirLowerError.{MirLowerError}
use Rattle.refusals.specs.Refusals.{done, stopped, and_then}
use Rattle.image.specs.Tables.{binding_count}
use Rattle.image.specs.Types.{binding_of}
use Rattle.image.specs.Tree.{tree}
use Rattle.mir.specs.declared.BasicBlockId.{BasicBlockId}
use Rattle.mir.specs.declared.blocks.Terminator.{Terminator}
use Rattle.mir.specs.Locals.{local_limit}
use Rattle.mir.specs.Scopes.{entry_limit}
use Rattle.state.specs.State.{State}
use Rattle.state.specs.Steps.{within, next_local, new_local, push_entry, try_local, try_entry}
use Rattle.lower_spec.specs.Results.{OptBlock}
use Rattle.lower_spec.specs.Recorded.{OncePerLocal}
use Rattle.pattern_matching.specs.Walking.{Ctx, Out, ok, with_state, local_place}
use Rattle.params_spec.specs.Results.{SelfParam}
use Rattle.params_spec.specs.Params.{Param, Declared, ParamsOut, param_local, declare_self, declare_param, declare_params, declare_binding, declare_bindings, declare, shut_else, lower_param, lower_params, self_count, lower_params_and_bindings}
use Rattle.counting.proofs.Holding.{Gives, gives, stops, gives_then}
use Rattle.growth.proofs.Walks.{ok_is, walked}
use Rattle.named.specs.Named.{NamedBelow, WordsBelow}
use Rattle.named.proofs.Recording.{once_made}
use Rattle.named.proofs.Keeping.{Kept, kept_start, kept_terminator, guarded, named_local, entered_local}
use Rattle.named.proofs.Leaving.{same_once}
use Rattle.named.proofs.Lowered.{match_kept}
use Rattle.param_runs.proofs.Owning.{param_case}
use Rattle.param_runs.proofs.Declaring.{self_types, param_types, makes_count, all_made}
use Rattle.param_runs.proofs.Stepping.{steps}
use Rattle.param_runs.proofs.Runs.{types_count}

-- nothing names a local that there is not, and a local stands in the entries at most once if it did in those of a state before
abbrev Scoped : State → State → Type 0
Scoped st st₁ = NamedBelow st₁ × OncePerLocal st st₁

-- the same of what the making of locals carries along
abbrev ScopedIn : State → Declared → Type 0
ScopedIn st d = Scoped st d.state

-- one step after another
scoped_seq : (st st₁ st₂ : State) → OncePerLocal st st₁ → Scoped st₁ st₂ → Scoped st st₂
scoped_seq st st₁ st₂ f g = (g.0, λ l few. g.1 l (f l few))

-- a step within a limit
scoped_within : (b : Bool) (st st₁ : State) → Scoped st st₁ → Gives (Scoped st) (within b st₁)
scoped_within true st st₁ h = gives (Scoped st) st₁ h
scoped_within false st st₁ h = stops (Scoped st) MirLowerError.Limit

-- a local that enters no scope
scoped_local : (st : State) (ty : ℕ) → NamedBelow st → Gives (Scoped st) (try_local st ty)
unfolding try_local new_local
scoped_local st ty h = scoped_within (ltb (length st.locals) local_limit) st (new_local st ty) (named_local st ty h, same_once st (new_local st ty) refl)

-- a parameter's local
scoped_param_local : (st : State) (ty : ℕ) → NamedBelow st → Gives (Scoped st) (param_local st ty)
unfolding param_local try_local try_entry
scoped_param_local st ty h = by (ltb (length st.locals) local_limit)
  where
    by : (b : Bool) → Gives (Scoped st) (and_then (within b (new_local st ty)) (λ st₁. cond (eqb (length st₁.scopes) 0) (stopped MirLowerError.NoScope) (try_entry st₁ (next_local st))))
    by true =
        guarded (eqb (length (new_local st ty).scopes) 0) MirLowerError.NoScope (try_entry (new_local st ty) (next_local st))
        (scoped_within (ltb (length (new_local st ty).entries) entry_limit) st (push_entry (new_local st ty) (next_local st)) (entered_local st ty h))
    by false = stops (Scoped st) MirLowerError.Limit

-- self's
scoped_self : (self : SelfParam) (d : Declared) → NamedBelow d.state → Gives (ScopedIn d.state) (declare_self self d)
unfolding declare_self
scoped_self None d h = gives (ScopedIn d.state) d (h, same_once d.state d.state refl)
scoped_self (Some (b, ty)) d h =
    gives_then {Q = ScopedIn d.state} (param_local d.state ty) _ (scoped_param_local d.state ty h) (λ st g. gives (ScopedIn d.state) _ g)

module _ (image : List ℕ) where
  -- the parameters'
  scoped_params : (qs : List Param) (d : Declared) → NamedBelow d.state → Gives (ScopedIn d.state) (declare_params image qs d)
  unfolding declare_params declare_param
  scoped_params [] d h = gives (ScopedIn d.state) d (h, same_once d.state d.state refl)
  scoped_params (q ∷ qs) d h =
      gives_then {P = ScopedIn d.state} {Q = ScopedIn d.state} (declare_param image q d) _
      (gives_then {Q = ScopedIn d.state} (param_local d.state q.ty) _ (scoped_param_local d.state q.ty h) (λ st g. gives (ScopedIn d.state) _ g)) (λ d₁ g.
      record { at = λ d₂ e. scoped_seq d.state d₁.state d₂.state g.1 ((scoped_params qs d₁ g.0).at d₂ e) })

  -- a binding's
  scoped_binding : (b : ℕ) (d : Declared) → NamedBelow d.state → Gives (ScopedIn d.state) (declare_binding image b d)
  unfolding declare_binding
  scoped_binding b d h = by ((binding_of image b).picked && eqb (get_or d.bindings b 65535) 65535)
    where
      by : (t : Bool) → Gives (ScopedIn d.state)
          (cond t (and_then (try_local d.state (binding_of image b).ty) (λ st. done (record { state = st; bindings = set d.bindings b (length d.state.locals) }))) (done d))
      by true = gives_then {Q = ScopedIn d.state} (try_local d.state (binding_of image b).ty) _ (scoped_local d.state (binding_of image b).ty h) (λ st g. gives (ScopedIn d.state) _ g)
      by false = gives (ScopedIn d.state) d (h, same_once d.state d.state refl)

  -- those from b on, so many
  scoped_bindings : (b n : ℕ) (d : Declared) → NamedBelow d.state → Gives (ScopedIn d.state) (declare_bindings image b n d)
  unfolding declare_bindings
  scoped_bindings b zero d h = gives (ScopedIn d.state) d (h, same_once d.state d.state refl)
  scoped_bindings b (suc n) d h =
      gives_then {Q = ScopedIn d.state} (declare_binding image b d) _ (scoped_binding b d h) (λ d₁ g.
      record { at = λ d₂ e. scoped_seq d.state d₁.state d₂.state g.1 ((scoped_bindings (b + 1) n d₁ g.0).at d₂ e) })

  -- all of them
  scoped_declared : (self : SelfParam) (params : List Param) (d : Declared) → NamedBelow d.state → Gives (ScopedIn d.state) (declare image self params d)
  unfolding declare
  scoped_declared self params d h =
      gives_then {Q = ScopedIn d.state} (declare_self self d) _ (scoped_self self d h) (λ d₁ g₁.
      gives_then {Q = ScopedIn d.state} (declare_params image params d₁) _ (scoped_params params d₁ g₁.0) (λ d₂ g₂.
      record {
        at = λ d₃ e.
            scoped_seq d.state d₁.state d₃.state g₁.1
            (scoped_seq d₁.state d₂.state d₃.state g₂.1 ((scoped_bindings 0 (binding_count image) d₂ g₂.0).at d₃ e));
      }))

-- an else that is shut
kept_shut : {s₀ : State} {n : ℕ} (ctx : Ctx) (els : OptBlock) → Kept s₀ n ctx.state → Kept s₀ n (shut_else ctx els).state
unfolding shut_else
kept_shut ctx None k = k
kept_shut ctx (Some b) k = kept_terminator ctx.state b Terminator.Unreachable tt k

module _ {s₀ : State} {n : ℕ} (image bindings : List ℕ) (below : WordsBelow bindings n) where
  -- a parameter
  param_kept : (p l : ℕ) (ctx : Ctx) (current : BasicBlockId) (r : Out) → l < n → Kept s₀ n ctx.state → lower_param image bindings p l ctx current ≡ ok r → Kept s₀ n r.ctx.state
  unfolding local_place
  param_kept p l ctx current r there k =
      param_case image bindings l ctx current (λ (r : Out). Kept s₀ n r.ctx.state) r p (λ own. k)
      (λ r₁ other e. kept_shut r₁.ctx r₁.else (match_kept image bindings below (tree image p) ctx current None (local_place (record { 0 = l })) r₁ there k e))

  -- each parameter in order
  params_kept : (qs : List Param) (l : ℕ) (ctx : Ctx) (current : BasicBlockId) (r : Out) → l + length qs ≤ n → Kept s₀ n ctx.state → lower_params image bindings qs l ctx current ≡ ok r →
      Kept s₀ n r.ctx.state
  unfolding lower_params
  params_kept [] l ctx current r there k e = subst (λ (r : Out). Kept s₀ n r.ctx.state) (ok_is e) k
  params_kept (q ∷ qs) l ctx current r there k e =
      walked (lower_param image bindings q.pattern l ctx current) _ e (λ r₁ e₁ e₂.
      params_kept qs (l + 1) r₁.ctx r₁.then r (omega (arith, there)) (param_kept q.pattern l ctx current r₁ (omega (arith, there)) k e₁) e₂)

-- self has as many locals as types
self_count_lem : (self : SelfParam) → length (self_types self) ≡ self_count self
unfolding self_count
self_count_lem None = refl
self_count_lem (Some (b, ty)) = refl

-- The theorem: from a state in which nothing names a local that there is not, with bindings' locals that there are.
pub params_once : (image : List ℕ) (self : SelfParam) (params : List Param) (bindings : List ℕ) (ctx : Ctx) (current : BasicBlockId) (r : ParamsOut) → NamedBelow ctx.state →
    WordsBelow bindings (length ctx.state.locals) → lower_params_and_bindings image self params bindings ctx current ≡ ok r → OncePerLocal ctx.state r.ctx.state
params_once image self params bindings ctx current r named below e =
    let d : Declared = record { state = ctx.state; bindings = bindings } in
    let s = steps image self params bindings ctx current r e in
    let made = s.made in
    let m = (all_made image self params d).at made s.declared in
    let h = (scoped_declared image self params d named).at made s.declared in
    let count = makes_count m.makes in
    let a = length-append (self_types self) (param_types params ++ m.others) in
    let b = length-append (param_types params) m.others in
    let c = self_count_lem self in
    let t = types_count params in
    let k = params_kept image made.bindings (m.words below) params (length ctx.state.locals + self_count self) (with_state ctx made.state) current s.end
    (omega (arith, count, a, b, c, t)) (kept_start made.state h.0) s.params_lowered in
    subst (λ (x : ParamsOut). OncePerLocal ctx.state x.ctx.state) (sym s.is) (λ l few. once_made k.made l (h.1 l few))
