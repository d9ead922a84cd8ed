-- Parameters on values: when they fit, what they bind, and a run through them. Assumes nothing: these are definitions.
use Rattle.std.specs.Prelude.{Some, None}
use Rattle.std.specs.Prelude.{ℕ, ◌+◌, ◌<◌, ◌≡◌, Bool, true, false, cond, ◌&&◌, List, [], ◌∷◌, ◌++◌, map, eqb, length, get_or, drop}
use Rattle.refusals.specs.Refusals.{Result, done, stopped}
use Rattle.image.specs.declared.kinds.BindingMode.{BindingMode}
use Rattle.image.specs.Tables.{binding_count}
use Rattle.image.specs.Lists.{distinct}
use Rattle.image.specs.Valid.{valid}
use Rattle.image.specs.Tree.{Pat, PatOpt, no, sub, tree}
use Rattle.mir.specs.declared.BasicBlockId.{BasicBlockId}
use Rattle.state.specs.State.{counts_of}
use Rattle.views.specs.Views.{Path, Line, Mir}
use Rattle.pattern_matching.specs.Walking.{Ctx}
use Rattle.handed.specs.Handed.{bindings_hold}
use Rattle.params_spec.specs.Results.{SelfParam}
use Rattle.params_spec.specs.Params.{Param, Declared, ParamsOut, declare}
use Rattle.params_spec.specs.Calls.{params_named, self_named}
use Rattle.cases_spec.specs.Cases.{if_bind}
use Rattle.growth.specs.Opened.{Starts}
use Rattle.meaning.specs.Values.{Value, value_fits}
use Rattle.meaning.specs.Running.{Env, value, Run}
use Rattle.meaning.specs.Matching.{matches, Bound}
use Rattle.meaning.specs.Binding.{binds}
use Rattle.meaning.specs.Fit.{bound_in, fits}
use Rattle.correctness.specs.Demand2.{held_after, Distinct}
use Rattle.param_runs.specs.Returned.{own_local}

-- a local as a place
abbrev pub whole : ℕ → Path
whole l = record { local = l; elems = [] }

-- no subpattern, by value, behind no reference
abbrev pub binds_whole : PatOpt → BindingMode → ℕ → Bool
binds_whole no BindingMode.Value derefs = eqb derefs 0
binds_whole no BindingMode.Ref derefs = false
binds_whole no BindingMode.RefMut derefs = false
binds_whole no BindingMode.Unknown derefs = false
binds_whole (sub s) how derefs = false

-- a plain `x`, which binds the value itself
unfoldable pub plain : Pat → Bool
plain pat = if_bind pat (λ h b s how. binds_whole s how h.derefs) false

module _ (image : List ℕ) where
  -- a parameter fits, whose local is l: one that needs nothing is a plain `x`, and any other one is a pattern that fits
  unfoldable pub pattern_fits : List ℕ → Pat → ℕ → ℕ → Bool
  pattern_fits bindings pat l t = cond (own_local bindings pat l) (plain pat) (fits image bindings l t pat)

  -- and its value is of its type, and matches
  unfoldable pub param_fits : List ℕ → Param → ℕ → Value → Bool
  param_fits bindings q l v = pattern_fits bindings (tree image q.pattern) l q.ty && value_fits image v q.ty && matches image (tree image q.pattern) v

  -- each parameter has its value; the local of the first is l, and the others follow
  unfoldable pub params_fit : List ℕ → List Param → ℕ → List Value → Bool
  params_fit bindings [] l [] = true
  params_fit bindings [] l (v ∷ vs) = false
  params_fit bindings (q ∷ qs) l [] = false
  params_fit bindings (q ∷ qs) l (v ∷ vs) = param_fits bindings q l v && params_fit bindings qs (l + 1) vs

  -- with self's value before the others, if there is one
  unfoldable pub all_fit : List ℕ → SelfParam → List Param → ℕ → List Value → Bool
  all_fit bindings None params l vs = params_fit bindings params l vs
  all_fit bindings (Some (b, ty)) params l [] = false
  all_fit bindings (Some (b, ty)) params l (v ∷ vs) = params_fit bindings params (l + 1) vs

  -- what the parameters bind, by the Reference, each of its own value
  unfoldable pub params_bind : List Param → ℕ → List Value → List Bound
  params_bind [] l vs = []
  params_bind (q ∷ qs) l [] = []
  params_bind (q ∷ qs) l (v ∷ vs) = binds image (tree image q.pattern) (whole l) v ++ params_bind qs (l + 1) vs

  -- self binds its value
  unfoldable pub bound_by : SelfParam → List Param → ℕ → List Value → List Bound
  bound_by None params l vs = params_bind params l vs
  bound_by (Some (b, ty)) params l [] = []
  bound_by (Some (b, ty)) params l (v ∷ vs) = record { binding = b.0; what = value v } ∷ params_bind params (l + 1) vs

  -- the bindings of the parameters, by their numbers
  unfoldable pub params_bound : List Param → List ℕ
  params_bound [] = []
  params_bound (q ∷ qs) = map (λ x. x.binding) (bound_in image (tree image q.pattern)) ++ params_bound qs

  -- self's
  abbrev pub self_bound : SelfParam → List ℕ
  self_bound None = []
  self_bound (Some (b, ty)) = b.0 ∷ []

  -- no binding stands in two parameters
  abbrev pub bindings_differ : SelfParam → List Param → Bool
  bindings_differ self params = distinct (self_bound self ++ params_bound params)

-- the locals from l on hold the values
abbrev pub HeldFrom : Env → ℕ → List Value → Type 0
HeldFrom env l [] = Unit
HeldFrom env l (v ∷ vs) = (env l ≡ value v) × HeldFrom env (l + 1) vs

-- A run through values: for each of them a run in which the next local holds it, from where the one before stopped; the last list has the blocks that all of
-- them entered. One that needs nothing stops where it starts.
pub data Through (image : List ℕ) (m : Mir) : ℕ → List Value → ℕ → List Line → Env → ℕ → List Line → Env → List ℕ → Type 0 where
  end : {l b : ℕ} {lines : List Line} {env : Env} → Through image m l [] b lines env b lines env []
  next : {l b b₁ b₂ : ℕ} {v : Value} {vs : List Value} {lines lines₁ lines₂ : List Line} {env env₁ env₂ : Env} {entered entered₁ : List ℕ} → env l ≡ value v →
      Run (record { image = image; root = whole l; here = v }) m b lines env b₁ lines₁ env₁ entered → Through image m (l + 1) vs b₁ lines₁ env₁ b₂ lines₂ env₂ entered₁ →
      Through image m l (v ∷ vs) b lines env b₂ lines₂ env₂ (entered ++ entered₁)

-- how many locals there are when all are made
abbrev pub made_count : Result Declared → ℕ
made_count (done d) = length d.state.locals
made_count (stopped e) = 0

-- what a call is handed that neither number 1 nor number 2 refuses
pub record Handed (image : List ℕ) (self : SelfParam) (params : List Param) (bindings : List ℕ) (ctx : Ctx) (current : BasicBlockId) : Type 0 where
  pub image_valid : valid image ≡ true
  -- an image is bytes
  pub image_bytes : (i : ℕ) → get_or image i 0 < 256
  pub params_named_lem : params_named image params ≡ true
  pub self_named_lem : self_named image self ≡ true
  pub bindings_hold_lem : bindings_hold (binding_count image) (counts_of ctx.state) bindings ≡ true
  pub starts : Starts ctx current None

-- The run through the values in the body M, from the block current behind the lines that there were, comes to the end of the block returned and enters no block
-- twice. Then every local that there was before the first parameter was lowered holds what all parameters bind, or what it held.
pub record ComesThrough (image : List ℕ) (self : SelfParam) (params : List Param) (bindings : List ℕ) (ctx : Ctx) (current : BasicBlockId) (r : ParamsOut) (M : Mir) (vs : List Value) (env : Env) : Type 0 where
  -- what the locals hold then
  pub env' : Env
  pub entered : List ℕ
  pub through : Through image M (length ctx.state.locals) vs current.0 (drop (length ctx.state.statements) M.lines) env
      r.then.0 (drop (length r.ctx.state.statements) M.lines) env' entered
  pub once : Distinct (current.0 ∷ entered)
  pub locals : (l : ℕ) → l < made_count (declare image self params (record { state = ctx.state; bindings = bindings })) →
      env' l ≡ held_after r.bindings (bound_by image self params (length ctx.state.locals) vs) l (env l)
