-- Parameters and receivers: `lower_params_and_bindings` of lower.rs. Assumes nothing: these are definitions.
use Rattle.std.specs.Prelude.{Some, None}
use Rattle.std.specs.Prelude.{ℕ, zero, suc, ◌+◌, Bool, true, false, cond, ◌&&◌, List, [], ◌∷◌, eqb, length, get_or, set}
use Rattle.std.proofs.Math.Option.{Option, none, some}
use Rattle.refusals.specs.declared.MirLowerError.{MirLowerError}
use Rattle.refusals.specs.Refusals.{Result, done, stopped, and_then, no_pattern}
use Rattle.image.specs.declared.kinds.BindingAnnotation.{BindingAnnotation}
use Rattle.image.specs.Tables.{binding_count}
use Rattle.image.specs.Types.{binding_of}
use Rattle.image.specs.Tree.{Pat, PatOpt, no, sub, tree}
use Rattle.mir.specs.declared.BasicBlockId.{BasicBlockId}
use Rattle.mir.specs.declared.blocks.Terminator.{Terminator}
use Rattle.state.specs.State.{State}
use Rattle.state.specs.Steps.{next_local, set_terminator, try_local, try_entry}
use Rattle.lower_spec.specs.Results.{OptBlock}
use Rattle.lower_spec.specs.Temps.{binding_local}
use Rattle.pattern_matching.specs.Walking.{Ctx, Out, Walk, next, step, out, with_state, local_place}
use Rattle.pattern_matching.specs.Walking.{ok as gives}
use Rattle.pattern_matching.specs.Patterns.{pattern_match}
use Rattle.params_spec.specs.Results.{SelfParam}

-- a parameter: the numbers of its pattern and of its type
pub record Param : Type 0 where
  pub pattern : ℕ
  pub ty : ℕ

-- what the making of locals carries along: the body and its scopes, and the bindings' locals, in which 65535 stands for none
pub record Declared : Type 0 where
  pub state : State
  pub bindings : List ℕ

-- a parameter's local: the next one, of the parameter's type, entered into the last scope
unfoldable pub param_local : State → ℕ → Result State
param_local st ty =
    and_then (try_local st ty) (λ st₁. cond (eqb (length st₁.scopes) 0) (stopped MirLowerError.NoScope) (try_entry st₁ (next_local st)))

-- the annotations of a binding by value: "annotation 0 or 1"
unfoldable pub by_value : BindingAnnotation → Bool
by_value BindingAnnotation.Unannotated = true
by_value BindingAnnotation.Mutable = true
by_value BindingAnnotation.Other = false
by_value BindingAnnotation.Unknown = false

-- a plain parameter `x`: a Bind by value with no subpattern
unfoldable pub plain_bind : ℕ → PatOpt → BindingAnnotation → Option ℕ
plain_bind b no annotation = cond (by_value annotation) (some b) none
plain_bind b (sub s) annotation = none

-- the binding of a plain parameter
unfoldable pub plain_binding : Pat → Option ℕ
plain_binding (Pat.Missing h) = none
plain_binding (Pat.Rest h) = none
plain_binding (Pat.NotNull h) = none
plain_binding (Pat.Wild h) = none
plain_binding (Pat.Tuple h args ellipsis) = none
plain_binding (Pat.Or h alts) = none
plain_binding (Pat.Record h fields args v) = none
plain_binding (Pat.Range h start end halfOpen) = none
plain_binding (Pat.Slice h prefix rest suffix) = none
plain_binding (Pat.Path h target) = none
plain_binding (Pat.Lit h operand) = none
plain_binding (Pat.Bind h b s how annotation) = plain_bind b s annotation
plain_binding (Pat.TupleStruct h args ellipsis v) = none
plain_binding (Pat.Ref h s) = none
plain_binding (Pat.Expr h) = none
plain_binding (Pat.Box h) = none
plain_binding (Pat.Deref h) = none

-- the bindings' locals, where a binding has the local l from now on
unfoldable pub bound_to : List ℕ → Option ℕ → ℕ → List ℕ
bound_to bindings none l = bindings
bound_to bindings (some b) l = set bindings b l

-- a local for self; its binding is that local
unfoldable pub declare_self : SelfParam → Declared → Result Declared
declare_self None d = done d
declare_self (Some (b, ty)) d =
    and_then (param_local d.state ty) (λ st. done (record { state = st; bindings = set d.bindings b.0 (length d.state.locals) }))

-- a local for a parameter; the binding of a plain one is that local
unfoldable pub declare_param : List ℕ → Param → Declared → Result Declared
declare_param image q d =
    and_then (param_local d.state q.ty) (λ st.
    done (record { state = st; bindings = bound_to d.bindings (plain_binding (tree image q.pattern)) (length d.state.locals) }))

-- for each parameter, in order
unfoldable pub declare_params : List ℕ → List Param → Declared → Result Declared
declare_params image [] d = done d
declare_params image (q ∷ qs) d = and_then (declare_param image q d) (λ d₁. declare_params image qs d₁)

-- a local for a binding that is picked and has none, of the binding's type; it enters no scope
unfoldable pub declare_binding : List ℕ → ℕ → Declared → Result Declared
declare_binding image b d =
    cond ((binding_of image b).picked && eqb (get_or d.bindings b 65535) 65535)
    (and_then (try_local d.state (binding_of image b).ty) (λ st. done (record { state = st; bindings = set d.bindings b (length d.state.locals) })))
    (done d)

-- for the bindings from b on, so many
unfoldable pub declare_bindings : List ℕ → ℕ → ℕ → Declared → Result Declared
declare_bindings image b zero d = done d
declare_bindings image b (suc n) d = and_then (declare_binding image b d) (λ d₁. declare_bindings image (b + 1) n d₁)

-- all locals: self's, the parameters', and those of the other bindings
unfoldable pub declare : List ℕ → SelfParam → List Param → Declared → Result Declared
declare image self params d =
    and_then (declare_self self d) (λ d₁. and_then (declare_params image params d₁) (λ d₂. declare_bindings image 0 (binding_count image) d₂))

-- a parameter does not fail: its else becomes Unreachable
unfoldable pub shut_else : Ctx → OptBlock → Ctx
shut_else ctx None = ctx
shut_else ctx (Some b) = with_state ctx (set_terminator ctx.state b Terminator.Unreachable)

-- a lowered parameter: what follows goes on from its then
unfoldable pub shut : Walk Out → Walk Out
shut w = next w (λ r. out (shut_else r.ctx r.else) r.then None)

-- a Bind whose binding's local is the parameter's own needs nothing; document 01: p is the "parameter when its binding's local is looked up"
unfoldable pub unless_bound : List ℕ → ℕ → ℕ → ℕ → Walk Out → Walk Out → Walk Out
unless_bound bindings p b l bound other = step p (binding_local bindings b) (λ m. cond (eqb l m.0) bound other)

-- the same of a pattern of any kind
unfoldable pub unless_own : List ℕ → Pat → ℕ → Walk Out → Walk Out → Walk Out
unless_own bindings (Pat.Missing h) l bound other = other
unless_own bindings (Pat.Rest h) l bound other = other
unless_own bindings (Pat.NotNull h) l bound other = other
unless_own bindings (Pat.Wild h) l bound other = other
unless_own bindings (Pat.Tuple h args ellipsis) l bound other = other
unless_own bindings (Pat.Or h alts) l bound other = other
unless_own bindings (Pat.Record h fields args v) l bound other = other
unless_own bindings (Pat.Range h start end halfOpen) l bound other = other
unless_own bindings (Pat.Slice h prefix rest suffix) l bound other = other
unless_own bindings (Pat.Path h target) l bound other = other
unless_own bindings (Pat.Lit h operand) l bound other = other
unless_own bindings (Pat.Bind h b s how annotation) l bound other = unless_bound bindings h.number b l bound other
unless_own bindings (Pat.TupleStruct h args ellipsis v) l bound other = other
unless_own bindings (Pat.Ref h s) l bound other = other
unless_own bindings (Pat.Expr h) l bound other = other
unless_own bindings (Pat.Box h) l bound other = other
unless_own bindings (Pat.Deref h) l bound other = other

-- a parameter, whose local is l
unfoldable pub lower_param : List ℕ → List ℕ → ℕ → ℕ → Ctx → BasicBlockId → Walk Out
lower_param image bindings p l ctx current =
    unless_own bindings (tree image p) l (out ctx current None)
    (shut (pattern_match image bindings (tree image p) ctx current None (local_place (record { 0 = l }))))

-- each parameter in order; the local of the first is l, and the others follow
unfoldable pub lower_params : List ℕ → List ℕ → List Param → ℕ → Ctx → BasicBlockId → Walk Out
lower_params image bindings [] l ctx current = out ctx current None
lower_params image bindings (q ∷ qs) l ctx current =
    next (lower_param image bindings q.pattern l ctx current) (λ r. lower_params image bindings qs (l + 1) r.ctx r.then)

-- how many locals self has
unfoldable pub self_count : SelfParam → ℕ
self_count None = 0
self_count (Some (b, ty)) = 1

-- what comes of parameters: the body, the block to go on from, and the bindings' locals
pub record ParamsOut : Type 0 where
  pub ctx : Ctx
  pub then : BasicBlockId
  pub bindings : List ℕ

-- the parameters, when all locals are made: self's, or else the first parameter's, is l. Self's binding has self's own local, so nothing is left to do for self.
unfoldable pub lower_all : List ℕ → List ℕ → SelfParam → List Param → ℕ → Ctx → BasicBlockId → Walk ParamsOut
lower_all image bindings self params l ctx current =
    next (lower_params image bindings params (l + self_count self) ctx current) (λ r. gives (record { ctx = r.ctx; then = r.then; bindings = bindings }))

-- `lower_params_and_bindings`, from the block `current` on
unfoldable pub lower_params_and_bindings : List ℕ → SelfParam → List Param → List ℕ → Ctx → BasicBlockId → Walk ParamsOut
lower_params_and_bindings image self params bindings ctx current =
    step no_pattern (declare image self params (record { state = ctx.state; bindings = bindings })) (λ d.
    lower_all image d.bindings self params (length ctx.state.locals) (with_state ctx d.state) current)
