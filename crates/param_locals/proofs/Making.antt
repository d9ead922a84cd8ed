-- The locals of self and of the parameters: steps that make locals follow one another. Assumes nothing.
use Rattle.std.specs.Prelude.{Some, None, Ok, Err}
use Prim.Native.Nat.{ℕ, ◌+◌, ◌-◌, ◌<◌}
use native.Mathlib.Omega.{arith}
use mathlib.Core.Path.{◌≡◌, refl, sym, ap, ◌∙◌}
use mathlib.Core.Bool.{true}
use mathlib.Core.Logic.{inl}
use mathlib.Core.List.{List}
use lib.ListN.{length, set}
use borrow.Author.Tests.{ltb-true}
use lib.Dec.{ltb}
use Rattle.refusals.specs.declared.MirLowerError.{MirLowerError}
use Rattle.refusals.specs.Refusals.{Result, done, and_then}
use Rattle.image.specs.declared.BindingId.{BindingId}
use Rattle.image.specs.declared.Tables.{Tables}
use Rattle.image.specs.Tables.{type_count, binding_count}
use Rattle.image.specs.Tree.{tree}
use Rattle.image.proofs.Bools.{and_left}
use Rattle.mir.specs.declared.Counts.{Counts}
use Rattle.state.specs.Results.{Stepped}
use Rattle.state.specs.State.{Body, decode}
use Rattle.state.proofs.Answering.{local_count, then, stops, no_step}
use Rattle.pattern_walk_spec.proofs.Following.{answers_by}
use Rattle.params_spec.specs.Results.{SelfParam}
use Rattle.params_spec.specs.Params.{Param, Declared, param_local, plain_binding, bound_to, declare_self, declare_param, declare_params, declare_bindings, declare}
use Rattle.params_spec.specs.Calls.{params_from, param_count, params_of, list_formed, self_named}
use Rattle.body_tables.specs.Promises.{Adds}
use Rattle.param_locals.specs.Declaring.{Declarable, SelfBound, declared_of, Declares}
use Rattle.param_lists.proofs.Listing.{param_at, params_none, params_more, Listed, list_taken, listed_behind}

-- nothing is done
pub declares_nothing : {c : Counts} {m : List ℕ} {b : Body} → Declares done c m b (Ok c) m b
declares_nothing {c = c} {m = m} {b = b} = record { answers = λ current R. no_step (declared_of b c m) R }

module _ {f : Declared → Result Declared} {c : Counts} {m₀ : List ℕ} {b₀ : Body} where
  -- the same by another definition
  pub declares_by : {g : Declared → Result Declared} {r : Stepped} {m : List ℕ} {b : Body} → ((d : Declared) → f d ≡ g d) → Declares f c m₀ b₀ r m b → Declares g c m₀ b₀ r m b
  declares_by same D = record { answers = λ current R. answers_by (same _) (D.answers current R) }

  -- a step that refuses
  pub declares_stops : {err : MirLowerError} {m : List ℕ} {b : Body} (g : Declared → Result Declared) → Declares f c m₀ b₀ (Err err) m b →
      Declares (λ d. and_then (f d) g) c m₀ b₀ (Err err) m b
  declares_stops g D = record { answers = λ current R. stops g (D.answers current R) }

  -- a step, and then what follows it
  pub declares_then : {c₁ : Counts} {m₁ m : List ℕ} {b₁ b : Body} {r : Stepped} (g : Declared → Result Declared) → Declares f c m₀ b₀ (Ok c₁) m₁ b₁ → Declares g c₁ m₁ b₁ r m b →
      Declares (λ d. and_then (f d) g) c m₀ b₀ r m b
  declares_then g D S = record { answers = λ current R. let F = D.answers current R in then g F (inl refl) (S.answers current F.goes.0) }

-- a parameter's local, after which `bound` has the bindings' locals
abbrev makes : (List ℕ → ℕ → List ℕ) → ℕ → Declared → Result Declared
makes bound ty d = and_then (param_local d.state ty) (λ st. done (record { state = st; bindings = bound d.bindings (length d.state.locals) }))

module _ (bound : List ℕ → ℕ → List ℕ) (ty : ℕ) {c : Counts} {m₀ : List ℕ} {b₀ b : Body} where
  -- it is refused
  pub local_refused : {err : MirLowerError} {m : List ℕ} → Adds (λ st. param_local st ty) c b₀ (Err err) b → Declares (makes bound ty) c m₀ b₀ (Err err) m b
  local_refused A = record { answers = λ current R. stops (λ st. done (record { state = st; bindings = bound m₀ (length (decode b₀ c).locals) })) (A current R) }

  -- it is made
  pub local_bound : {c₁ : Counts} {m : List ℕ} → Adds (λ st. param_local st ty) c b₀ (Ok c₁) b → m ≡ bound m₀ c.locals → Declares (makes bound ty) c m₀ b₀ (Ok c₁) m b
  local_bound {c₁ = c₁} {m = m} A is =
      record {
        answers = λ current R.
            let F = A current R in
            let same : m ≡ bound m₀ (length (decode b₀ c).locals) = is ∙ sym (ap (bound m₀) (local_count b₀ c R)) in
            then (λ st. done (record { state = st; bindings = bound m₀ (length (decode b₀ c).locals) })) F (inl refl)
            (answers_by (λ i. done (record { state = decode b c₁; bindings = same i })) (no_step (declared_of b c₁ m) F.goes.0));
      }

-- `declare_self`
pub self_none : {c : Counts} {m : List ℕ} {b : Body} → Declares (declare_self None) c m b (Ok c) m b
unfolding declare_self
self_none = declares_nothing

module _ (n : BindingId) (ty : ℕ) {c : Counts} {m₀ : List ℕ} {b₀ b : Body} where
  pub self_refused : {err : MirLowerError} {m : List ℕ} → Adds (λ st. param_local st ty) c b₀ (Err err) b → Declares (declare_self (Some (n, ty))) c m₀ b₀ (Err err) m b
  unfolding declare_self
  self_refused A = local_refused (λ m l. set m n.0 l) ty A

  pub self_declared : {c₁ : Counts} {m : List ℕ} → Adds (λ st. param_local st ty) c b₀ (Ok c₁) b → m ≡ set m₀ n.0 c.locals →
      Declares (declare_self (Some (n, ty))) c m₀ b₀ (Ok c₁) m b
  unfolding declare_self
  self_declared A is = local_bound (λ m l. set m n.0 l) ty A is

-- self's binding is there
pub self_there : (image : List ℕ) (self : SelfParam) {n : ℕ} → self_named image self ≡ true → n ≡ binding_count image → SelfBound n self
unfolding self_named
self_there image None h long = tt
self_there image (Some (b, ty)) h long = rw long (ltb-true _ _ (and_left (ltb b.0 (binding_count image)) (ltb ty (type_count image)) h))

-- `declare_param`
module _ (image : List ℕ) (q : Param) {c : Counts} {m₀ : List ℕ} {b₀ b : Body} where
  pub param_refused : {err : MirLowerError} {m : List ℕ} → Adds (λ st. param_local st q.ty) c b₀ (Err err) b → Declares (declare_param image q) c m₀ b₀ (Err err) m b
  unfolding declare_param
  param_refused A = local_refused (λ m l. bound_to m (plain_binding (tree image q.pattern)) l) q.ty A

  pub param_declared : {c₁ : Counts} {m : List ℕ} → Adds (λ st. param_local st q.ty) c b₀ (Ok c₁) b → m ≡ bound_to m₀ (plain_binding (tree image q.pattern)) c.locals →
      Declares (declare_param image q) c m₀ b₀ (Ok c₁) m b
  unfolding declare_param
  param_declared A is = local_bound (λ m l. bound_to m (plain_binding (tree image q.pattern)) l) q.ty A is

-- the invariant of the loop over the parameters: what those from the word k on come to from now is what all come to from the start
pub record ParamsGoing (image : List ℕ) (tables : Tables) (words : List ℕ) (c₀ : Counts) (m₀ : List ℕ) (b₀ : Body) (c : Counts) (m : List ℕ) (b : Body) (k left : ℕ) : Type 0 where
  pub declarable : Declarable image tables m
  pub listed : Listed image words k left
  pub rest : {r : Stepped} {m' : List ℕ} {b' : Body} → Declares (declare_params image (params_from words k left)) c m b r m' b' → Declares (declare_params image (params_of words)) c₀ m₀ b₀ r m' b'

-- a loop over a range: at its turns some are left
pub turns_left : {end i : ℕ} → i < end → end - i ≡ 0 → ⊥
turns_left h e = omega arith

-- it holds at the start
pub params_begin : {image : List ℕ} {tables : Tables} {words : List ℕ} {c : Counts} {m : List ℕ} (b : Body) → Declarable image tables m → list_formed image words ≡ true →
    ParamsGoing image tables words c m b c m b 0 (param_count words)
params_begin {image = image} {words = words} b A h = record { declarable = A; listed = list_taken image words h; rest = λ D. D }

-- as many words as before
pub still_declarable : {image : List ℕ} {tables : Tables} {m m₁ : List ℕ} → Declarable image tables m → length m₁ ≡ length m → Declarable image tables m₁
still_declarable A ms = record { image_valid = A.image_valid; whole = A.whole; bindings = ms ∙ A.bindings }

module _ {image : List ℕ} {tables : Tables} {words : List ℕ} {c₀ : Counts} {m₀ : List ℕ} {b₀ : Body} {c : Counts} {m : List ℕ} {b : Body} {k left : ℕ}
    (G : ParamsGoing image tables words c₀ m₀ b₀ c m b k left) where
  -- after the loop
  pub params_end : left ≡ 0 → Declares (declare_params image (params_of words)) c₀ m₀ b₀ (Ok c) m b
  unfolding declare_params
  params_end none = G.rest (rw (params_none words k left none) declares_nothing)

  module _ (some : left ≡ 0 → ⊥) where
    -- the parameter at the word k, and then those behind it
    from_first : {r : Stepped} {m' : List ℕ} {b' : Body} →
        Declares (λ d. and_then (declare_param image (param_at words k) d) (λ d₁. declare_params image (params_from words (k + 2) (left - 1)) d₁)) c m b r m' b' →
        Declares (declare_params image (params_from words k left)) c m b r m' b'
    unfolding declare_params
    from_first D = rw (params_more words k left G.listed.fits some) D

    -- the parameter is refused
    pub param_stops : {err : MirLowerError} {m₁ : List ℕ} {b₁ : Body} → Declares (declare_param image (param_at words k)) c m b (Err err) m₁ b₁ →
        Declares (declare_params image (params_of words)) c₀ m₀ b₀ (Err err) m₁ b₁
    param_stops D = G.rest (from_first (declares_stops (λ d₁. declare_params image (params_from words (k + 2) (left - 1)) d₁) D))

    -- one parameter less
    pub params_again : {c₁ : Counts} {m₁ : List ℕ} {b₁ : Body} → length m₁ ≡ length m → Declares (declare_param image (param_at words k)) c m b (Ok c₁) m₁ b₁ →
        ParamsGoing image tables words c₀ m₀ b₀ c₁ m₁ b₁ (k + 2) (left - 1)
    params_again ms D =
        record {
          declarable = still_declarable G.declarable ms;
          listed = listed_behind G.listed some;
          rest = λ S. G.rest (from_first (declares_then (λ d₁. declare_params image (params_from words (k + 2) (left - 1)) d₁) D S));
        }

-- what follows self
abbrev others : List ℕ → List ℕ → Declared → Result Declared
others image words d₁ = and_then (declare_params image (params_of words) d₁) (λ d₂. declare_bindings image 0 (binding_count image) d₂)

-- `declare`
module _ (image : List ℕ) (self : SelfParam) (words : List ℕ) {c : Counts} {m₀ : List ℕ} {b₀ : Body} where
  pub all_no_self : {err : MirLowerError} {m : List ℕ} {b : Body} → Declares (declare_self self) c m₀ b₀ (Err err) m b →
      Declares (declare image self (params_of words)) c m₀ b₀ (Err err) m b
  unfolding declare
  all_no_self D = declares_stops (others image words) D

  module _ {c₁ : Counts} {m₁ : List ℕ} {b₁ : Body} (D : Declares (declare_self self) c m₀ b₀ (Ok c₁) m₁ b₁) where
    pub all_no_param : {err : MirLowerError} {m : List ℕ} {b : Body} → Declares (declare_params image (params_of words)) c₁ m₁ b₁ (Err err) m b →
        Declares (declare image self (params_of words)) c m₀ b₀ (Err err) m b
    unfolding declare
    all_no_param E = declares_then (others image words) D (declares_stops (λ d₂. declare_bindings image 0 (binding_count image) d₂) E)

    pub all_declared : {c₂ : Counts} {m₂ m : List ℕ} {b₂ b : Body} {r : Stepped} → Declares (declare_params image (params_of words)) c₁ m₁ b₁ (Ok c₂) m₂ b₂ →
        Declares (declare_bindings image 0 (binding_count image)) c₂ m₂ b₂ r m b → Declares (declare image self (params_of words)) c m₀ b₀ r m b
    unfolding declare
    all_declared E B = declares_then (others image words) D (declares_then (λ d₂. declare_bindings image 0 (binding_count image) d₂) E B)
