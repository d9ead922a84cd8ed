-- The locals that are made: each parameter's has the parameter's type. Assumes nothing.
use Rattle.std.specs.Prelude.{Some, None, Ok}
use Prim.Native.Nat.{ℕ, zero, suc, ◌+◌, ◌<◌}
use mathlib.Core.Path.{◌≡◌, refl, sym, ap, ◌∙◌}
use mathlib.Core.Bool.{Bool, true, false, cond, ◌&&◌}
use mathlib.Core.List.{List, [], ◌∷◌, ◌++◌, map, append-nil, append_assoc}
use native.Mathlib.Omega.{arith}
use borrow.Author.Tests.{ltb-true, lt-ltb}
use lib.Dec.{eqb, ltb}
use lib.ListN.{length, get_or, set, take, length-append, length-map, get_or-append}
use lib.Seq.{get_or-append-add, get_or-take}
use Rattle.refusals.specs.declared.MirLowerError.{MirLowerError}
use Rattle.refusals.specs.Refusals.{Result, done, stopped, and_then}
use Rattle.image.specs.Tables.{type_count, pattern_count, binding_count}
use Rattle.image.specs.Tree.{tree}
use Rattle.image.specs.Types.{binding_of}
use Rattle.image.proofs.Bools.{and_left, and_right}
use Rattle.place.specs.PlaceTypes.{Named}
use Rattle.mir.specs.declared.Counts.{Counts}
use Rattle.mir.specs.Locals.{local_ty, local_limit}
use Rattle.mir.specs.Scopes.{entry_limit}
use Rattle.state.specs.State.{Body, State, decode}
use Rattle.state.specs.Steps.{next_local, new_local, push_entry, try_local, try_entry}
use Rattle.state.specs.Promises.{Ready}
use Rattle.state.proofs.Answering.{local_count}
use Rattle.body_row_rules.specs.Bodies.{is_type_word}
use Rattle.pattern_matching.specs.Walking.{local_place}
use Rattle.pattern_calls_spec.proofs.Starting.{word_named}
use Rattle.params_spec.specs.Results.{SelfParam}
use Rattle.params_spec.specs.Params.{Param, Declared, param_local, plain_binding, bound_to, declare_self, declare_param, declare_params, declare_binding, declare_bindings, declare, self_count}
use Rattle.params_spec.specs.Calls.{params_from, param_count, params_of, params_named, list_formed}
use Rattle.param_locals.specs.Declaring.{declared_of, Declares}
use Rattle.param_lists.proofs.Listing.{list_taken}
use Rattle.params_laws.specs.Walking.{LocalsPlaced}

-- two steps that come to something: the first comes to `middle`
record Through {A B : Type 0} (first : Result A) (k : A → Result B) (b : B) : Type 0 where
  middle : A
  comes : done middle ≡ first
  goes : done b ≡ k middle

through : {A B : Type 0} (first : Result A) (k : A → Result B) {b : B} → done b ≡ and_then first k → Through first k b
through (done a) k e = record { middle = a; comes = refl; goes = e }
through (stopped x) k e = absurd (let z : ◌≡◌ {A = ℕ} 0 1 = cc in omega arith)

-- where there is room
room_ok : {A : Type 0} (room : Bool) {a b : A} (x : MirLowerError) → done b ≡ cond room (done a) (stopped x) → b ≡ a
room_ok true x e = cc
room_ok false x e = absurd (let z : ◌≡◌ {A = ℕ} 0 1 = cc in omega arith)

-- what is not refused
unless_ok : {A : Type 0} (t : Bool) (r : Result A) {b : A} (x : MirLowerError) → done b ≡ cond t (stopped x) r → done b ≡ r
unless_ok true r x e = absurd (let z : ◌≡◌ {A = ℕ} 0 1 = cc in omega arith)
unless_ok false r x e = e

-- a new local stands behind the others
new_behind : (st : State) (ty : ℕ) {st₁ : State} → done st₁ ≡ try_local st ty → st₁.locals ≡ st.locals ++ (ty ∷ [])
unfolding try_local new_local
new_behind st ty e = ap (λ (x : State). x.locals) (room_ok (ltb (length st.locals) local_limit) MirLowerError.Limit e)

-- and so does a parameter's, which an entry follows
local_behind : (st : State) (ty : ℕ) {st₁ : State} → done st₁ ≡ param_local st ty → st₁.locals ≡ st.locals ++ (ty ∷ [])
unfolding param_local try_entry push_entry
local_behind st ty {st₁ = st₁} e =
    let T = through (try_local st ty) (λ st₂. cond (eqb (length st₂.scopes) 0) (stopped MirLowerError.NoScope) (try_entry st₂ (next_local st))) e in
    let made = T.middle in
    let entered : st₁ ≡ push_entry made (next_local st) = room_ok (ltb (length made.entries) entry_limit) MirLowerError.Limit (unless_ok (eqb (length made.scopes) 0) (try_entry made (next_local st)) MirLowerError.NoScope T.goes) in
    ap (λ (x : State). x.locals) entered ∙ new_behind st ty T.comes

-- the types of self's locals
abbrev self_types : SelfParam → List ℕ
self_types None = []
self_types (Some (b, ty)) = ty ∷ []

-- the locals after self's, the parameters' and the others' are made
self_behind : (self : SelfParam) (d : Declared) {d₁ : Declared} → done d₁ ≡ declare_self self d → d₁.state.locals ≡ d.state.locals ++ self_types self
unfolding declare_self
self_behind None d {d₁ = d₁} e =
    let same : d₁ ≡ d = cc in
    ap (λ (x : Declared). x.state.locals) same ∙ sym (append-nil d.state.locals)
self_behind (Some (b, ty)) d {d₁ = d₁} e =
    let T = through (param_local d.state ty) (λ st. done (record { state = st; bindings = set d.bindings b.0 (length d.state.locals) })) e in
    let same : d₁ ≡ record { state = T.middle; bindings = set d.bindings b.0 (length d.state.locals) } = cc T.goes in
    ap (λ (x : Declared). x.state.locals) same ∙ local_behind d.state ty T.comes

param_behind : (image : List ℕ) (q : Param) (d : Declared) {d₁ : Declared} → done d₁ ≡ declare_param image q d → d₁.state.locals ≡ d.state.locals ++ (q.ty ∷ [])
unfolding declare_param
param_behind image q d {d₁ = d₁} e =
    let bound = bound_to d.bindings (plain_binding (tree image q.pattern)) (length d.state.locals) in
    let T = through (param_local d.state q.ty) (λ st. done (record { state = st; bindings = bound })) e in
    let same : d₁ ≡ record { state = T.middle; bindings = bound } = cc T.goes in
    ap (λ (x : Declared). x.state.locals) same ∙ local_behind d.state q.ty T.comes

-- the types of parameters
abbrev types : List Param → List ℕ
types qs = map (λ q. q.ty) qs

params_behind : (image : List ℕ) (qs : List Param) (d : Declared) {d₁ : Declared} → done d₁ ≡ declare_params image qs d → d₁.state.locals ≡ d.state.locals ++ types qs
unfolding declare_params
params_behind image [] d {d₁ = d₁} e =
    let same : d₁ ≡ d = cc in
    ap (λ (x : Declared). x.state.locals) same ∙ sym (append-nil d.state.locals)
params_behind image (q ∷ qs) d e =
    let T = through (declare_param image q d) (λ d₂. declare_params image qs d₂) e in
    params_behind image qs T.middle T.goes
    ∙ ap (λ (l : List ℕ). l ++ types qs) (param_behind image q d T.comes)
    ∙ append_assoc d.state.locals (q.ty ∷ []) (types qs)

-- a list that is continued
record Longer (xs ys : List ℕ) : Type 0 where
  rest : List ℕ
  is : ys ≡ xs ++ rest

binding_behind : (image : List ℕ) (b : ℕ) (d : Declared) {d₁ : Declared} → done d₁ ≡ declare_binding image b d → Longer d.state.locals d₁.state.locals
unfolding declare_binding
binding_behind image b d {d₁ = d₁} e = go ((binding_of image b).picked && eqb (get_or d.bindings b 65535) 65535) e
  where
    put : List ℕ
    put = set d.bindings b (length d.state.locals)

    go : (t : Bool) → done d₁ ≡ cond t (and_then (try_local d.state (binding_of image b).ty) (λ st. done (record { state = st; bindings = put }))) (done d) → Longer d.state.locals d₁.state.locals
    go true f =
        let T = through (try_local d.state (binding_of image b).ty) (λ st. done (record { state = st; bindings = put })) f in
        let same : d₁ ≡ record { state = T.middle; bindings = put } = cc T.goes in
        record { rest = (binding_of image b).ty ∷ []; is = ap (λ (x : Declared). x.state.locals) same ∙ new_behind d.state (binding_of image b).ty T.comes }
    go false f =
        let same : d₁ ≡ d = cc in
        record { rest = []; is = ap (λ (x : Declared). x.state.locals) same ∙ sym (append-nil d.state.locals) }

bindings_behind : (image : List ℕ) (b n : ℕ) (d : Declared) {d₁ : Declared} → done d₁ ≡ declare_bindings image b n d → Longer d.state.locals d₁.state.locals
unfolding declare_bindings
bindings_behind image b zero d {d₁ = d₁} e =
    let same : d₁ ≡ d = cc in
    record { rest = []; is = ap (λ (x : Declared). x.state.locals) same ∙ sym (append-nil d.state.locals) }
bindings_behind image b (suc n) d e =
    let T = through (declare_binding image b d) (λ d₂. declare_bindings image (b + 1) n d₂) e in
    let first = binding_behind image b d T.comes in
    let others = bindings_behind image (b + 1) n T.middle T.goes in
    record {
      rest = first.rest ++ others.rest;
      is = others.is ∙ ap (λ (l : List ℕ). l ++ others.rest) first.is ∙ append_assoc d.state.locals first.rest others.rest;
    }

declare_behind : (image : List ℕ) (self : SelfParam) (qs : List Param) (d : Declared) {d₁ : Declared} → done d₁ ≡ declare image self qs d →
    Longer ((d.state.locals ++ self_types self) ++ types qs) d₁.state.locals
unfolding declare
declare_behind image self qs d e =
    let S = through (declare_self self d) (λ d₂. and_then (declare_params image qs d₂) (λ d₃. declare_bindings image 0 (binding_count image) d₃)) e in
    let P = through (declare_params image qs S.middle) (λ d₃. declare_bindings image 0 (binding_count image) d₃) S.goes in
    let others = bindings_behind image 0 (binding_count image) P.middle P.goes in
    let params = params_behind image qs S.middle P.comes ∙ ap (λ (l : List ℕ). l ++ types qs) (self_behind self d S.comes) in
    record { rest = others.rest; is = others.is ∙ ap (λ (l : List ℕ). l ++ others.rest) params }

-- self has so many
self_length : (self : SelfParam) → length (self_types self) ≡ self_count self
unfolding self_count
self_length None = refl
self_length (Some (b, ty)) = refl

-- a list has so many parameters
params_length : (words : List ℕ) (k n : ℕ) → length (params_from words k n) ≡ n
unfolding params_from
params_length words k zero = refl
params_length words k (suc n) = ap suc (params_length words (k + 2) n)

-- each has a type
type_there : (image : List ℕ) (qs : List Param) (i : ℕ) → params_named image qs ≡ true → i < length qs → get_or (types qs) i 0 < type_count image
unfolding params_named
type_there image [] i e h = absurd (omega arith)
type_there image (q ∷ qs) zero e h =
    let a = ltb q.pattern (pattern_count image) in
    let b = ltb q.ty (type_count image) in
    ltb-true q.ty (type_count image) (and_right a b (and_left (a && b) (params_named image qs) e))
type_there image (q ∷ qs) (suc i) e h =
    let a = ltb q.pattern (pattern_count image) in
    let b = ltb q.ty (type_count image) in
    type_there image qs i (and_right (a && b) (params_named image qs) e) (omega arith)

-- the parameter i's local, in locals that begin with those that there were, self's and the parameters'
param_word : (before self types after : List ℕ) (i : ℕ) → Longer ((before ++ self) ++ types) after → i < length types →
    (length before + length self + i < length after) × (get_or after (length before + length self + i) 0 ≡ get_or types i 0)
param_word before self types after i L h =
    let front = length-append before self in
    let both = length-append (before ++ self) types in
    let all = ap length L.is ∙ length-append ((before ++ self) ++ types) L.rest in
    let at : length before + length self + i ≡ length (before ++ self) + i = omega arith in (
      omega arith,
      ap (λ (l : List ℕ). get_or l (length before + length self + i) 0) L.is
          ∙ get_or-append ((before ++ self) ++ types) L.rest 0 (length before + length self + i) (omega arith)
          ∙ ap (λ (n : ℕ). get_or ((before ++ self) ++ types) n 0) at
          ∙ get_or-append-add (before ++ self) types i 0,
    )

-- the word of a type of the table names it
type_named : (image : List ℕ) (word : ℕ) → word < type_count image → Named image (local_ty word)
unfolding is_type_word
type_named image word h = word_named image word (rw (lt-ltb word (type_count image) h))

-- after all locals were made, each parameter's is there, with its type
pub declared_placed : (image words : List ℕ) (self : SelfParam) {c c₁ : Counts} {m₀ m₁ : List ℕ} {b₀ b₁ : Body} → list_formed image words ≡ true → Ready b₀ c →
    Declares (declare image self (params_of words)) c m₀ b₀ (Ok c₁) m₁ b₁ → LocalsPlaced image b₁ c₁ (c.locals + self_count self) (param_count words)
unfolding local_place decode
declared_placed image words self {c = c} {c₁ = c₁} {m₀ = m₀} {b₀ = b₀} {b₁ = b₁} list R D i h =
    let A = D.answers 0 R in
    let before = local_count b₀ c R in
    let after = local_count b₁ c₁ A.goes.0 in
    let many : length (types (params_of words)) ≡ param_count words = length-map (params_of words) (λ q. q.ty) ∙ params_length words 0 (param_count words) in
    let L = declare_behind image self (params_of words) (declared_of b₀ c m₀) A.says in
    let W = param_word (take c.locals b₀.locals) (self_types self) (types (params_of words)) (take c₁.locals b₁.locals) i L (omega arith) in
    let self-many = self_length self in
    let at : c.locals + self_count self + i ≡ length (take c.locals b₀.locals) + length (self_types self) + i = omega arith in
    let below : c.locals + self_count self + i < c₁.locals = omega (arith, W.0) in
    let word : get_or b₁.locals (c.locals + self_count self + i) 0 ≡ get_or (types (params_of words)) i 0 =
    sym (get_or-take c₁.locals b₁.locals (c.locals + self_count self + i) 0 below) ∙ ap (λ (n : ℕ). get_or (take c₁.locals b₁.locals) n 0) at ∙ W.1
    in
    record {
      root = below;
      named = rw word (type_named image (get_or (types (params_of words)) i 0) (type_there image (params_of words) i (list_taken image words list).named (omega (arith, params_length words 0 (param_count words)))));
      within = omega arith;
    }
