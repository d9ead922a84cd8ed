-- The making of the locals: neither a block nor a statement is new, and the locals are those that there were, self's, the parameters' and then more. The words of
-- bindings that get none stay. Assumes nothing.
use Rattle.std.specs.Prelude.{Some, None}
use Prim.Native.Nat.{ℕ, zero, suc, ◌+◌, ◌≤◌, ◌<◌}
use native.Mathlib.Decide.{dec_lt}
use native.Mathlib.Omega.{arith}
use mathlib.Core.Path.{◌≡◌, refl, sym, ap, ◌∙◌, subst}
use mathlib.Core.Logic.{◌≢◌}
use mathlib.Core.Bool.{Bool, true, false, cond, not, ◌&&◌, true≢false}
use mathlib.Core.Option.{Option, some}
use mathlib.Core.List.{List, [], ◌∷◌, ◌++◌, append_assoc, append-nil}
use borrow.Author.Tests.{eqb-true, eq-eqb, ltb-true}
use lib.Dec.{eqb, ltb}
use lib.ListN.{length, get_or, set, length-append}
use lib.Seq.{get_or-set_same}
use Rattle.refusals.specs.declared.MirLowerError.{MirLowerError}
use Rattle.refusals.specs.Refusals.{Result, done, stopped, and_then}
use Rattle.image.specs.Tables.{binding_count}
use Rattle.image.specs.Types.{binding_of}
use Rattle.image.specs.Tree.{tree}
use Rattle.image.proofs.Bools.{and_left, and_right}
use Rattle.place.specs.declared.LocalId.{LocalId}
use Rattle.mir.specs.Locals.{local_limit}
use Rattle.mir.specs.Scopes.{entry_limit}
use Rattle.state.specs.State.{State}
use Rattle.state.specs.Steps.{within, next_local, new_local, push_entry, try_local, try_entry}
use Rattle.params_spec.specs.Results.{SelfParam}
use Rattle.params_spec.specs.Params.{Param, Declared, param_local, plain_binding, bound_to, declare_self, declare_param, declare_params, declare_binding, declare_bindings, declare}
use Rattle.params_spec.specs.Calls.{binds_receiver, none_binds_receiver}
use Rattle.counting.proofs.Holding.{Gives, gives, stops, gives_then}
use Rattle.named.specs.Named.{WordsBelow}
use Rattle.param_runs.proofs.Words.{words_more_lem, bound_below, bound_keeps}

-- from one state to another new locals of these types were made, and nothing else of a body; a body has at most 512 locals
pub record Makes (st : State) (types : List ℕ) (st₁ : State) : Type 0 where
  pub blocks : st₁.blocks ≡ st.blocks
  pub statements : st₁.statements ≡ st.statements
  pub locals : st₁.locals ≡ st.locals ++ types
  pub few : 0 < length types → length st₁.locals ≤ 512

-- so many more
pub makes_count : {st st₁ : State} {types : List ℕ} → Makes st types st₁ → length st₁.locals ≡ length st.locals + length types
makes_count {st} {types} m = ap (λ (l : List ℕ). length l) m.locals ∙ length-append st.locals types

-- one step after another
makes_seq : {st st₁ st₂ : State} {types types' : List ℕ} → Makes st types st₁ → Makes st₁ types' st₂ → Makes st (types ++ types') st₂
makes_seq {st} {st₁} {st₂} {types} {types'} f g =
    record {
      blocks = g.blocks ∙ f.blocks;
      statements = g.statements ∙ f.statements;
      locals = g.locals ∙ ap (λ (l : List ℕ). l ++ types') f.locals ∙ append_assoc st.locals types types';
      few = λ h. go h (dec_lt 0 (length types'));
    }
  where
    go : 0 < length (types ++ types') → Dec (0 < length types') → length st₂.locals ≤ 512
    go h (yes i) = g.few i
    go h (no n) =
        let all = length-append types types' in
        let i : 0 < length types = omega (arith, all) in
        omega (arith, f.few i, makes_count g)

-- nothing made
makes_none : (st : State) → Makes st [] st
makes_none st = record { blocks = refl; statements = refl; locals = sym (append-nil st.locals); few = λ h. absurd (omega arith) }

-- where there is room
gives_within : {A : Type 0} (P : A → Type 0) (room : Bool) (a : A) → (room ≡ true → P a) → Gives P (within room a)
gives_within P true a p = gives P a (p refl)
gives_within P false a p = stops P MirLowerError.Limit

-- a local
makes_local : (st : State) (ty : ℕ) → Gives (λ st₁. Makes st (ty ∷ []) st₁) (try_local st ty)
unfolding try_local new_local
makes_local st ty =
    gives_within (λ st₁. Makes st (ty ∷ []) st₁) (ltb (length st.locals) local_limit) (new_local st ty) (λ e.
    let room : length st.locals < 512 = ltb-true (length st.locals) local_limit e in
    let all = length-append st.locals (ty ∷ []) in
    record { blocks = refl; statements = refl; locals = refl; few = λ h. omega (arith, room, all) })

-- an entry of the last scope
makes_entry : (st : State) (l : LocalId) → Gives (λ st₁. Makes st [] st₁) (try_entry st l)
unfolding try_entry push_entry
makes_entry st l =
    gives_within (λ st₁. Makes st [] st₁) (ltb (length st.entries) entry_limit) (push_entry st l) (λ e.
    record { blocks = refl; statements = refl; locals = sym (append-nil st.locals); few = λ h. absurd (omega arith) })

-- a parameter's local
makes_param : (st : State) (ty : ℕ) → Gives (λ st₁. Makes st (ty ∷ []) st₁) (param_local st ty)
unfolding param_local
makes_param st ty = gives_then (try_local st ty) _ (makes_local st ty) (λ st₁ m. scoped st₁ m (eqb (length st₁.scopes) 0))
  where
    scoped : (st₁ : State) → Makes st (ty ∷ []) st₁ → (b : Bool) → Gives (λ st₂. Makes st (ty ∷ []) st₂) (cond b (stopped MirLowerError.NoScope) (try_entry st₁ (next_local st)))
    scoped st₁ m true = stops (λ st₂. Makes st (ty ∷ []) st₂) MirLowerError.NoScope
    scoped st₁ m false = record { at = λ st₂ e. makes_seq m ((makes_entry st₁ (next_local st)).at st₂ e) }

-- locals of these types were made; bindings' locals are still locals that there are, and those of which Kept holds stay
pub record Declares (d : Declared) (types : List ℕ) (Kept : ℕ → Type 0) (d₁ : Declared) : Type 0 where
  pub makes : Makes d.state types d₁.state
  pub words : WordsBelow d.bindings (length d.state.locals) → WordsBelow d₁.bindings (length d₁.state.locals)
  pub keeps : (x : ℕ) → Kept x → get_or d₁.bindings x 65535 ≡ get_or d.bindings x 65535

-- one step after another
declares_seq : {d d₁ d₂ : Declared} {types types' : List ℕ} {Kept Kept₁ Kept₂ : ℕ → Type 0} → ((x : ℕ) → Kept x → Kept₁ x) →
    ((x : ℕ) → Kept x → get_or d₁.bindings x 65535 ≡ get_or d.bindings x 65535 → Kept₂ x) → Declares d types Kept₁ d₁ → Declares d₁ types' Kept₂ d₂ → Declares d (types ++ types') Kept d₂
declares_seq first second f g =
    record {
      makes = makes_seq f.makes g.makes;
      words = λ w. g.words (f.words w);
      keeps = λ x k. let same = f.keeps x (first x k) in g.keeps x (second x k same) ∙ same;
    }

-- fewer of which it is said
declares_as : {d d₁ : Declared} {types : List ℕ} {Kept Kept₁ : ℕ → Type 0} → ((x : ℕ) → Kept x → Kept₁ x) → Declares d types Kept₁ d₁ → Declares d types Kept d₁
declares_as f m = record { makes = m.makes; words = m.words; keeps = λ x k. m.keeps x (f x k) }

-- nothing made
declares_none : (d : Declared) (Kept : ℕ → Type 0) → Declares d [] Kept d
declares_none d Kept = record { makes = makes_none d.state; words = λ w. w; keeps = λ x k. refl }

-- a local, which is that of a binding or of none
declares_one : (d : Declared) (ty : ℕ) (o : Option ℕ) (st : State) → Makes d.state (ty ∷ []) st →
    Declares d (ty ∷ []) (λ x. o ≡ some x → ⊥) (record { state = st; bindings = bound_to d.bindings o (length d.state.locals) })
declares_one d ty o st m =
    let count = makes_count m in
    record {
      makes = m;
      words = λ w. bound_below d.bindings o (length d.state.locals) (length st.locals) (omega (arith, count)) (words_more_lem d.bindings (length d.state.locals) (length st.locals) (omega (arith, count)) w);
      keeps = λ x k. bound_keeps d.bindings o (length d.state.locals) x k;
    }

-- self's type, where there is one
abbrev pub self_types : SelfParam → List ℕ
self_types None = []
self_types (Some (b, ty)) = ty ∷ []

-- the parameters' types
unfoldable pub param_types : List Param → List ℕ
param_types [] = []
param_types (q ∷ qs) = q.ty ∷ param_types qs

-- what two lemmas say of a step
both : {A : Type 0} {P Q : A → Type 0} {x : Result A} → Gives P x → Gives Q x → Gives (λ a. P a × Q a) x
both f g = record { at = λ a e. (f.at a e, g.at a e) }

-- one binding
some_is : {b x : ℕ} → some b ≡ some x → b ≡ x
some_is e = cc

-- another binding than self's
abbrev NotSelf : SelfParam → ℕ → Type 0
NotSelf None x = Unit {0}
NotSelf (Some (b, ty)) x = some b.0 ≡ some x → ⊥

-- self: its local is its binding's
declares_self : (self : SelfParam) (d : Declared) → Gives (Declares d (self_types self) (NotSelf self)) (declare_self self d)
unfolding declare_self bound_to
declares_self None d = gives (Declares d [] (NotSelf None)) d (declares_none d (NotSelf None))
declares_self (Some (b, ty)) d =
    gives_then (param_local d.state ty) _ (makes_param d.state ty) (λ st m.
    gives (Declares d (ty ∷ []) (NotSelf (Some (b, ty)))) _ (declares_one d ty (some b.0) st m))

-- self's local is its binding's, where there is such a binding
abbrev SelfOwn : SelfParam → Declared → Declared → Type 0
SelfOwn None d d₁ = Unit {0}
SelfOwn (Some (b, ty)) d d₁ = b.0 < length d.bindings → get_or d₁.bindings b.0 65535 ≡ length d.state.locals

-- so it is behind `declare_self`
self_own : (self : SelfParam) (d : Declared) → Gives (SelfOwn self d) (declare_self self d)
unfolding declare_self
self_own None d = gives (SelfOwn None d) d tt
self_own (Some (b, ty)) d =
    gives_then {P = λ st. Unit {0}} (param_local d.state ty) _ (record { at = λ st e. tt }) (λ st m.
    gives (SelfOwn (Some (b, ty)) d) _ (λ i. get_or-set_same d.bindings b.0 (length d.state.locals) 65535 i))

module _ (image : List ℕ) where
  -- no parameter is a plain `x` of this binding
  abbrev pub Apart : List Param → ℕ → Type 0
  Apart qs x = none_binds_receiver image x qs ≡ true

  -- so it is with the first one
  first_apart : (q : Param) (qs : List Param) (x : ℕ) → Apart (q ∷ qs) x → plain_binding (tree image q.pattern) ≡ some x → ⊥
  unfolding none_binds_receiver binds_receiver
  first_apart q qs x k p =
      let here = and_left (not (binds_receiver x (plain_binding (tree image q.pattern)))) (none_binds_receiver image x qs) k in
      let same : binds_receiver x (plain_binding (tree image q.pattern)) ≡ true = ap (binds_receiver x) p ∙ eq-eqb x x refl in
      true≢false (sym (sym (ap not same) ∙ here))

  -- and with the others
  others_apart : (q : Param) (qs : List Param) (x : ℕ) → Apart (q ∷ qs) x → Apart qs x
  unfolding none_binds_receiver
  others_apart q qs x k = and_right (not (binds_receiver x (plain_binding (tree image q.pattern)))) (none_binds_receiver image x qs) k

  -- a parameter
  declares_param : (q : Param) (d : Declared) → Gives (Declares d (q.ty ∷ []) (λ x. plain_binding (tree image q.pattern) ≡ some x → ⊥)) (declare_param image q d)
  unfolding declare_param
  declares_param q d =
      gives_then (param_local d.state q.ty) _ (makes_param d.state q.ty) (λ st m.
      gives (Declares d (q.ty ∷ []) (λ x. plain_binding (tree image q.pattern) ≡ some x → ⊥)) _ (declares_one d q.ty (plain_binding (tree image q.pattern)) st m))

  -- the parameters
  declares_params : (qs : List Param) (d : Declared) → Gives (Declares d (param_types qs) (Apart qs)) (declare_params image qs d)
  unfolding declare_params param_types
  declares_params [] d = gives (Declares d [] (Apart [])) d (declares_none d (Apart []))
  declares_params (q ∷ qs) d =
      gives_then (declare_param image q d) _ (declares_param q d) (λ d₁ m.
      record { at = λ d₂ e. declares_seq (first_apart q qs) (λ x k same. others_apart q qs x k) m ((declares_params qs d₁).at d₂ e) })

  -- the other bindings, those that have a local already not among them
  pub record Others (d d₁ : Declared) : Type 0 where
    pub types : List ℕ
    pub declares : Declares d types (λ x. get_or d.bindings x 65535 ≢ 65535) d₁

  -- none
  others_none : (d : Declared) → Others d d
  others_none d = record { types = []; declares = declares_none d (λ x. get_or d.bindings x 65535 ≢ 65535) }

  -- a binding
  declares_binding : (b : ℕ) (d : Declared) → Gives (Others d) (declare_binding image b d)
  unfolding declare_binding bound_to
  declares_binding b d = by ((binding_of image b).picked && eqb (get_or d.bindings b 65535) 65535) refl
    where
      new : Result Declared
      new = and_then (try_local d.state (binding_of image b).ty) (λ st. done (record { state = st; bindings = set d.bindings b (length d.state.locals) }))

      by : (t : Bool) → (binding_of image b).picked && eqb (get_or d.bindings b 65535) 65535 ≡ t → Gives (Others d) (cond t new (done d))
      by true e =
          gives_then (try_local d.state (binding_of image b).ty) _ (makes_local d.state (binding_of image b).ty) (λ st m.
          gives (Others d) _
          (record {
            types = (binding_of image b).ty ∷ [];
            declares = declares_as (λ x k p.
                k (subst (λ (y : ℕ). get_or d.bindings y 65535 ≡ 65535) (some_is p)
                (eqb-true (get_or d.bindings b 65535) 65535 (and_right (binding_of image b).picked (eqb (get_or d.bindings b 65535) 65535) e))))
                (declares_one d (binding_of image b).ty (some b) st m);
          }))
      by false e = gives (Others d) d (others_none d)

  -- those from b on, so many
  declares_bindings : (b n : ℕ) (d : Declared) → Gives (Others d) (declare_bindings image b n d)
  unfolding declare_bindings
  declares_bindings b zero d = gives (Others d) d (others_none d)
  declares_bindings b (suc n) d =
      gives_then (declare_binding image b d) _ (declares_binding b d) (λ d₁ m.
      record {
        at = λ d₂ e.
            let k = (declares_bindings (b + 1) n d₁).at d₂ e in
            record {
              types = m.types ++ k.types;
              declares = declares_seq (λ x h. h) (λ x h same q. h (sym same ∙ q)) m.declares k.declares;
            };
      })

  -- self's local is its binding's, where there is such a binding and no parameter is a plain `x` of it
  abbrev pub OwnKept : SelfParam → List Param → Declared → Declared → Type 0
  OwnKept None params d d₁ = Unit {0}
  OwnKept (Some (b, ty)) params d d₁ = b.0 < length d.bindings → Apart params b.0 → get_or d₁.bindings b.0 65535 ≡ length d.state.locals

  -- it stays so
  own_kept : (self : SelfParam) (params : List Param) {d d₁ d₂ d₃ : Declared} {types : List ℕ} → Declares d (self_types self) (NotSelf self) d₁ → SelfOwn self d d₁ →
      Declares d₁ (param_types params) (Apart params) d₂ → Declares d₂ types (λ x. get_or d₂.bindings x 65535 ≢ 65535) d₃ → OwnKept self params d d₃
  own_kept None params f own g h = tt
  own_kept (Some (b, ty)) params f own g h = λ i n.
      let second = g.keeps b.0 n ∙ own i in
      let few = f.makes.few (omega arith) in
      let count = makes_count f.makes in
      h.keeps b.0 (λ q. let z = sym second ∙ q in absurd (omega (arith, few, count, z))) ∙ second

  -- all locals that are made, self's, the parameters' and then others
  pub record AllMade (self : SelfParam) (params : List Param) (d d₁ : Declared) : Type 0 where
    pub others : List ℕ
    pub makes : Makes d.state (self_types self ++ (param_types params ++ others)) d₁.state
    pub words : WordsBelow d.bindings (length d.state.locals) → WordsBelow d₁.bindings (length d₁.state.locals)
    pub own : OwnKept self params d d₁

  -- what `declare` gives
  pub all_made : (self : SelfParam) (params : List Param) (d : Declared) → Gives (AllMade self params d) (declare image self params d)
  unfolding declare
  all_made self params d =
      gives_then (declare_self self d) _ (both (declares_self self d) (self_own self d)) (λ d₁ m₁.
      gives_then (declare_params image params d₁) _ (declares_params params d₁) (λ d₂ m₂.
      record {
        at = λ d₃ e.
            let k = (declares_bindings 0 (binding_count image) d₂).at d₃ e in
            record {
              others = k.types;
              makes = makes_seq m₁.0.makes (makes_seq m₂.makes k.declares.makes);
              words = λ w. k.declares.words (m₂.words (m₁.0.words w));
              own = own_kept self params m₁.0 m₁.1 m₂ k.declares;
            };
      }))
