-- What bindings are filled with, by the ways through the code. Assumes nothing.
use Rattle.std.specs.Prelude.{Some, None, Ok, Err}
use mathlib.Core.Path.{◌≡◌, refl, ap, ◌∙◌}
use mathlib.Core.Logic.{inl}
use mathlib.Core.Bool.{Bool, true, false, cond}
use mathlib.Core.List.{List}
use Prim.Native.Nat.{ℕ}
use native.Mathlib.Nat.{le_refl}
use native.Mathlib.Omega.{arith}
use lib.Dec.{ltb}
use lib.ListN.{length}
use Rattle.image.specs.declared.PatId.{PatId}
use Rattle.image.specs.declared.kinds.BindingMode.{BindingMode}
use Rattle.refusals.specs.declared.MirLowerError.{MirLowerError}
use Rattle.refusals.specs.Refusals.{Result}
use Rattle.refusals.specs.Refusals.{done, stopped}
use Rattle.place.specs.declared.LocalId.{LocalId}
use Rattle.place.specs.declared.Place.{Place}
use Rattle.place.specs.declared.elems.ProjectionElem.{ProjectionElem}
use Rattle.mir.specs.declared.BasicBlockId.{BasicBlockId}
use Rattle.mir.specs.declared.Counts.{Counts}
use Rattle.mir.specs.declared.rvalues.PlaceRvalue.{PlaceRvalue}
use Rattle.mir.specs.Results.{Counted}
use Rattle.mir.specs.Rvalues.{place_rvalue_row}
use Rattle.mir.specs.Statements.{statement_limit, one_statement_more, new_statement, statements_after}
use Rattle.state.specs.State.{Body, State, decode}
use Rattle.state.specs.Steps.{try_statement}
use Rattle.state.specs.Promises.{Ready, Grown, Answers}
use Rattle.state.proofs.Calls.{counted_counts, counted_result}
use Rattle.state.proofs.RowLengths.{place_rvalue_length}
use Rattle.lower_spec.specs.Results.{OptBlock}
use Rattle.lower_spec.specs.Temps.{binding_local, push_storage_live_for_local}
use Rattle.body_tables.specs.Layout.{with_statements}
use Rattle.body_tables.specs.Promises.{Adds}
use Rattle.body_tables.proofs.Building.{statement_made}
use Rattle.pattern_matching.specs.declared.MatchingMode.{MatchingMode}
use Rattle.pattern_matching.specs.Walking.{Ctx, Out, Walk, step, out, with_state, project}
use Rattle.pattern_matching.specs.Tests.{binding_rvalue, pattern_match_binding, local_path}
use Rattle.pattern_walk_spec.specs.Results.{Lowered}
use Rattle.pattern_walk_spec.specs.Answers.{Begins, ctx_of, lowered_counts, walk_of, OnwardBy, Lowers}
use Rattle.pattern_walk_spec.proofs.Following.{step_then, step_stops, stays, begins_grown, onward_grown, onward_by}
use Rattle.pattern_walk_spec.proofs.Sequences.{lowers_skips, lowers_refuses, lowers_by}
use Rattle.pattern_parts.specs.Parts.{rest_filled}

-- the answer of a statement's push, as the code has it
abbrev pushed : Counted → PatId → BasicBlockId → OptBlock → Lowered
pushed (Some c) p current els = Ok (c, current, els)
pushed None p current els = Err (MirLowerError.Limit, p)

-- a statement takes nothing away
statement_grown : (c : Counts) {c₁ : Counts} → Some c₁ ≡ new_statement c → Grown c c₁
unfolding new_statement
statement_grown c {c₁ = c₁} is = made (ltb c.statements statement_limit) is
  where
    more : Grown c (one_statement_more c)
    more = record { blocks = le_refl c.blocks; statements = omega arith; locals = le_refl c.locals; scopes = le_refl c.scopes; entries = le_refl c.entries }

    made : (b : Bool) → Some c₁ ≡ cond b (Some (one_statement_more c)) None → Grown c c₁
    made true e = let same : c₁ ≡ one_statement_more c = cc in rw same more
    made false e = let z : ◌≡◌ {A = ℕ} 0 1 = cc in absurd (omega arith)

-- where the push of a statement goes on
pushed_onward : (c : Counts) (r : Counted) (p : PatId) {current : BasicBlockId} {els : OptBlock} → r ≡ new_statement c → Begins c current els → OnwardBy c current els (pushed r p current els)
pushed_onward c (Some c₁) p is h = onward_grown (statement_grown c is) h
pushed_onward c None p is h = tt

-- p is visited, and the walk goes on where it is
module _ (p : PatId) (current : BasicBlockId) (els : OptBlock) (place : Place) where
  -- the local l is assigned to
  abbrev assigned : LocalId → PlaceRvalue → Ctx → State → Walk Out
  assigned l rvalue ctx st = step p.0 (try_statement st (place_rvalue_row current l rvalue place)) (λ st₁. out (with_state ctx st₁) current els)

  abbrev behind : List ℕ → State → Walk Out
  behind visits st = out (record { state = st; visits = visits }) current els

  -- the assignment, or no room for it: the body is b₀ before and b₁ after, and st is any state
  assign_answers : (b₀ : Body) (visits : List ℕ) (c : Counts) (st : State) {b₁ : Body} (l : LocalId) (rvalue : PlaceRvalue) (r : Counted) → length place.elems ≡ 16 → r ≡ new_statement c →
      b₁ ≡ with_statements b₀ (statements_after c b₀.statements (place_rvalue_row current l rvalue place)) → Ready b₀ c →
      Answers b₀ c current.0 b₁ (lowered_counts (pushed r p current els)) (walk_of (pushed r p current els) b₁ visits) (assigned l rvalue (record { state = st; visits = visits }) (decode b₀ c))
  assign_answers b₀ visits c st {b₁ = b₁} l rvalue r long is after R = by r is
    where
      stored : (r : Counted) → r ≡ new_statement c → Answers b₀ c current.0 b₁ (counted_counts r) (counted_result r b₁) (try_statement (decode b₀ c) (place_rvalue_row current l rvalue place))
      stored r is = statement_made b₀ c current.0 (place_rvalue_row current l rvalue place) (place_rvalue_length current l rvalue place long) is after R

      by : (r : Counted) → r ≡ new_statement c →
          Answers b₀ c current.0 b₁ (lowered_counts (pushed r p current els)) (walk_of (pushed r p current els) b₁ visits) (assigned l rvalue (record { state = st; visits = visits }) (decode b₀ c))
      by (Some c₁) is = let F = stored (Some c₁) is in step_then p.0 (behind visits) F (inl refl) (stays (behind visits (decode b₁ c₁)) F.goes.0)
      by None is = step_stops p.0 (behind visits) (stored None is)

-- `pattern_match_binding`: b₀ is the body at entry
module _ (bindings : List ℕ) (b₀ : Body) (c : Counts) (p q : PatId) (b : ℕ) (how : BindingMode) (current : BasicBlockId) (els : OptBlock) (place : Place) where
  abbrev Bound : Lowered → Body → Type 0
  Bound = Lowers (λ ctx. pattern_match_binding bindings p.0 q.0 b how ctx current els place) c current els b₀

  -- the binding has no local
  pub binding_absent : {e : MirLowerError} → stopped e ≡ binding_local bindings b → Bound (Err (e, q)) b₀
  unfolding pattern_match_binding
  binding_absent h = lowers_refuses (λ ctx. rw (← h) refl)

  module _ {l : LocalId} (bound : done l ≡ binding_local bindings b) where
    -- its mark is refused
    pub binding_unmarked : {e : MirLowerError} {b₁ : Body} → Adds (λ st. push_storage_live_for_local st l current) c b₀ (Err e) b₁ → Bound (Err (e, p)) b₁
    unfolding pattern_match_binding
    binding_unmarked A = record {
      answers = λ visits R. rw (← bound) (step_stops p.0 (assigned p current els place l (binding_rvalue how) (ctx_of b₀ c visits)) (A current.0 R));
      onward = tt;
    }

    -- it is marked, and then it is filled, or there is no room for the statement: b₁ is the body between
    pub binding_filled : {c₁ : Counts} {rvalue : PlaceRvalue} {b₁ b₂ : Body} (r : Counted) → length place.elems ≡ 16 → Ready b₀ c → Begins c current els →
        Adds (λ st. push_storage_live_for_local st l current) c b₀ (Ok c₁) b₁ → rvalue ≡ binding_rvalue how → r ≡ new_statement c₁ →
        b₂ ≡ with_statements b₁ (statements_after c₁ b₁.statements (place_rvalue_row current l rvalue place)) → Bound (pushed r p current els) b₂
    unfolding pattern_match_binding
    binding_filled {c₁ = c₁} {b₁ = b₁} r long P start A same is after = record {
      answers = λ visits R.
          let F = A current.0 R in
          rw (← bound)
          (step_then p.0 (assigned p current els place l (binding_rvalue how) (ctx_of b₀ c visits)) F (inl refl)
          (assign_answers p current els place b₁ visits c₁ (decode b₀ c) l (binding_rvalue how) r long is
          (after ∙ ap (λ (v : PlaceRvalue). with_statements b₁ (statements_after c₁ b₁.statements (place_rvalue_row current l v place))) same) F.goes.0));
      onward = let G = (A current.0 P).goes.1 in onward_by (pushed r p current els) G (onward_grown G start) (pushed_onward c₁ r p is (begins_grown G start));
    }

-- `local_path`: b₀ is the body at entry
module _ (bindings : List ℕ) (b₀ : Body) (c : Counts) (p : PatId) (b : ℕ) (current : BasicBlockId) (els : OptBlock) (place : Place) where
  abbrev Path : MatchingMode → Lowered → Body → Type 0
  Path mode = Lowers (λ ctx. local_path bindings p.0 b mode ctx current els place) c current els b₀

  -- in Check it is refused
  pub path_check : Path MatchingMode.Check (Err (MirLowerError.NotSupported, p)) b₀
  unfolding local_path
  path_check = lowers_refuses (λ ctx. refl)

  -- in Bind there is nothing to do
  pub path_bind : Begins c current els → Path MatchingMode.Bind (Ok (c, current, els)) b₀
  unfolding local_path
  path_bind start = lowers_skips (λ ctx. refl) start

  -- in Assign the binding may have no local
  pub path_absent : {x : MirLowerError} → stopped x ≡ binding_local bindings b → Path MatchingMode.Assign (Err (x, p)) b₀
  unfolding local_path
  path_absent h = lowers_refuses (λ ctx. rw (← h) refl)

  -- it is assigned to, or there is no room for the statement
  pub path_assigned : {l : LocalId} {b₁ : Body} (r : Counted) → length place.elems ≡ 16 → Begins c current els → done l ≡ binding_local bindings b → r ≡ new_statement c →
      b₁ ≡ with_statements b₀ (statements_after c b₀.statements (place_rvalue_row current l PlaceRvalue.Copy place)) → Path MatchingMode.Assign (pushed r p current els) b₁
  unfolding local_path
  path_assigned {l = l} r long start bound is after = record {
    answers = λ visits R. rw (← bound) (assign_answers p current els place b₀ visits c (decode b₀ c) l PlaceRvalue.Copy r long is after R);
    onward = pushed_onward c r p is start;
  }

-- `fill_rest`: b₀ is the body at entry
module _ (bindings : List ℕ) (b₀ : Body) (c : Counts) (p q : PatId) (b : ℕ) (how : BindingMode) (front end : ℕ) (current : BasicBlockId) (els : OptBlock) (place : Place) where
  abbrev Rest : Lowered → Body → Type 0
  Rest = Lowers (λ ctx. rest_filled bindings p.0 q.0 b how front end ctx current els place) c current els b₀

  -- there is no room for the element
  pub rest_stops : stopped MirLowerError.Limit ≡ project place (ProjectionElem.Subslice front end) → Rest (Err (MirLowerError.Limit, p)) b₀
  unfolding rest_filled
  rest_stops h = lowers_refuses (λ ctx. rw (← h) refl)

  -- the binding is filled with the part
  pub rest_filled_lem : {part : Place} {r : Lowered} {b₁ : Body} → done part ≡ project place (ProjectionElem.Subslice front end) →
      Lowers (λ ctx. pattern_match_binding bindings p.0 q.0 b how ctx current els part) c current els b₀ r b₁ → Rest r b₁
  unfolding rest_filled
  rest_filled_lem h F = lowers_by (λ ctx. ap (λ (x : Result Place). step p.0 x (λ on. pattern_match_binding bindings p.0 q.0 b how ctx current els on)) h) F
