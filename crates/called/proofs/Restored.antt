-- What a refusal leaves in the tables, of every public call, by its contract. Assumes nothing.
use Prim.Native.Nat.{ℕ, ◌≤◌, ◌<◌}
use mathlib.Core.Path.{◌≡◌, sym, ap, subst, ◌∙◌}
use mathlib.Core.Option.{Option, none, some}
use mathlib.Core.List.{List}
use native.Mathlib.Omega.{arith}
use Rattle.row_tables.specs.Rows.{zeros}
use Rattle.refusals.specs.declared.MirLowerError.{MirLowerError}
use Rattle.refusals.specs.Refusals.{Refusal, number_of, refusal_at, breaks_a_rule, names_nothing}
use Rattle.mir.specs.declared.BasicBlockId.{BasicBlockId}
use Rattle.mir.specs.declared.Counts.{Counts}
use Rattle.state.specs.State.{Body, State, decode}
use Rattle.lower_spec.specs.Results.{OptBlock}
use Rattle.calls_spec.specs.Calls.{Called, bad_image, bad_call, refused_at, accepted, refusal_of, body_after}
use Rattle.calls_spec.specs.Promises.{Way, CallHolds, Gives}
use Rattle.body_calls_spec.specs.Results.{TempCall}
use Rattle.body_calls_spec.specs.Results.{MergeCall}
use Rattle.body_calls_spec.specs.Results.{ScopeCall}
use Rattle.body_calls_spec.specs.Results.{DropCall}
use Rattle.body_calls_spec.specs.Answers.{temp_refusal, merge_refusal, scope_refusal, drop_refusal}
use Rattle.pattern_matching.specs.Walking.{Ctx}
use Rattle.pattern_walk_spec.specs.Calls.{visits_after, Visits}
use Rattle.pattern_calls_spec.specs.Results.{MatchCall}
use Rattle.pattern_calls_spec.specs.Calls.{match_refusal}
use Rattle.params_spec.specs.Results.{ParamsCall}
use Rattle.params_spec.specs.Params.{ParamsOut}
use Rattle.params_spec.specs.Calls.{params_refusal, bindings_after}
use Rattle.called.specs.Call.{Call, Promised}
use Rattle.called.specs.AsFound.{AsFound, NoneVisited}
use Rattle.called.specs.Params.{ParamsHanded, ParamsTables, defined_of, PromisedParams}
use Rattle.called.specs.Promises.{PromisedAssignment, SelfHanded, PromisedSelf, OnBody, PromisedTemp, PromisedMerge, PromisedPush, PromisedPopAssumeDropped, PromisedPopAndDrop, PromisedDropUntil}

-- the same refusal
same_some : {x y : Refusal} → some x ≡ some y → x ≡ y
same_some e = cc

-- no refusal is not one
none_some : {x : Refusal} → ◌≡◌ {A = Option Refusal} none (some x) → ⊥
none_some e = let z : ◌≡◌ {A = ℕ} 0 1 = cc in omega arith

-- a reason of the walk has a number above 2
walk_number : (e : MirLowerError) → 2 < number_of e
unfolding number_of
walk_number MirLowerError.IncompletePattern = omega arith
walk_number (MirLowerError.TypeError reason) = omega arith
walk_number MirLowerError.UnresolvedField = omega arith
walk_number MirLowerError.NotSupported = omega arith
walk_number MirLowerError.Ellipsis = omega arith
walk_number MirLowerError.UnsizedTemporary = omega arith
walk_number MirLowerError.InaccessibleLocal = omega arith
walk_number MirLowerError.Expr = omega arith
walk_number MirLowerError.Limit = omega arith
walk_number MirLowerError.PlaceType = omega arith
walk_number MirLowerError.UnresolvedName = omega arith
walk_number MirLowerError.NoScope = omega arith

-- so has its refusal
refusal_number : (e : MirLowerError) (p : ℕ) (refusal : Refusal) → some (refusal_at e p) ≡ some refusal → 2 < refusal.number
unfolding refusal_at
refusal_number e p refusal is = let n = walk_number e in subst (λ (x : Refusal). 2 < x.number) (same_some is) n

-- tables that are not written are as found
unwritten : (b : Body) (c : Counts) (refusal : Refusal) (b' : Body) → refusal.number ≤ 2 → b' ≡ b → AsFound b c refusal b'
unwritten b c refusal b' low is = record { nothing_written = λ h. is; below = ap (λ (x : Body). decode x c) is; above = λ h. absurd (omega (arith, low, h)) }

-- visits that are not written
unvisited : (v : List ℕ) (refusal : Refusal) (v' : List ℕ) → refusal.number ≤ 2 → v' ≡ v → NoneVisited v refusal v'
unvisited v refusal v' low is = record { nothing_written = λ h. is; none_visited = λ h. absurd (omega (arith, low, h)) }

-- visits that are zeros
zeroed : (v : List ℕ) (refusal : Refusal) (v' : List ℕ) → 2 < refusal.number → v' ≡ zeros 512 → NoneVisited v refusal v'
zeroed v refusal v' high is = record { nothing_written = λ h. absurd (omega (arith, high, h)); none_visited = λ h. is }

-- 1 and 2 are at most 2
first_low : (refusal : Refusal) → some breaks_a_rule ≡ some refusal → refusal.number ≤ 2
first_low refusal is = subst (λ (x : Refusal). x.number ≤ 2) (same_some is) (omega arith)

second_low : (refusal : Refusal) → some names_nothing ≡ some refusal → refusal.number ≤ 2
second_low refusal is = subst (λ (x : Refusal). x.number ≤ 2) (same_some is) (omega arith)

-- A refusal of a call, by what the definition gives and what is promised.
module _ {A : Type 0} (refusal : Refusal) where
  -- the body
  body_left : (state_of : A → State) (defined : Called A) (b : Body) (c : Counts) (b' : Body) → refusal_of defined ≡ some refusal → b' ≡ body_after state_of b c defined →
      CallHolds state_of b c defined b' → AsFound b c refusal b'
  body_left state_of bad_image b c b' r is holds = unwritten b c refusal b' (first_low refusal r) is
  body_left state_of bad_call b c b' r is holds = unwritten b c refusal b' (second_low refusal r) is
  body_left state_of (refused_at e p) b c b' r is holds =
      let high = refusal_number e p refusal r in
      record { nothing_written = λ h. absurd (omega (arith, high, h)); below = holds.reads; above = λ h. is }
  body_left state_of (accepted a) b c b' r is holds = absurd (none_some r)

  -- the visits' table
  visits_left : (ctx : A → Ctx) (defined : Called A) (v v' : List ℕ) → refusal_of defined ≡ some refusal → v' ≡ visits_after ctx v defined → NoneVisited v refusal v'
  visits_left ctx bad_image v v' r is = unvisited v refusal v' (first_low refusal r) is
  visits_left ctx bad_call v v' r is = unvisited v refusal v' (second_low refusal r) is
  visits_left ctx (refused_at e p) v v' r is = zeroed v refusal v' (refusal_number e p refusal r) is
  visits_left ctx (accepted a) v v' r is = absurd (none_some r)

  -- a call, by its promise
  left : {R : Type 0} {way : Way A R} {b b' : Body} {c : Counts} {defined : Called A} {r : R} → Gives way b c defined r b' → way.numbers r ≡ some refusal → AsFound b c refusal b'
  left {way = way} {b = b} {b' = b'} {c = c} {defined = defined} G is = body_left way.state_of defined b c b' (sym G.refusal ∙ is) G.tables G.holds

  -- one that counts visits
  both_left : {R : Type 0} {way : Way A R} {ctx : A → Ctx} {b b' : Body} {v v' : List ℕ} {c : Counts} {defined : Called A} {r : R} → Visits way ctx b v c defined r b' v' →
      way.numbers r ≡ some refusal → AsFound b c refusal b' × NoneVisited v refusal v'
  both_left {ctx = ctx} {v = v} {v' = v'} {defined = defined} G is = (left G.gives is, visits_left ctx defined v v' (sym G.gives.refusal ∙ is) G.visits)

-- the bindings' locals of a refused call on parameters
bindings_left : (refusal : Refusal) (defined : Called ParamsOut) (m m' : List ℕ) → refusal_of defined ≡ some refusal → m' ≡ bindings_after m defined → m' ≡ m
bindings_left refusal bad_image m m' r is = is
bindings_left refusal bad_call m m' r is = is
bindings_left refusal (refused_at e p) m m' r is = is
bindings_left refusal (accepted a) m m' r is = absurd (none_some r)

-- `pattern_match`
pub match_left : (call : Call) (answer : MatchCall) (body : Body) (visits : List ℕ) (refusal : Refusal) → Promised call answer body visits → match_refusal answer ≡ some refusal →
    AsFound call.body call.counts refusal body × NoneVisited call.visits refusal visits
match_left call answer body visits refusal P is = both_left refusal P is

-- `pattern_match_assignment`
pub assignment_left : (call : Call) (answer : MatchCall) (body : Body) (visits : List ℕ) (refusal : Refusal) → PromisedAssignment call answer body visits → match_refusal answer ≡ some refusal →
    AsFound call.body call.counts refusal body × NoneVisited call.visits refusal visits
assignment_left call answer body visits refusal P is = both_left refusal P is

-- `match_self_param`
pub self_left : (call : SelfHanded) (answer : MatchCall) (body : Body) (refusal : Refusal) → PromisedSelf call answer body → match_refusal answer ≡ some refusal →
    AsFound call.body call.counts refusal body
self_left call answer body refusal P is = left refusal P is

-- `lower_params_and_bindings`
pub params_left : (call : ParamsHanded) (answer : ParamsCall) (tables : ParamsTables) (refusal : Refusal) → PromisedParams call answer tables → params_refusal answer ≡ some refusal →
    AsFound call.body call.counts refusal tables.body × NoneVisited call.visits refusal tables.visits × (tables.bindings ≡ call.bindings)
params_left call answer tables refusal P is =
    let found = both_left refusal P.visits is in
    (found.0, found.1, bindings_left refusal (defined_of call) call.bindings tables.bindings (sym P.visits.gives.refusal ∙ is) P.locals)

-- the calls on a body
module _ (call : OnBody) (body : Body) (refusal : Refusal) where
  abbrev Kept : Type 0
  Kept = AsFound call.body call.counts refusal body

  pub temp_left : (word : ℕ) (block : BasicBlockId) (answer : TempCall) → PromisedTemp call word block answer body → temp_refusal answer ≡ some refusal → Kept
  temp_left word block answer P is = left refusal P is

  pub merge_left : (x y : OptBlock) (answer : MergeCall) → PromisedMerge call x y answer body → merge_refusal answer ≡ some refusal → Kept
  merge_left x y answer P is = left refusal P is

  pub push_left : (answer : ScopeCall) → PromisedPush call answer body → scope_refusal answer ≡ some refusal → Kept
  push_left answer P is = left refusal P is

  pub pop_assume_dropped_left : (answer : ScopeCall) → PromisedPopAssumeDropped call answer body → scope_refusal answer ≡ some refusal → Kept
  pop_assume_dropped_left answer P is = left refusal P is

  pub pop_and_drop_left : (block : BasicBlockId) (answer : DropCall) → PromisedPopAndDrop call block answer body → drop_refusal answer ≡ some refusal → Kept
  pop_and_drop_left block answer P is = left refusal P is

  pub drop_until_left : (i : ℕ) (block : BasicBlockId) (answer : DropCall) → PromisedDropUntil call i block answer body → drop_refusal answer ≡ some refusal → Kept
  drop_until_left i block answer P is = left refusal P is
