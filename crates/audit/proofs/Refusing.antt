-- The auditor's page on refusals, demand 1: "Refusals 1 and 2 write nothing. Any other leaves every record below the body's and scopes' counts as found and zeros above, and
-- the bindings' locals .. as handed in." Each theorem is proved by one citation. It speaks of any answer and tables that the contract of a call allows, where the answer has
-- the three numbers of a refusal. The bindings' locals are lent to be read alone, but to `lower_params_and_bindings`. Assumes nothing.
use Prim.Native.Nat.{ℕ}
use mathlib.Core.Path.{◌≡◌}
use mathlib.Core.Option.{some}
use mathlib.Core.List.{List}
use Rattle.refusals.specs.Refusals.{Refusal}
use Rattle.mir.specs.declared.BasicBlockId.{BasicBlockId}
use Rattle.state.specs.State.{Body}
use Rattle.lower_spec.specs.Results.{OptBlock}
use Rattle.body_calls_spec.specs.Results.{TempCall}
use Rattle.body_calls_spec.specs.Results.{MergeCall}
use Rattle.body_calls_spec.specs.Results.{ScopeCall}
use Rattle.body_calls_spec.specs.Results.{DropCall}
use Rattle.body_calls_spec.specs.Answers.{temp_refusal, merge_refusal, scope_refusal, drop_refusal}
use Rattle.pattern_calls_spec.specs.Results.{MatchCall}
use Rattle.pattern_calls_spec.specs.Calls.{match_refusal}
use Rattle.params_spec.specs.Results.{ParamsCall}
use Rattle.params_spec.specs.Calls.{params_refusal}
use Rattle.called.specs.Call.{Call, Promised}
use Rattle.called.specs.AsFound.{AsFound, NoneVisited}
use Rattle.called.specs.Params.{ParamsHanded, ParamsTables, PromisedParams}
use Rattle.called.specs.Promises.{PromisedAssignment, SelfHanded, PromisedSelf, OnBody, PromisedTemp, PromisedMerge, PromisedPush, PromisedPopAssumeDropped, PromisedPopAndDrop, PromisedDropUntil}
use Rattle.called.proofs.Restored as restored

-- A call on a pattern, its answer, what lies in the tables when it returns, and the numbers of a refusal.
module _ (call : Call) (answer : MatchCall) (body : Body) (visits : List ℕ) (refusal : Refusal) (is-refused : match_refusal answer ≡ some refusal) where
  -- `pattern_match`
  pub a_refused_pattern_match_leaves_all_as_found : Promised call answer body visits → AsFound call.body call.counts refusal body × NoneVisited call.visits refusal visits
  a_refused_pattern_match_leaves_all_as_found promised = restored.match_left call answer body visits refusal promised is-refused

  -- `pattern_match_assignment`
  pub a_refused_assignment_leaves_all_as_found : PromisedAssignment call answer body visits → AsFound call.body call.counts refusal body × NoneVisited call.visits refusal visits
  a_refused_assignment_leaves_all_as_found promised = restored.assignment_left call answer body visits refusal promised is-refused

-- `match_self_param`
pub a_refused_match_self_param_leaves_all_as_found : (call : SelfHanded) (answer : MatchCall) (body : Body) (refusal : Refusal) → PromisedSelf call answer body → match_refusal answer ≡ some refusal →
    AsFound call.body call.counts refusal body
a_refused_match_self_param_leaves_all_as_found = restored.self_left

-- `lower_params_and_bindings`, "and the bindings' locals .. as handed in"
module _ (call : ParamsHanded) (answer : ParamsCall) (tables : ParamsTables) (refusal : Refusal) (is-refused : params_refusal answer ≡ some refusal) where
  pub refused_parameters_leave_all_as_found : PromisedParams call answer tables →
      AsFound call.body call.counts refusal tables.body × NoneVisited call.visits refusal tables.visits × (tables.bindings ≡ call.bindings)
  refused_parameters_leave_all_as_found promised = restored.params_left call answer tables refusal promised is-refused

-- A call on a body, what lies in its tables when it returns, and the numbers of a refusal.
module _ (call : OnBody) (body : Body) (refusal : Refusal) where
  -- `temp`
  pub a_refused_temp_leaves_all_as_found : (word : ℕ) (block : BasicBlockId) (answer : TempCall) → PromisedTemp call word block answer body → temp_refusal answer ≡ some refusal →
      AsFound call.body call.counts refusal body
  a_refused_temp_leaves_all_as_found = restored.temp_left call body refusal

  -- `merge_blocks`
  pub a_refused_merge_leaves_all_as_found : (x y : OptBlock) (answer : MergeCall) → PromisedMerge call x y answer body → merge_refusal answer ≡ some refusal →
      AsFound call.body call.counts refusal body
  a_refused_merge_leaves_all_as_found = restored.merge_left call body refusal

  -- `push_drop_scope`
  pub a_refused_push_leaves_all_as_found : (answer : ScopeCall) → PromisedPush call answer body → scope_refusal answer ≡ some refusal → AsFound call.body call.counts refusal body
  a_refused_push_leaves_all_as_found = restored.push_left call body refusal

  -- `pop_assume_dropped`
  pub a_refused_pop_assume_dropped_leaves_all_as_found : (answer : ScopeCall) → PromisedPopAssumeDropped call answer body → scope_refusal answer ≡ some refusal →
      AsFound call.body call.counts refusal body
  a_refused_pop_assume_dropped_leaves_all_as_found = restored.pop_assume_dropped_left call body refusal

  -- `pop_and_drop`
  pub a_refused_pop_and_drop_leaves_all_as_found : (block : BasicBlockId) (answer : DropCall) → PromisedPopAndDrop call block answer body → drop_refusal answer ≡ some refusal →
      AsFound call.body call.counts refusal body
  a_refused_pop_and_drop_leaves_all_as_found = restored.pop_and_drop_left call body refusal

  -- `drop_until_scope`
  pub a_refused_drop_until_scope_leaves_all_as_found : (i : ℕ) (block : BasicBlockId) (answer : DropCall) → PromisedDropUntil call i block answer body → drop_refusal answer ≡ some refusal →
      AsFound call.body call.counts refusal body
  a_refused_drop_until_scope_leaves_all_as_found = restored.drop_until_left call body refusal
