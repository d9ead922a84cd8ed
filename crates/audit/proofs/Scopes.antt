-- The auditor's page on scopes, request S-4: "One drop per local". Each theorem is proved by one citation. It speaks of any answer and tables that the contract of a call
-- allows, whether it is accepted or refused. Assumes nothing.
use Prim.Native.Nat.{ℕ, ◌+◌}
use mathlib.Core.Path.{◌≡◌}
use mathlib.Core.Bool.{cond}
use mathlib.Core.List.{List, [], ◌∷◌, ◌++◌, map}
use Rattle.refusals.specs.declared.MirLowerError.{MirLowerError}
use Rattle.refusals.specs.Refusals.{stopped, and_then}
use Rattle.image.specs.Lists.{member}
use Rattle.mir.specs.declared.BasicBlockId.{BasicBlockId}
use Rattle.state.specs.State.{Body, State}
use Rattle.state.specs.Steps.{next_local, try_local}
use Rattle.lower_spec.specs.Results.{OptBlock}
use Rattle.lower_spec.specs.Recorded.{recorded, occurs}
use Rattle.lower_spec.specs.Temps.{is_slice, push_storage_live_for_local, temp}
use Rattle.body_calls_spec.specs.Results.{TempCall}
use Rattle.body_calls_spec.specs.Results.{MergeCall}
use Rattle.body_calls_spec.specs.Results.{ScopeCall}
use Rattle.body_calls_spec.specs.Results.{DropCall}
use Rattle.pattern_calls_spec.specs.Results.{MatchCall}
use Rattle.params_spec.specs.Results.{ParamsCall}
use Rattle.named.specs.Named.{NamedBelow}
use Rattle.named.specs.Marked.{MarksRecorded}
use Rattle.named.proofs.Recording as recording
use Rattle.named.proofs.Keeping.{temp_looked_for}
use Rattle.called.specs.Call.{Call, HandedOut, Promised, Accepted, before, after}
use Rattle.called.specs.Promises.{PromisedAssignment, SelfHanded, PromisedSelf, OnBody, PromisedTemp, PromisedMerge, PromisedPush, PromisedPopAssumeDropped, PromisedPopAndDrop, PromisedDropUntil}
use Rattle.called.specs.Params.{ParamsHanded, ParamsTables, PromisedParams}
use Rattle.called.specs.Scopes.{counts_after_temp, counts_after_merge, counts_after_scope, counts_after_drop, counts_after_match, counts_after_params, StillOnce}
use Rattle.called.proofs.Scopes as scopes
use Rattle.audit.specs.Call.{lowering}
use Rattle.audit.specs.Entries.{EntriesRow, entries_by}
use Rattle.audit.proofs.Entries as entries

-- "A live mark now records its local in the last scope unless an open scope already holds it.": behind every accepted `pattern_match` the entries are those before it and those
-- that its live marks record, in the order in which it made them.
pub a_live_mark_records_its_local_unless_an_open_scope_holds_it : (call : Call) (out : HandedOut) → Accepted call out → MarksRecorded (before call) (after out)
a_live_mark_records_its_local_unless_an_open_scope_holds_it = scopes.marks_recorded

-- A temporary's local is new, so no scope holds it: `temp` records it without a look, and this is as with one.
pub a_temporary's_local_is_held_by_no_scope : (image : List ℕ) (st : State) (word : ℕ) (block : BasicBlockId) → NamedBelow st →
    temp image st word block ≡ cond (is_slice image word) (stopped MirLowerError.UnsizedTemporary) (and_then (try_local st word) (λ st₁. push_storage_live_for_local st₁ (next_local st) block))
a_temporary's_local_is_held_by_no_scope = temp_looked_for

-- "Where a local stands at most once in all the scopes handed in, it still does afterwards", for each local by itself: of a call on a pattern, its answer, and what lies in
-- the tables when it returns ..
module _ (call : Call) (answer : MatchCall) (body : Body) (visits : List ℕ) where
  -- `pattern_match`
  pub pattern_match_leaves_a_local_at_most_once : Promised call answer body visits → StillOnce call.body call.counts body (counts_after_match call.counts answer)
  pattern_match_leaves_a_local_at_most_once = scopes.match_still_once call answer body visits

  -- `pattern_match_assignment`
  pub assignment_leaves_a_local_at_most_once : PromisedAssignment call answer body visits → StillOnce call.body call.counts body (counts_after_match call.counts answer)
  assignment_leaves_a_local_at_most_once = scopes.assignment_still_once call answer body visits

-- .. `match_self_param` ..
pub match_self_param_leaves_a_local_at_most_once : (call : SelfHanded) (answer : MatchCall) (body : Body) → PromisedSelf call answer body →
    StillOnce call.body call.counts body (counts_after_match call.counts answer)
match_self_param_leaves_a_local_at_most_once = scopes.self_still_once

-- .. `lower_params_and_bindings` ..
pub parameters_leave_a_local_at_most_once : (call : ParamsHanded) (answer : ParamsCall) (tables : ParamsTables) → PromisedParams call answer tables →
    StillOnce call.body call.counts tables.body (counts_after_params call.counts answer)
parameters_leave_a_local_at_most_once = scopes.params_still_once

-- .. and of the calls on a body: "every scope operation preserves that"
module _ (call : OnBody) (body : Body) where
  -- `temp`
  pub temp_leaves_a_local_at_most_once : (word : ℕ) (block : BasicBlockId) (answer : TempCall) → PromisedTemp call word block answer body →
      StillOnce call.body call.counts body (counts_after_temp call.counts answer)
  temp_leaves_a_local_at_most_once = scopes.temp_still_once call body

  -- `merge_blocks`
  pub merge_leaves_a_local_at_most_once : (x y : OptBlock) (answer : MergeCall) → PromisedMerge call x y answer body →
      StillOnce call.body call.counts body (counts_after_merge call.counts answer)
  merge_leaves_a_local_at_most_once = scopes.merge_still_once call body

  -- `push_drop_scope`
  pub push_leaves_a_local_at_most_once : (answer : ScopeCall) → PromisedPush call answer body → StillOnce call.body call.counts body (counts_after_scope call.counts answer)
  push_leaves_a_local_at_most_once = scopes.push_still_once call body

  -- `pop_assume_dropped`
  pub pop_assume_dropped_leaves_a_local_at_most_once : (answer : ScopeCall) → PromisedPopAssumeDropped call answer body →
      StillOnce call.body call.counts body (counts_after_scope call.counts answer)
  pop_assume_dropped_leaves_a_local_at_most_once = scopes.pop_assume_dropped_still_once call body

  -- `pop_and_drop`
  pub pop_and_drop_leaves_a_local_at_most_once : (block : BasicBlockId) (answer : DropCall) → PromisedPopAndDrop call block answer body →
      StillOnce call.body call.counts body (counts_after_drop call.counts answer)
  pop_and_drop_leaves_a_local_at_most_once = scopes.pop_and_drop_still_once call body

  -- `drop_until_scope`
  pub drop_until_scope_leaves_a_local_at_most_once : (i : ℕ) (block : BasicBlockId) (answer : DropCall) → PromisedDropUntil call i block answer body →
      StillOnce call.body call.counts body (counts_after_drop call.counts answer)
  drop_until_scope_leaves_a_local_at_most_once = scopes.drop_until_still_once call body

-- Entries computed from the images' bytes, those of a pattern whose two alternatives bind one name among them: it is recorded once.
pub two_alternatives_record_their_name_once : map (entries_by lowering) entries.rows ≡ map (λ (row : EntriesRow). row.wanted) entries.rows
two_alternatives_record_their_name_once = entries.as_wanted

-- What these words mean. How often a local stands in entries: once in itself, in another never, and in two lists as often as in both together.
pub how_often_a_local_stands : (l : ℕ) → (occurs l (l ∷ []) ≡ 1) × ((x : ℕ) → (l ≡ x → ⊥) → occurs l (x ∷ []) ≡ 0) × ((xs ys : List ℕ) → occurs l (xs ++ ys) ≡ occurs l xs + occurs l ys)
how_often_a_local_stands l = (recording.occurs_one l, recording.occurs_other l, recording.occurs_append l)

-- What live marks record: a local that is held stands in the entries as often as before, another that is marked stands there once, and one that is not marked never ..
pub what_live_marks_record : (l : ℕ) (es ls : List ℕ) → occurs l (recorded es ls) ≡ cond (member l es) (occurs l es) (cond (member l ls) 1 0)
what_live_marks_record = recording.occurs_recorded

-- .. and the entries before stand in front.
pub the_entries_before_stand_in_front : (es ls : List ℕ) → (added : List ℕ) × (recorded es ls ≡ es ++ added)
the_entries_before_stand_in_front = recording.recorded_behind
