-- The other public calls, and what their contracts promise. Assumes nothing: these are definitions.
use Rattle.std.specs.Prelude.{ℕ, List}
use Rattle.place.specs.declared.LocalId.{LocalId}
use Rattle.mir.specs.declared.BasicBlockId.{BasicBlockId}
use Rattle.mir.specs.declared.Counts.{Counts}
use Rattle.state.specs.State.{Body}
use Rattle.lower_spec.specs.Results.{OptBlock}
use Rattle.body_calls_spec.specs.Results.{TempCall}
use Rattle.body_calls_spec.specs.Results.{MergeCall}
use Rattle.body_calls_spec.specs.Results.{ScopeCall}
use Rattle.body_calls_spec.specs.Results.{DropCall}
use Rattle.body_calls_spec.specs.Calls.{temp_call, merge_blocks_call, push_drop_scope_call, pop_assume_dropped_call, pop_and_drop_call, drop_until_scope_call}
use Rattle.calls_spec.specs.Lengths.{Lengths}
use Rattle.calls_spec.specs.Promises.{Gives}
use Rattle.body_calls_spec.specs.Answers.{temp_way, merge_way, scope_way, drop_way}
use Rattle.pattern_calls_spec.specs.Results.{MatchCall}
use Rattle.pattern_calls_spec.specs.Calls.{AssignmentGives, SelfGives}
use Rattle.called.specs.Call.{Call}

-- `pattern_match_assignment` (crates/pattern_assignment_call/src/lib.rt), of a call, its answer, and the body and the visits when it returns. It is handed what
-- `pattern_match` is but the else, which is not looked at.
abbrev pub PromisedAssignment : Call → MatchCall → Body → List ℕ → Type 0
PromisedAssignment call = AssignmentGives call.image call.bindings call.counts call.pattern call.start call.place call.body call.visits

-- what `match_self_param` is handed: the image, the bindings' locals, the body, the counts, self's binding, the block to start from, and the local that
-- is copied
pub record SelfHanded : Type 0 where
  pub image : List ℕ
  pub bindings : List ℕ
  pub body : Body
  pub counts : Counts
  pub binding : ℕ
  pub start : BasicBlockId
  pub local : LocalId
  pub lengths : Lengths body

-- its contract (crates/self_param_call/src/lib.rt), of a call, its answer, and the body when it returns
abbrev pub PromisedSelf : SelfHanded → MatchCall → Body → Type 0
PromisedSelf call = SelfGives call.image call.bindings call.counts call.binding call.start call.local call.body

-- what every call on a body is handed, beside its own numbers: the image, the body, and the counts
pub record OnBody : Type 0 where
  pub image : List ℕ
  pub body : Body
  pub counts : Counts
  pub lengths : Lengths body

-- The contracts of the calls on a body (crates/body_temp_call/src/lib.rt and so on): of a call, its numbers, its answer, and the body when it returns.
module _ (call : OnBody) where
  abbrev pub PromisedTemp : ℕ → BasicBlockId → TempCall → Body → Type 0
  PromisedTemp word block answer body = Gives temp_way call.body call.counts (temp_call call.image call.body call.counts word block) answer body

  abbrev pub PromisedMerge : OptBlock → OptBlock → MergeCall → Body → Type 0
  PromisedMerge x y answer body = Gives (merge_way x y) call.body call.counts (merge_blocks_call call.image call.body call.counts x y) answer body

  abbrev pub PromisedPush : ScopeCall → Body → Type 0
  PromisedPush answer body = Gives scope_way call.body call.counts (push_drop_scope_call call.image call.body call.counts) answer body

  abbrev pub PromisedPopAssumeDropped : ScopeCall → Body → Type 0
  PromisedPopAssumeDropped answer body =
      Gives scope_way call.body call.counts (pop_assume_dropped_call call.image call.body call.counts) answer body

  abbrev pub PromisedPopAndDrop : BasicBlockId → DropCall → Body → Type 0
  PromisedPopAndDrop block answer body =
      Gives drop_way call.body call.counts (pop_and_drop_call call.image call.body call.counts block) answer body

  abbrev pub PromisedDropUntil : ℕ → BasicBlockId → DropCall → Body → Type 0
  PromisedDropUntil i block answer body =
      Gives drop_way call.body call.counts (drop_until_scope_call call.image call.body call.counts i block) answer body
