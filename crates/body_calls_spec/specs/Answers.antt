-- The answers of the calls on a body, by the definitions, and how each call answers. Assumes nothing: these are definitions.
use Rattle.std.specs.Prelude.{Ok, Err}
use Rattle.std.proofs.Math.Option.{Option, none, some}
use Rattle.refusals.specs.Refusals.{Refusal, no_pattern, breaks_a_rule, names_nothing, refusal_at}
use Rattle.mir.specs.declared.Counts.{Counts}
use Rattle.state.specs.State.{State, counts_of}
use Rattle.lower_spec.specs.Results.{OptBlock}
use Rattle.lower_spec.specs.Merging.{merged_at}
use Rattle.drop_scopes_spec.specs.Dropping.{At}
use Rattle.calls_spec.specs.Calls.{Called, bad_image, bad_call, refused_at, accepted}
use Rattle.calls_spec.specs.Promises.{Way}
use Rattle.body_calls_spec.specs.Results.{TempCall}
use Rattle.body_calls_spec.specs.Results.{MergeCall}
use Rattle.body_calls_spec.specs.Results.{ScopeCall}
use Rattle.body_calls_spec.specs.Results.{DropCall}
use Rattle.body_calls_spec.specs.declared.CallError.{CallError}

-- `temp`: the counts, and the new local, which is the next one when the call comes
abbrev pub temp_answer : Counts → Called State → TempCall
temp_answer c bad_image = Err CallError.BadImage
temp_answer c bad_call = Err CallError.BadCall
temp_answer c (refused_at e p) = Err (CallError.Refused e)
temp_answer c (accepted st) = Ok (counts_of st, record { 0 = c.locals })

-- `merge_blocks`: the counts, and the block where both go on
abbrev pub merge_answer : OptBlock → OptBlock → Counts → Called State → MergeCall
merge_answer x y c bad_image = Err CallError.BadImage
merge_answer x y c bad_call = Err CallError.BadCall
merge_answer x y c (refused_at e p) = Err (CallError.Refused e)
merge_answer x y c (accepted st) = Ok (counts_of st, merged_at (record { 0 = c.blocks }) x y)

-- `push_drop_scope` and `pop_assume_dropped`: the counts
abbrev pub scope_answer : Counts → Called State → ScopeCall
scope_answer c bad_image = Err CallError.BadImage
scope_answer c bad_call = Err CallError.BadCall
scope_answer c (refused_at e p) = Err (CallError.Refused e)
scope_answer c (accepted st) = Ok (counts_of st)

-- `pop_and_drop` and `drop_until_scope`: the counts and the block that goes on
abbrev pub drop_answer : Counts → Called At → DropCall
drop_answer c bad_image = Err CallError.BadImage
drop_answer c bad_call = Err CallError.BadCall
drop_answer c (refused_at e p) = Err (CallError.Refused e)
drop_answer c (accepted at) = Ok (counts_of at.state, at.block)

-- document 01's three numbers of each answer, where it is a refusal
abbrev pub temp_refusal : TempCall → Option Refusal
temp_refusal (Ok (c, l)) = none
temp_refusal (Err (CallError.Refused e)) = some (refusal_at e no_pattern)
temp_refusal (Err CallError.BadCall) = some names_nothing
temp_refusal (Err CallError.BadImage) = some breaks_a_rule

abbrev pub merge_refusal : MergeCall → Option Refusal
merge_refusal (Ok (c, b)) = none
merge_refusal (Err (CallError.Refused e)) = some (refusal_at e no_pattern)
merge_refusal (Err CallError.BadCall) = some names_nothing
merge_refusal (Err CallError.BadImage) = some breaks_a_rule

abbrev pub scope_refusal : ScopeCall → Option Refusal
scope_refusal (Ok c) = none
scope_refusal (Err (CallError.Refused e)) = some (refusal_at e no_pattern)
scope_refusal (Err CallError.BadCall) = some names_nothing
scope_refusal (Err CallError.BadImage) = some breaks_a_rule

abbrev pub drop_refusal : DropCall → Option Refusal
drop_refusal (Ok (c, b)) = none
drop_refusal (Err (CallError.Refused e)) = some (refusal_at e no_pattern)
drop_refusal (Err CallError.BadCall) = some names_nothing
drop_refusal (Err CallError.BadImage) = some breaks_a_rule

-- how each call answers
abbrev pub temp_way : Way State TempCall
temp_way = record { state_of = λ st. st; answer = temp_answer; numbers = temp_refusal }

abbrev pub merge_way : OptBlock → OptBlock → Way State MergeCall
merge_way x y = record { state_of = λ st. st; answer = merge_answer x y; numbers = merge_refusal }

abbrev pub scope_way : Way State ScopeCall
scope_way = record { state_of = λ st. st; answer = scope_answer; numbers = scope_refusal }

abbrev pub drop_way : Way At DropCall
drop_way = record { state_of = λ at. at.state; answer = drop_answer; numbers = drop_refusal }
