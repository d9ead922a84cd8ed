-- Request S-4, "One drop per local", of the calls: the entries that a call leaves. Assumes nothing: these are definitions.
use Rattle.std.specs.Prelude.{Ok, Err}
use Rattle.mir.specs.declared.Counts.{Counts}
use Rattle.state.specs.State.{Body, decode}
use Rattle.lower_spec.specs.Recorded.{OncePerLocal}
use Rattle.body_calls_spec.specs.Results.{TempCall}
use Rattle.body_calls_spec.specs.Results.{MergeCall}
use Rattle.body_calls_spec.specs.Results.{ScopeCall}
use Rattle.body_calls_spec.specs.Results.{DropCall}
use Rattle.pattern_calls_spec.specs.Results.{MatchCall}
use Rattle.params_spec.specs.Results.{ParamsCall}
use Rattle.body_calls_spec.specs.declared.CallError.{CallError}
use Rattle.body_calls_spec.specs.declared.PatternCallError.{PatternCallError}

-- the counts after a call, by its answer: those that it hands out or, where it is refused, those that it was handed
abbrev pub counts_after_temp : Counts → TempCall → Counts
counts_after_temp c (Ok (c', l)) = c'
counts_after_temp c (Err (CallError.Refused e)) = c
counts_after_temp c (Err CallError.BadCall) = c
counts_after_temp c (Err CallError.BadImage) = c

abbrev pub counts_after_merge : Counts → MergeCall → Counts
counts_after_merge c (Ok (c', b)) = c'
counts_after_merge c (Err (CallError.Refused e)) = c
counts_after_merge c (Err CallError.BadCall) = c
counts_after_merge c (Err CallError.BadImage) = c

abbrev pub counts_after_scope : Counts → ScopeCall → Counts
counts_after_scope c (Ok c') = c'
counts_after_scope c (Err (CallError.Refused e)) = c
counts_after_scope c (Err CallError.BadCall) = c
counts_after_scope c (Err CallError.BadImage) = c

abbrev pub counts_after_drop : Counts → DropCall → Counts
counts_after_drop c (Ok (c', b)) = c'
counts_after_drop c (Err (CallError.Refused e)) = c
counts_after_drop c (Err CallError.BadCall) = c
counts_after_drop c (Err CallError.BadImage) = c

abbrev pub counts_after_match : Counts → MatchCall → Counts
counts_after_match c (Ok (c', then, else)) = c'
counts_after_match c (Err (PatternCallError.Refused e p)) = c
counts_after_match c (Err PatternCallError.BadCall) = c
counts_after_match c (Err PatternCallError.BadImage) = c

abbrev pub counts_after_params : Counts → ParamsCall → Counts
counts_after_params c (Ok (c', then, first)) = c'
counts_after_params c (Err (PatternCallError.Refused e p)) = c
counts_after_params c (Err PatternCallError.BadCall) = c
counts_after_params c (Err PatternCallError.BadImage) = c

-- a local that stands at most once in all the scopes handed in, tables b with counts c, stands there at most once in those that are left, b' with c'
abbrev pub StillOnce : Body → Counts → Body → Counts → Type 0
StillOnce b c b' c' = OncePerLocal (decode b c) (decode b' c')
