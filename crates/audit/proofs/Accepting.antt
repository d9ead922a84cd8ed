-- The auditor's page on acceptance: demand 2 is not met by refusing. Each theorem is proved by one citation. `Promised call answer body visits` is what the contract of
-- `pattern_match` promises of a call, its answer, and what lies in the tables when it returns. Assumes nothing.
use Prim.Native.Nat.{ℕ}
use mathlib.Core.Path.{◌≡◌}
use mathlib.Core.Logic.{◌⊎◌}
use mathlib.Core.List.{List}
use lib.ListN.{length}
use Rattle.refusals.specs.declared.MirLowerError.{MirLowerError}
use Rattle.refusals.specs.Refusals.{number_of}
use Rattle.image.specs.declared.PatId.{PatId}
use Rattle.state.specs.State.{Body}
use Rattle.pattern_matching.specs.Walking.{Out, ok}
use Rattle.room.specs.Room.{ScopeOpen, Made}
use Rattle.pattern_calls_spec.specs.Results.{MatchCall}
use Rattle.called.specs.Call.{Call, HandedOut, Promised, Accepted, Refused, before, pattern_of, start_of, result_of}
use Rattle.called.specs.Runs.{FittingPattern}
use Rattle.called.specs.Acceptance.{Taken, HasRoom, LimitPassed, IsAcceptance}
use Rattle.called.proofs.Acceptances as calls
use Rattle.called.proofs.Refusals.{fit_refused}
use Rattle.audit.specs.Call.{lowering}

-- A call whose image, body and numbers are taken, and whose pattern fits its place: with room by document 01's counts (blocks, statements, locals, entries, elements) and a
-- scope open, whatever the contract lets it answer is an acceptance.
pub a_fitting_pattern_with_room_and_a_scope_open_is_accepted : {call : Call} → FittingPattern call → Taken call → HasRoom call → ScopeOpen (start_of call) →
    (answer : MatchCall) (body : Body) (visits : List ℕ) → Promised call answer body visits → IsAcceptance call answer body visits
a_fitting_pattern_with_room_and_a_scope_open_is_accepted = calls.fit_accepted

-- A pattern that fits is refused for a limit (11) or for want of a scope (14) alone.
pub a_fitting_pattern_is_refused_by_11_or_14_alone : {call : Call} → FittingPattern call → (e : MirLowerError) (p : PatId) → Refused call e p → (number_of e ≡ 11) ⊎ (number_of e ≡ 14)
a_fitting_pattern_is_refused_by_11_or_14_alone = fit_refused

-- A refusal by 11 names a limit that is passed, whether the pattern fits or not ..
pub a_refusal_by_11_names_a_limit_that_is_passed : (call : Call) (p : PatId) → Refused call MirLowerError.Limit p → LimitPassed call
a_refusal_by_11_names_a_limit_that_is_passed = calls.refused_limit

-- .. and one by 14 finds no scope open.
pub a_refusal_by_14_finds_no_scope_open : (call : Call) (p : PatId) → Refused call MirLowerError.NoScope p → length (before call).scopes ≡ 0
a_refusal_by_14_finds_no_scope_open = calls.refused_scope

-- Whether its pattern fits or not, a call that is accepted had room ..
pub an_accepted_call_had_room : (call : Call) (out : HandedOut) → Accepted call out → HasRoom call
an_accepted_call_had_room = calls.had_room

-- .. and, beside demand 3 on blocks and statements, the new locals and entries are exactly as many as are counted.
pub locals_and_entries_are_as_many_as_counted : (call : Call) (out : HandedOut) → Accepted call out → Made call.image call.bindings (pattern_of call) (start_of call) call.place (result_of out)
locals_and_entries_are_as_many_as_counted = calls.made

-- The same of the definition, which a call that is taken comes to: the lowering gives something.
pub a_fitting_pattern_with_room_and_a_scope_open_is_lowered : {call : Call} → FittingPattern call → Taken call → HasRoom call → ScopeOpen (start_of call) →
    (r : Out) × (lowering call.image call.bindings (pattern_of call) (start_of call) call.start call.else call.place ≡ ok r)
a_fitting_pattern_with_room_and_a_scope_open_is_lowered = calls.fit_lowered
