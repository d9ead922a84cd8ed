-- The auditor's page on the definitions: what an accepted call hands out is what they give, the corners that document 01 marks [P], and request S-13. Each theorem is proved by one
-- citation. Assumes nothing.
use mathlib.Core.Path.{◌≡◌}
use mathlib.Core.List.{map}
use lib.ListN.{length}
use Rattle.refusals.specs.Refusals.{done}
use Rattle.pattern_matching.specs.Walking.{ok}
use Rattle.params_spec.specs.Params.{Declared}
use Rattle.param_runs.specs.Corner.{corner_answer, ParamsRow}
use Rattle.param_runs.proofs.Corners as on-parameters
use Rattle.param_runs.proofs.Receivers.{call_with_self, SelfHas}
use Rattle.called.specs.Call.{Call, HandedOut, Accepted, pattern_of, start_of, result_of}
use Rattle.called.specs.Params.{ParamsHanded, ListTaken, NumbersTaken, defined_of, ParamsHandedOut, AcceptedParams, start_of_params, declared_of, lowered_of, result_of_params}
use Rattle.called.proofs.Bodies.{gives}
use Rattle.called.proofs.Params as calls
use Rattle.audit.specs.Started.{Row, answer_by}
use Rattle.audit.specs.Call.{lowering}
use Rattle.audit.proofs.Proved as proved

-- Demand 1, of every call that is accepted: what it hands out is what the definition of `pattern_match` gives, a transcription of the Rust but for requests
-- S-1, S-4 and S-5.
pub what_is_handed_out_is_what_the_definition_gives : (call : Call) (out : HandedOut) → Accepted call out →
    lowering call.image call.bindings (pattern_of call) (start_of call) call.start call.else call.place ≡ ok (result_of out)
what_is_handed_out_is_what_the_definition_gives = gives

-- The same of `lower_params_and_bindings`, a transcription of the Rust but for requests S-1, S-4, S-5 and S-13
pub what_the_definition_gives_is_handed_out : (call : ParamsHanded) (out : ParamsHandedOut) → AcceptedParams call out → lowered_of call ≡ ok (result_of_params out)
what_the_definition_gives_is_handed_out = calls.params_give

-- The corners that document 01 marks [P], of pattern_matching.rs and of lower.rs on parameters, from the bytes of their images, which are valid; of parameters, others beside them.
pub the_proved_corners : (map (λ (row : Row). answer_by lowering row.image row.ty) proved.rows ≡ map (λ (row : Row). row.wanted) proved.rows)
    × (map (λ (row : ParamsRow). corner_answer row.image row.self row.params) on-parameters.rows ≡ map (λ (row : ParamsRow). row.wanted) on-parameters.rows)
the_proved_corners = (proved.as_wanted, on-parameters.as_wanted)

-- "`lower_params_and_bindings` gives the self binding its own parameter local": in every call whose list and own values are taken, when all locals are made, self's binding has
-- self's own local, which is the next one when the call comes.
pub self_has_its_own_local : (call : ParamsHanded) (made : Declared) → ListTaken call → NumbersTaken call → declared_of call ≡ done made →
    SelfHas call.self made.bindings (length (start_of_params call).state.locals)
self_has_its_own_local = calls.self_own_local

-- "show the branch has no input left": the call with the Rust's branch for self, as the definition had it, is the call without it, whatever it is handed.
pub the_self_branch_has_no_input : (call : ParamsHanded) →
    call_with_self call.image call.list call.self call.bindings call.body call.counts call.start ≡ defined_of call
the_self_branch_has_no_input = calls.self_branch_idle
