-- A call of `lower_params_and_bindings`, what it hands out, and what its contract promises. Assumes nothing: these are definitions.
use Rattle.std.specs.Prelude.{Ok}
use Rattle.std.specs.Prelude.{ℕ, ◌<◌, ◌≡◌, true, List, get_or}
use Rattle.row_tables.specs.Rows.{zeros}
use Rattle.refusals.specs.Refusals.{Result}
use Rattle.place.specs.declared.LocalId.{LocalId}
use Rattle.mir.specs.declared.BasicBlockId.{BasicBlockId}
use Rattle.mir.specs.declared.Counts.{Counts}
use Rattle.state.specs.State.{Body, State, decode}
use Rattle.views.specs.Views.{Mir}
use Rattle.pattern_matching.specs.Walking.{Ctx, Walk}
use Rattle.meaning.specs.Values.{Value}
use Rattle.meaning.specs.Running.{Env}
use Rattle.calls_spec.specs.Lengths.{Lengths}
use Rattle.calls_spec.specs.Calls.{Called}
use Rattle.params_spec.specs.Results.{SelfParam}
use Rattle.params_spec.specs.Results.{ParamsCall}
use Rattle.params_spec.specs.Params.{Param, Declared, ParamsOut, declare, lower_params_and_bindings}
use Rattle.params_spec.specs.Calls.{params_of, list_holds, params_hold, params_call, ParamsGives}
use Rattle.param_runs.specs.Totals.{ParamsCounted}
use Rattle.param_runs.specs.Through.{all_fit, bindings_differ, HeldFrom, ComesThrough}

-- what `lower_params_and_bindings` is handed: the image, the list of the parameters, self or none, the bindings' locals, the body, the words of the visits',
-- the counts, and the block to start from
pub record ParamsHanded : Type 0 where
  pub image : List ℕ
  pub list : List ℕ
  pub self : SelfParam
  pub bindings : List ℕ
  pub body : Body
  pub visits : List ℕ
  pub counts : Counts
  pub start : BasicBlockId
  -- a body's tables have their lengths, by their type
  pub lengths : Lengths body

-- what lies in the bindings' locals and in the tables when it returns
pub record ParamsTables : Type 0 where
  pub bindings : List ℕ
  pub body : Body
  pub visits : List ℕ

-- the list is taken, and so is all else that the call is handed beside image and body
abbrev pub ListTaken : ParamsHanded → Type 0
ListTaken call = list_holds call.image call.self call.list ≡ true

abbrev pub NumbersTaken : ParamsHanded → Type 0
NumbersTaken call = params_hold call.image call.self call.bindings call.body.blocks call.counts call.start ≡ true

-- what the call gives, by its definition
abbrev pub defined_of : ParamsHanded → Called ParamsOut
defined_of call = params_call call.image call.list call.self call.bindings call.body call.counts call.start

-- its contract (crates/params_call/src/lib.rt), of a call, its answer, and what is left
abbrev pub PromisedParams : ParamsHanded → ParamsCall → ParamsTables → Type 0
PromisedParams call answer tables =
    ParamsGives call.image call.list call.self call.counts call.start call.bindings call.body call.visits answer tables.bindings tables.body tables.visits

-- what it hands out where it is accepted: the counts, the block to go on from, the first parameter's local, and what is left
pub record ParamsHandedOut : Type 0 where
  pub counts : Counts
  pub then : BasicBlockId
  pub first : LocalId
  pub tables : ParamsTables

-- the call is accepted, and hands this out
abbrev pub AcceptedParams : ParamsHanded → ParamsHandedOut → Type 0
AcceptedParams call out = PromisedParams call (Ok (out.counts, out.then, out.first)) out.tables

-- the parameters that the list names
abbrev pub parameters_of : ParamsHanded → List Param
parameters_of call = params_of call.list

-- where the definition starts: from the body before the call, with no pattern visited
abbrev pub start_of_params : ParamsHanded → Ctx
start_of_params call = record { state = decode call.body call.counts; visits = zeros 512 }

-- the making of all locals, from there
abbrev pub declared_of : ParamsHanded → Result Declared
declared_of call = declare call.image call.self (parameters_of call) (record { state = decode call.body call.counts; bindings = call.bindings })

-- the lowering, from there
abbrev pub lowered_of : ParamsHanded → Walk ParamsOut
lowered_of call = lower_params_and_bindings call.image call.self (parameters_of call) call.bindings (start_of_params call) call.start

-- the body after the call, as rows
abbrev pub after_params : ParamsHandedOut → State
after_params out = decode out.tables.body out.counts

-- what the call hands out, as the definition gives it
abbrev pub result_of_params : ParamsHandedOut → ParamsOut
result_of_params out = record { ctx = record { state = after_params out; visits = out.tables.visits }; then = out.then; bindings = out.tables.bindings }

-- what is counted of the call
abbrev pub CountedParams : ParamsHanded → ParamsHandedOut → Type 0
CountedParams call out = ParamsCounted call.image call.self (parameters_of call) (start_of_params call) (result_of_params out)

-- Parameters that all fit, on values that all match, the first of which lies in the first parameter's local or self's: the image is bytes, and no binding stands in two of
-- the parameters, self's among them.
pub record FittingParams (call : ParamsHanded) (out : ParamsHandedOut) (vs : List Value) (env : Env) : Type 0 where
  pub image_bytes : (i : ℕ) → get_or call.image i 0 < 256
  pub all_fit_lem : all_fit call.image out.tables.bindings call.self (parameters_of call) call.counts.locals vs ≡ true
  pub bindings_differ_lem : bindings_differ call.image call.self (parameters_of call) ≡ true
  pub held : HeldFrom env call.counts.locals vs

-- the run through the values in the body M comes to the returned block, with what the parameters bind
abbrev pub ComesThroughParams : ParamsHanded → ParamsHandedOut → Mir → List Value → Env → Type 0
ComesThroughParams call out M vs env = ComesThrough call.image call.self (parameters_of call) call.bindings (start_of_params call) call.start (result_of_params out) M vs env
