-- Demands 2 and 3 on runs, of the calls of `pattern_match` that are accepted. Assumes nothing.
use Prim.Native.Nat.{ℕ}
use mathlib.Core.Path.{◌≡◌, subst}
use mathlib.Core.Logic.{◌⊎◌}
use mathlib.Core.Bool.{true, false}
use mathlib.Core.List.{[]}
use lib.ListN.{drop}
use Rattle.views.specs.Views.{Mir, mir_of}
use Rattle.views.specs.Growing.{GoesOn}
use Rattle.state.proofs.Answering.{statement_count}
use Rattle.meaning.specs.Running.{Env}
use Rattle.correctness.specs.Demand2.{Handed, Fitting}
use Rattle.correctness.proofs.Demand as demand
use Rattle.called.specs.Call.{Call, HandedOut, Accepted, after, pattern_of, start_of, result_of}
use Rattle.called.specs.Runs.{OfType, FittingValue, matching, bound, StopsAt, ComesTo, ComesToThen, ComesToElse, StopsAtThen, StopsAtElse}
use Rattle.called.proofs.Bodies.{handed, gives}

-- what the call was handed, on a place of a type of the table
pub taken : (call : Call) (out : HandedOut) → Accepted call out → (t : ℕ) → OfType call t → Handed call.image call.bindings (start_of call) call.start call.else call.place t
taken call out accepted t of =
    let G = handed call out accepted in
    record { starts = G.starts; elements = call.elements; within = G.within; root = G.root; placed = of.typed; named = of.named }

-- pattern and value fit, on an image that is valid, since the call is accepted
pub fitting : {call : Call} {out : HandedOut} (on : FittingValue call out) → Fitting call.image call.bindings (start_of call) call.place on.pattern.type (pattern_of call) on.value
fitting {call} {out} on =
    record {
      image_valid = (handed call out on.accepted).image_valid;
      image_bytes = on.image_bytes;
      pattern = on.pattern.fitting;
      value = on.value_fits_lem;
    }

module _ {call : Call} {out : HandedOut} (on : FittingValue call out) (M : Mir) (goes_on_lem : GoesOn (mir_of (after out)) M) (env : Env) where
  abbrev there : Handed call.image call.bindings (start_of call) call.start call.else call.place on.pattern.type
  there = taken call out on.accepted on.pattern.type on.pattern.of_type

  -- a value that matches comes to then
  pub if_it_matches : matching on ≡ true → ComesToThen on M env (bound on)
  if_it_matches e =
      subst (λ (n : ℕ). ComesTo on M env (bound on) out.then.0 (drop n M.lines)) (statement_count out.body out.counts)
      (demand.if_it_matches call.image call.bindings call.pattern (start_of call) call.start call.else call.place on.pattern.type on.value (handed call out on.accepted).there there
      (fitting on) (result_of out) (gives call out on.accepted) M goes_on_lem env e)

  -- any other comes to else
  pub if_not : matching on ≡ false → ComesToElse on M env []
  if_not =
      demand.if_not call.image call.bindings call.pattern (start_of call) call.start call.else call.place on.pattern.type on.value (handed call out on.accepted).there there (fitting on)
      (result_of out) (gives call out on.accepted) M goes_on_lem env

  -- "the run enters no block twice and stops at then or else"
  pub stops : StopsAtThen on M env ⊎ StopsAtElse on M env
  stops =
      subst (λ (n : ℕ). StopsAt on M env out.then.0 (drop n M.lines) ⊎ StopsAtElse on M env) (statement_count out.body out.counts)
      (demand.stops_at_then_or_else call.image call.bindings call.pattern (start_of call) call.start call.else call.place on.pattern.type on.value (handed call out on.accepted).there
      there (fitting on) (result_of out) (gives call out on.accepted) M goes_on_lem env)
