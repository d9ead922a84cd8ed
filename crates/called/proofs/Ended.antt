-- The run as a function, of the accepted calls of `pattern_match`: it ends at the end of then, or on reaching the else. Assumes nothing.
use Prim.Native.Nat.{ℕ}
use mathlib.Core.Path.{◌≡◌, subst}
use mathlib.Core.Bool.{true, false}
use mathlib.Core.List.{[]}
use lib.ListN.{drop}
use Rattle.state.proofs.Answering.{statement_count}
use Rattle.views.specs.Views.{Mir, mir_of}
use Rattle.meaning.specs.Running.{Env}
use Rattle.meaning.specs.Executing.{at_then}
use Rattle.correctness.specs.Demand2.{Handed}
use Rattle.correctness.proofs.Ended as ended
use Rattle.called.specs.Call.{Call, HandedOut, after, start_of, result_of}
use Rattle.called.specs.Runs.{FittingValue, matching, bound, ComesTo, EndsWhere, FunctionComesToThen, FunctionComesToElse}
use Rattle.called.proofs.Bodies.{handed, gives}
use Rattle.called.proofs.Runs.{taken, fitting}

module _ {call : Call} {out : HandedOut} (on : FittingValue call out) (env : Env) where
  abbrev m : Mir
  m = mir_of (after out)

  abbrev there : Handed call.image call.bindings (start_of call) call.start call.else call.place on.pattern.type
  there = taken call out on.accepted on.pattern.type on.pattern.of_type

  -- a value that matches
  pub ends_at_then : matching on ≡ true → FunctionComesToThen on env (bound on)
  ends_at_then e =
      subst
      (λ (n : ℕ). (c : ComesTo on m env (bound on) out.then.0 (drop n m.lines)) × EndsWhere on env out.then.0 (drop n m.lines) c.stops at_then)
      (statement_count out.body out.counts)
      (ended.matching_ends call.image call.bindings call.pattern (start_of call) call.start call.else call.place on.pattern.type on.value (handed call out on.accepted).there there (fitting on)
      (result_of out) (gives call out on.accepted) env e)

  -- any other
  pub ends_at_else : matching on ≡ false → FunctionComesToElse on env []
  ends_at_else =
      ended.other_ends call.image call.bindings call.pattern (start_of call) call.start call.else call.place on.pattern.type on.value (handed call out on.accepted).there there (fitting on)
      (result_of out) (gives call out on.accepted) env
