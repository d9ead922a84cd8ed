use Prim.Native.Nat.{◌*◌, ◌-◌}
use borrow.Author.Rules.{rules}
use Rattle.body_tables.specs.Layout.{body_of}
use Rattle.params_spec.specs.Calls.{param_count}
use Rattle.params_laws.proofs.Lowering.{ParamsGoing}
use Rattle.params_call.proofs.lowering.lower_params.Given as goal

abbrev pub invariant-loop-i : goal.invariant-loop-i
invariant-loop-i l =
    ParamsGoing l.image l.words l.bindings l.initial.l.0 l.initial.c l.initial.here (body_of l.initial.body) l.initial.visits l.c l.here (body_of l.body) l.visits l.l.0 (2 * l.i) (param_count l.words - l.i)
