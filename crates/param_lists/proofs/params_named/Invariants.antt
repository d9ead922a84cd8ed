use Prim.Native.Nat.{◌*◌, ◌-◌}
use Rattle.params_spec.specs.Calls.{param_count}
use Rattle.param_lists.proofs.Looking.{Left}
use Rattle.param_lists.proofs.params_named.Given as goal

abbrev pub invariant-loop-i : goal.invariant-loop-i
invariant-loop-i l = Left l.image l.words (2 * l.i) (param_count l.words - l.i)
