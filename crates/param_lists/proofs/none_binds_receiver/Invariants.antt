use Prim.Native.Nat.{◌*◌, ◌-◌}
use Rattle.params_spec.specs.Calls.{param_count}
use Rattle.param_lists.proofs.Apart.{Looked}
use Rattle.param_lists.proofs.none_binds_receiver.Given as goal

abbrev pub invariant-loop-i : goal.invariant-loop-i
invariant-loop-i l = Looked l.image l.words l.b.0 (2 * l.i) (param_count l.words - l.i)
