use Rattle.std.specs.Prelude.{Ok, Err}
use borrow.Author.Rules.{rules}
use native.Mathlib.Omega.{arith}
use Rattle.params_laws.proofs.Sequence.{declare_asked, params_asked, first_small, params_follow, declare_stops}
use Rattle.params_call.proofs.lowering.walk_params.Goals as goal

pub declare-requires : goal.declare-requires
declare-requires c = (declare_asked c.requires, c.requires.receiver, c.requires.list)

pub overflow_add-counts : goal.overflow_add-counts
overflow_add-counts c = omega (arith, c.self_count.ensures, first_small _ _ _ c.requires (rw c.in-Ok.is at c.declare.ensures))

pub lower_params-requires : goal.lower_params-requires
lower_params-requires c = rw c.self_count.ensures (params_asked _ _ _ c.requires (rw c.in-Ok.is at c.declare.ensures) (omega (arith, c.declare.auto)))

pub returns-in-Err : goal.returns-in-Err
returns-in-Err c = declare_stops _ _ _ _ (rw c.in-Err.is at c.declare.ensures)

pub returns-in-Ok : goal.returns-in-Ok
returns-in-Ok c = params_follow _ _ _ c.requires (rw c.in-Ok.is at c.declare.ensures) (rw c.self_count.ensures at c.lower_params.ensures)
