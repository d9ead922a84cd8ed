use Rattle.std.specs.Prelude.{Err}
use borrow.Author.Rules.{rules}
use Rattle.pattern_matching.specs.Walking.{local_place}
use Rattle.param_shutting.proofs.Unreached.{shuttable_of}
use Rattle.params_laws.proofs.Lowering.{param_refused, param_own, param_walked}
use Rattle.params_call.proofs.lowering.lower_param.Goals as goal

pub check_and_bind-lowered-requires : goal.check_and_bind-lowered-requires
unfolding local_place
check_and_bind-lowered-requires c = (c.requires.0, c.requires.1)

pub shut-requires : goal.shut-requires
shut-requires c = shuttable_of c.requires.0.ready _ c.check_and_bind-lowered.ensures

pub returns-in-Err : goal.returns-in-Err
returns-in-Err c = param_refused _ _ _ _ (rw c.in-Err.is at c.param_owned.ensures)

pub returns-in-Ok-true : goal.returns-in-Ok-true
returns-in-Ok-true c = param_own _ _ _ _ c.requires.0.begins.start (rw c.in-Ok-true.field-0-test at c.in-Ok-true.ensures)

pub returns-in-Ok-false : goal.returns-in-Ok-false
unfolding local_place
returns-in-Ok-false c = param_walked _ _ _ _ c.requires.0.ready (rw c.in-Ok-false.field-0-test at c.in-Ok-false.ensures) _ c.check_and_bind-lowered.ensures c.shut.ensures.0 c.shut.ensures.1
