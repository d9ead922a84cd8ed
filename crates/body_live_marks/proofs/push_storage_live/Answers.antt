use Rattle.refusals.proofs.Passing.{passed}
use Rattle.std.specs.Prelude.{Ok, Err}
use Rattle.body_live_marks.proofs.Marking.{binding_refused, binding_marked}
use Rattle.body_live_marks.proofs.push_storage_live.Goals as goal

pub returns-in_err-l : goal.returns-in_err-l
returns-in_err-l c = rw (passed _ _ c.from_residual.ensures.1) (binding_refused _ _ _ _ _ (rw c.in_err-l.was at c.binding_local.ensures))

pub returns : goal.returns
returns c = binding_marked _ _ _ _ _ c.push_storage_live_for_local.result (rw c.in_ok-l.was at c.binding_local.ensures) c.push_storage_live_for_local.ensures
