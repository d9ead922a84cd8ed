use Rattle.refusals.proofs.Passing.{passed}
use Rattle.body_leaving.proofs.Departing.{departs, departing_stops, departing_ends}
use Rattle.body_leaving.proofs.emit_drop_and_storage_dead_for_scope.Goals as goal

pub loop-i-preserved : goal.loop-i-preserved
loop-i-preserved c = departs c.loop-i.invariant c.loop-i-test.true c.entry_local-l.ensures c.in_ok-c.ensures

pub returns-in_err-c : goal.returns-in_err-c
returns-in_err-c c = rw (passed _ _ c.from_residual.ensures.1) (departing_stops c.loop-i.invariant c.loop-i-test.true c.entry_local-l.ensures c.in_err-c.ensures)

pub returns : goal.returns
returns c = departing_ends c.loop-i.invariant c.loop-i-test.false
