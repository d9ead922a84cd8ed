use borrow.Author.Rules.{rules}
use Rattle.refusals.proofs.Passing.{passed_none}
use Rattle.body_leaving.proofs.Departing.{dead_marked, dead_refused}
use Rattle.body_leaving.proofs.mark_dead.Goals as goal

pub returns-in_err-c1 : goal.returns-in_err-c1
returns-in_err-c1 c =
    rw (passed_none _ _ _ _ c.from_residual.ensures.1 c.in_err-c1.ensures.ok_part c.in_err-c1.ensures.value)
    (dead_refused _ _ _ _ c.push_dead.ensures.1 (rw c.in_err-c1.ensures.ok_part at c.push_dead.ensures.0))

pub returns : goal.returns
returns c = dead_marked _ _ _ _ c.push_dead.ensures.1 c.requires (rw c.in_ok-c1.ensures.ok_part at c.push_dead.ensures.0)
