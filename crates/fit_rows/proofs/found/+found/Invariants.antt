use Rattle.fit_rows.specs.Bound.{meets}
use Rattle.fit_rows.proofs.Rows.{row_at}
use Rattle.fit_rows.proofs.Loops.{Finding}
use Rattle.fit_rows.proofs.found.+found.Given as goal

abbrev pub decreases-found : goal.decreases-found
decreases-found l = l.row.below

abbrev pub invariant-loop-k : goal.invariant-loop-k
invariant-loop-k l = Finding l.image (meets l.wanted) l.row (row_at l.row l.k)
