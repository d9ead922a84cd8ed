use Rattle.fit_rows.proofs.Rows.{row_at}
use Rattle.fit_rows.proofs.Loops.{Fits}
use Rattle.fit_bindings.proofs.clause.+all_fit.Given as goal

abbrev pub decreases-all_fit : goal.decreases-all_fit
decreases-all_fit l = l.row.below

abbrev pub invariant-loop-k : goal.invariant-loop-k
invariant-loop-k l = Fits l.image l.row (row_at l.row l.k)
