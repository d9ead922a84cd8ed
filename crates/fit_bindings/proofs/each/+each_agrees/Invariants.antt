use Rattle.fit_rows.specs.Bound.{agrees, bound_in_row}
use Rattle.fit_rows.proofs.Rows.{row_at}
use Rattle.fit_rows.proofs.Loops.{Asking}
use Rattle.fit_bindings.proofs.each.+each_agrees.Given as goal

abbrev pub decreases-each_agrees : goal.decreases-each_agrees
decreases-each_agrees l = l.row.below

abbrev pub invariant-loop-k : goal.invariant-loop-k
invariant-loop-k l = Asking l.image (agrees l.test (bound_in_row l.image l.others)) l.row (row_at l.row l.k)
