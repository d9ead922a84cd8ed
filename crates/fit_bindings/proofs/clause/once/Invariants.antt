use Rattle.fit_rows.proofs.Rows.{row_at}
use Rattle.fit_rows.proofs.Joining.{Apart}
use Rattle.fit_bindings.proofs.clause.once.Given as goal

abbrev pub invariant-loop-k : goal.invariant-loop-k
invariant-loop-k l = Apart l.image l.row (row_at l.row l.k)
