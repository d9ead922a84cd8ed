use Prim.Native.Nat.{◌<◌}
use Rattle.image.specs.Tables.{pattern_count}
use Rattle.fit_rows.proofs.Rows.{row_at}
use Rattle.fit_rows.proofs.Joining.{Comparing}
use Rattle.fit_bindings.proofs.clause.alternatives_fit.Given as goal

abbrev pub invariant-loop-k : goal.invariant-loop-k
invariant-loop-k l = Comparing l.image l.p.0 l.others (row_at l.others l.k) × (l.p.0 < pattern_count l.image)
