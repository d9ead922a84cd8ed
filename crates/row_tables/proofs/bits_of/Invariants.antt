use Rattle.row_tables.specs.Rows.{AtMost}
use Rattle.row_tables.proofs.bits_of.Given as goal

abbrev pub invariant-loop-number : goal.invariant-loop-number
invariant-loop-number l = AtMost l.bits l.table l.at l.number-index
