use Rattle.mir.proofs.RowParts.{Split}
use Rattle.mir_statements.proofs.split_elems.Given as goal

abbrev pub invariant-loop-i : goal.invariant-loop-i
invariant-loop-i l = Split l.elems l.initial.words l.words l.i
