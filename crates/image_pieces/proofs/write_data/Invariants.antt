use lib.ListN.{take, drop}
use Rattle.row_tables.proofs.Loops.{Storing}
use Rattle.image_pieces.proofs.write_data.Given as goal

abbrev pub invariant-loop-i : goal.invariant-loop-i
invariant-loop-i l = Storing l.initial.image l.at (take l.many (drop l.from l.source)) l.i l.image
