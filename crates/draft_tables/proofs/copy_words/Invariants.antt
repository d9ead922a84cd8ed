use lib.ListN.{take, drop}
use Rattle.row_tables.proofs.Loops.{Storing}
use Rattle.draft_tables.proofs.copy_words.Given as goal

abbrev pub invariant-loop-i : goal.invariant-loop-i
invariant-loop-i l = Storing l.initial.draft l.to (take l.many (drop l.from l.initial.draft)) l.i l.draft
