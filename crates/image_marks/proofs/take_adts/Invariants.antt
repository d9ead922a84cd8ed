use Rattle.image_marks.proofs.Adts.{AdtsLeft}
use Rattle.image_marks.proofs.take_adts.Given as goal

abbrev pub invariant-loop-t : goal.invariant-loop-t
invariant-loop-t l = AdtsLeft l.image l.t l.marks
