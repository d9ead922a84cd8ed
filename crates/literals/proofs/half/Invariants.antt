use Rattle.literals.proofs.Halves.{Halving}
use Rattle.literals.proofs.half.Given as goal

abbrev pub invariant-loop-i : goal.invariant-loop-i
invariant-loop-i l = Halving l.bytes l.at l.count l.i l.value
