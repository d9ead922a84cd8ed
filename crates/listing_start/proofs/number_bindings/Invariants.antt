use Rattle.listing_start.proofs.Numbers.{Numbering}
use Rattle.listing_start.proofs.number_bindings.Given as goal

abbrev pub invariant-loop-i : goal.invariant-loop-i
invariant-loop-i l = Numbering l.initial.numbers l.i l.numbers
