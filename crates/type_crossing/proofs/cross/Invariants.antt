use Rattle.type_crossing.proofs.Crossings.{Crossings}
use Rattle.type_crossing.proofs.cross.Given as goal

abbrev pub invariant-loop-derefs : goal.invariant-loop-derefs
invariant-loop-derefs l = Crossings l.sheet l.t l.mode l.ty l.behind l.derefs
