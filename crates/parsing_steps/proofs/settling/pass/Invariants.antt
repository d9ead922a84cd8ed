use Rattle.parsing_steps.proofs.Passing.{Passing}
use Rattle.parsing_steps.proofs.settling.pass.Given as goal

abbrev pub invariant-loop-d : goal.invariant-loop-d
invariant-loop-d l = Passing l.stack l.initial.nodes l.depth l.rows l.nodes l.d l.n
