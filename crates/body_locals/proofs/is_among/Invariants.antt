use Rattle.body_locals.proofs.Holding.{Meets}
use Rattle.body_locals.proofs.is_among.Given as goal

abbrev pub invariant-loop-entry : goal.invariant-loop-entry
invariant-loop-entry l = Meets l.l.0 l.entry-items l.held l.entry-index
