use borrow.Author.Tests.{eq-eqb, ne_eqb}
use Rattle.params_start.specs.Started.{receiver}
use Rattle.params_start.proofs.receiver_of.Goals as goal

pub returns-then-own-eq0 : goal.returns-then-own-eq0
unfolding receiver
returns-then-own-eq0 c = rw (eq-eqb _ 0 c.if-own-eq0.true)

pub returns : goal.returns
unfolding receiver
returns c = rw (ne_eqb _ 0 c.if-own-eq0.false)
