use borrow.Author.Tests.{eq-eqb, ne_eqb}
use Rattle.pattern_typing.specs.Crossing.{behind_reference}
use Rattle.type_crossing.proofs.behind_reference.Goals as goal

pub returns-then-copy-eq1 : goal.returns-then-copy-eq1
unfolding behind_reference
returns-then-copy-eq1 c = rw (eq-eqb _ 1 c.if-copy-eq1.true)

pub returns-then-mode-eq1 : goal.returns-then-mode-eq1
unfolding behind_reference
returns-then-mode-eq1 c = rw (ne_eqb _ 1 c.if-copy-eq1.false, eq-eqb _ 1 c.if-mode-eq1.true)

pub returns : goal.returns
unfolding behind_reference
returns c = rw (ne_eqb _ 1 c.if-copy-eq1.false, ne_eqb _ 1 c.if-mode-eq1.false)
