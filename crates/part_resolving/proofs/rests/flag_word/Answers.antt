use borrow.Author.Tests.{eq-eqb, ne_eqb}
use Rattle.part_resolving.proofs.rests.flag_word.Goals as goal

pub returns-then-copy-eq1 : goal.returns-then-copy-eq1
returns-then-copy-eq1 c = rw (eq-eqb _ 1 c.if-copy-eq1.true)

pub returns-else-copy-eq1 : goal.returns-else-copy-eq1
returns-else-copy-eq1 c = rw (ne_eqb _ 1 c.if-copy-eq1.false)
