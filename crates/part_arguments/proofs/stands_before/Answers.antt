use borrow.Author.Tests.{eq-eqb, ne_eqb}
use Rattle.node_rows.specs.Nodes.{number_in}
use Rattle.pattern_typing.specs.Contexts.{stands_before}
use Rattle.part_arguments.proofs.stands_before.Goals as goal

pub returns-then-before-eq65535 : goal.returns-then-before-eq65535
unfolding stands_before number_in
returns-then-before-eq65535 c = rw (eq-eqb _ 65535 c.if-before-eq65535.true)

pub returns : goal.returns
unfolding stands_before number_in
returns c = rw (ne_eqb _ 65535 c.if-before-eq65535.false)
