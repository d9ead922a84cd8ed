use borrow.Author.Tests.{eq-eqb, ne_eqb}
use Rattle.node_rows.specs.Nodes.{number_in}
use Rattle.pattern_typing.specs.Contexts.{is_rest_item}
use Rattle.part_contexts.proofs.is_rest_item.Goals as goal

pub returns-then-before-eq65535 : goal.returns-then-before-eq65535
unfolding is_rest_item number_in
returns-then-before-eq65535 c = rw (eq-eqb _ 65535 c.if-before-eq65535.true)

pub returns : goal.returns
unfolding is_rest_item number_in
returns c = rw (ne_eqb _ 65535 c.if-before-eq65535.false)
