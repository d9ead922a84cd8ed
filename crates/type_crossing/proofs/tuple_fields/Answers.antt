use borrow.Author.Rules.{rules}
use borrow.Author.Tests.{eq-eqb, ne_eqb}
use Rattle.pattern_typing.specs.Crossing.{tuple_fields}
use Rattle.type_crossing.proofs.tuple_fields.Goals as goal

pub returns-then-row-ne5 : goal.returns-then-row-ne5
unfolding tuple_fields
returns-then-row-ne5 c = rw (← c.type_in-row.ensures, ne_eqb _ 5 c.if-row-ne5.true)

pub returns : goal.returns
unfolding tuple_fields
returns c = rw (← c.type_in-row.ensures, eq-eqb _ 5 c.if-row-ne5.false)
