use borrow.Author.Rules.{rules}
use borrow.Author.Tests.{eq-eqb, ne_eqb}
use Rattle.name_tables.specs.Names.{serves}
use Rattle.name_tables.specs.Tested.{use_of}
use Rattle.name_uses.proofs.row_serves.Goals as goal

pub returns-then-row-eq1 : goal.returns-then-row-eq1
unfolding serves use_of
returns-then-row-eq1 c = rw (c.in-Value.is, eq-eqb _ 1 c.if-row-eq1.true)

pub returns-then-row-ne2 : goal.returns-then-row-ne2
unfolding serves use_of
returns-then-row-ne2 c = rw (c.in-FieldOf.is, ne_eqb _ 2 c.if-row-ne2.true)

pub returns-in-Variant : goal.returns-in-Variant
unfolding serves use_of
returns-in-Variant c = rw c.in-Variant.is

pub returns-in-Constant : goal.returns-in-Constant
unfolding serves use_of
returns-in-Constant c = rw c.in-Constant.is

pub returns-else-row-eq1 : goal.returns-else-row-eq1
unfolding serves use_of
returns-else-row-eq1 c = rw (c.in-Value.is, ne_eqb _ 1 c.if-row-eq1.false)

pub returns-else-row-ne2 : goal.returns-else-row-ne2
unfolding serves use_of
returns-else-row-ne2 c = rw (c.in-FieldOf.is, eq-eqb _ 2 c.if-row-ne2.false)
