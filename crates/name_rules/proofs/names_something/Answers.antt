use borrow.Author.Rules.{rules}
use borrow.Author.Tests.{ne_eqb}
use Rattle.name_tables.specs.Names.{names_something}
use Rattle.name_rules.proofs.names_something.Goals as goal

pub returns-in-1 : goal.returns-in-1
unfolding names_something
returns-in-1 c = rw (c.in-1.is, ← c.requires.variant_count_lem)

pub returns-in-2 : goal.returns-in-2
unfolding names_something
returns-in-2 c = rw c.in-2.is c.names_field.ensures

pub returns-in-3 : goal.returns-in-3
unfolding names_something
returns-in-3 c = rw c.in-3.is c.names_constant.ensures

pub returns-in_default : goal.returns-in_default
unfolding names_something
returns-in_default c = rw (ne_eqb _ 1 c.in_default.in_default-own.rest.0.0.1, ne_eqb _ 2 c.in_default.in_default-own.rest.0.1, ne_eqb _ 3 c.in_default.in_default-own.rest.1)
