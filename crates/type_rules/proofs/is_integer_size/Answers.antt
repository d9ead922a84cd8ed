use borrow.Author.Tests.{ne_eqb}
use Rattle.image.specs.Rules.{is_integer_size}
use Rattle.type_rules.proofs.is_integer_size.Goals as goal

pub returns-in-1 : goal.returns-in-1
unfolding is_integer_size
returns-in-1 c = rw c.in-1.is

pub returns-in-2 : goal.returns-in-2
unfolding is_integer_size
returns-in-2 c = rw c.in-2.is

pub returns-in-4 : goal.returns-in-4
unfolding is_integer_size
returns-in-4 c = rw c.in-4.is

pub returns-in-8 : goal.returns-in-8
unfolding is_integer_size
returns-in-8 c = rw c.in-8.is

pub returns-in-16 : goal.returns-in-16
unfolding is_integer_size
returns-in-16 c = rw c.in-16.is

pub returns-in_default : goal.returns-in_default
unfolding is_integer_size
returns-in_default c =
    let w = c.in_default.in_default-own.rest in
    rw (ne_eqb _ 1 w.0.0.0.0.1, ne_eqb _ 2 w.0.0.0.1, ne_eqb _ 4 w.0.0.1, ne_eqb _ 8 w.0.1, ne_eqb _ 16 w.1)
