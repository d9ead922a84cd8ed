use borrow.Author.Rules.{rules}
use Rattle.params_spec.specs.Calls.{self_named}
use Rattle.param_locals.proofs.Looking.{self_unbound, self_bound_lem}
use Rattle.param_locals.proofs.lists.self_named.Goals as goal

pub returns-in_default : goal.returns-in_default
unfolding self_named
returns-in_default c = rw c.in_default.is

pub returns-then-tables-b : goal.returns-then-tables-b
returns-then-tables-b c = rw c.in-Some.is (self_unbound c.requires _ _ c.if-tables-b.true)

pub returns : goal.returns
returns c = rw c.in-Some.is (self_bound_lem c.requires _ _ c.if-tables-b.false)
