use borrow.Author.Rules.{rules}
use Rattle.body_locals.proofs.Bound.{no_local, bound_local}
use Rattle.body_locals.proofs.binding_local.Goals as goal

pub returns-then-l : goal.returns-then-l
returns-then-l c = no_local _ _ c.requires c.if-l.true

pub returns : goal.returns
returns c = bound_local _ _ c.requires c.if-l.false
