use borrow.Author.Rules.{rules}
use Rattle.mir.specs.Rvalues.{binary_kind}
use Rattle.mir_statements.proofs.binary_kind.Goals as goal

pub returns-in-Eq : goal.returns-in-Eq
unfolding binary_kind
returns-in-Eq c = rw c.in-Eq.is

pub returns-in-Le : goal.returns-in-Le
unfolding binary_kind
returns-in-Le c = rw c.in-Le.is

pub returns-in-Ge : goal.returns-in-Ge
unfolding binary_kind
returns-in-Ge c = rw c.in-Ge.is

pub returns-in-Gt : goal.returns-in-Gt
unfolding binary_kind
returns-in-Gt c = rw c.in-Gt.is
