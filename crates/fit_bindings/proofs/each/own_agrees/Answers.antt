use borrow.Author.Rules.{rules}
use mathlib.Core.Path.{refl}
use Rattle.fit_rows.specs.Bound.{all_of, owned}
use Rattle.fit_bindings.proofs.each.own_agrees.Goals as goal

pub at_agrees-requires : goal.at_agrees-requires
at_agrees-requires c = c.requires

pub rest_agrees-requires : goal.rest_agrees-requires
rest_agrees-requires c = c.requires

pub returns-in-None : goal.returns-in-None
unfolding all_of owned
returns-in-None c = rw c.in-None.is refl

pub returns-in-At : goal.returns-in-At
returns-in-At c = rw c.in-At.is c.at_agrees.ensures

pub returns-in-Rest : goal.returns-in-Rest
returns-in-Rest c = rw c.in-Rest.is c.rest_agrees.ensures
