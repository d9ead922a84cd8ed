use borrow.Author.Rules.{rules}
use mathlib.Core.Path.{refl}
use Rattle.fit_rows.specs.Bound.{any_of, owned}
use Rattle.fit_rows.proofs.found.wants.Goals as goal

pub returns-in-None : goal.returns-in-None
unfolding any_of owned
returns-in-None c = rw c.in-None.is refl

pub returns-in-At : goal.returns-in-At
returns-in-At c = rw c.in-At.is c.wants_at.ensures

pub returns-in-Rest : goal.returns-in-Rest
returns-in-Rest c = rw c.in-Rest.is c.wants_rest.ensures
