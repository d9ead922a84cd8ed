use borrow.Author.Rules.{rules}
use Rattle.refusals.specs.Refusals.{number_of}
use Rattle.refusal_numbers.proofs.number_of.Goals as goal

pub returns-in-IncompletePattern : goal.returns-in-IncompletePattern
unfolding number_of
returns-in-IncompletePattern c = rw c.in-IncompletePattern.is

pub returns-in-TypeError : goal.returns-in-TypeError
unfolding number_of
returns-in-TypeError c = rw c.in-TypeError.is

pub returns-in-UnresolvedField : goal.returns-in-UnresolvedField
unfolding number_of
returns-in-UnresolvedField c = rw c.in-UnresolvedField.is

pub returns-in-NotSupported : goal.returns-in-NotSupported
unfolding number_of
returns-in-NotSupported c = rw c.in-NotSupported.is

pub returns-in-Ellipsis : goal.returns-in-Ellipsis
unfolding number_of
returns-in-Ellipsis c = rw c.in-Ellipsis.is

pub returns-in-UnsizedTemporary : goal.returns-in-UnsizedTemporary
unfolding number_of
returns-in-UnsizedTemporary c = rw c.in-UnsizedTemporary.is

pub returns-in-InaccessibleLocal : goal.returns-in-InaccessibleLocal
unfolding number_of
returns-in-InaccessibleLocal c = rw c.in-InaccessibleLocal.is

pub returns-in-Expr : goal.returns-in-Expr
unfolding number_of
returns-in-Expr c = rw c.in-Expr.is

pub returns-in-Limit : goal.returns-in-Limit
unfolding number_of
returns-in-Limit c = rw c.in-Limit.is

pub returns-in-PlaceType : goal.returns-in-PlaceType
unfolding number_of
returns-in-PlaceType c = rw c.in-PlaceType.is

pub returns-in-UnresolvedName : goal.returns-in-UnresolvedName
unfolding number_of
returns-in-UnresolvedName c = rw c.in-UnresolvedName.is

pub returns-in-NoScope : goal.returns-in-NoScope
unfolding number_of
returns-in-NoScope c = rw c.in-NoScope.is
