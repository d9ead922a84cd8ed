use borrow.Enum.Refused.{opened}
use borrow.Author.Rules.{rules}
use Rattle.fit_rows.specs.Nodes.{rest_by_kind}
use Rattle.fit_rows.proofs.Defaults.{rest_unbound}
use Rattle.fit_rows.proofs.nodes.rest_by_kind.Goals as goal

pub returns-in-Bind : goal.returns-in-Bind
unfolding rest_by_kind
returns-in-Bind c = rw c.in-Bind.is c.rest_of_type.ensures

pub returns-in_default : goal.returns-in_default
returns-in_default c = rest_unbound _ _ _ _ _ (opened c.in_default.in_default-own.keys2)
