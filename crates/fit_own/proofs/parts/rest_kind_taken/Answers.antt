use borrow.Enum.Refused.{opened}
use borrow.Author.Rules.{rules}
use Rattle.fit_own.proofs.Defaults.{no_binding_lem}
use Rattle.fit_own.proofs.parts.rest_kind_taken.Goals as goal

pub has_local-requires : goal.has_local-requires
has_local-requires c = c.requires c.in-Bind.is

pub returns-in-Bind : goal.returns-in-Bind
returns-in-Bind c = rw c.in-Bind.is c.has_local.ensures

pub returns-in_default : goal.returns-in_default
returns-in_default c = no_binding_lem c.args.kind _ _ (opened c.in_default.in_default-own.keys2)
