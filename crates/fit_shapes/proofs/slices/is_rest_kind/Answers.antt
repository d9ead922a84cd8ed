use borrow.Enum.Refused.{opened}
use Rattle.fit_shapes.proofs.Defaults.{no_rest_kind}
use Rattle.fit_shapes.proofs.slices.is_rest_kind.Goals as goal

pub returns-in-Rest : goal.returns-in-Rest
returns-in-Rest c = rw c.in-Rest.is

pub returns-in_default : goal.returns-in_default
returns-in_default c = no_rest_kind c.args.kind (opened c.in_default.in_default-own.keys2)
