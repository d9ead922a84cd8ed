use borrow.Enum.Refused.{opened}
use borrow.Author.Rules.{rules}
use Rattle.fit_own.proofs.Defaults.{path_sure}
use Rattle.fit_own.proofs.parts.path_fails.Goals as goal

pub returns-in-Variant : goal.returns-in-Variant
returns-in-Variant c = rw c.in-Variant.is c.is_enum.ensures

pub returns-in-Constant : goal.returns-in-Constant
returns-in-Constant c = rw c.in-Constant.is

pub returns-in_default : goal.returns-in_default
returns-in_default c = path_sure _ c.args.kind (opened c.in_default.in_default-own.keys3)
