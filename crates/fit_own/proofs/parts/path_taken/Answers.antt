use borrow.Enum.Refused.{opened}
use borrow.Author.Rules.{rules}
use Rattle.image.specs.Tree.{target}
use Rattle.meaning.specs.Fit.{path_taken}
use Rattle.fit_own.proofs.Defaults.{path_refused}
use Rattle.fit_own.proofs.parts.path_taken.Goals as goal

pub returns-in-Variant : goal.returns-in-Variant
unfolding path_taken target
returns-in-Variant c = rw c.in-Variant.is c.variant_there.ensures

pub returns-in-Constant : goal.returns-in-Constant
unfolding path_taken target
returns-in-Constant c = rw c.in-Constant.is

pub returns-in_default : goal.returns-in_default
returns-in_default c = path_refused _ _ _ _ (opened c.in_default.in_default-own.keys3)
