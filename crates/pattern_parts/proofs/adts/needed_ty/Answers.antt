use borrow.Enum.Refused.{opened}
use borrow.Author.Rules.{rules}
use Rattle.pattern_parts.specs.Parts.{needed_ty}
use Rattle.pattern_parts.proofs.Defaults.{not_needed}
use Rattle.pattern_parts.proofs.adts.needed_ty.Goals as goal

pub returns-in-Ty : goal.returns-in-Ty
unfolding needed_ty
returns-in-Ty c = rw c.in-Ty.is

pub returns-in-Variant : goal.returns-in-Variant
unfolding needed_ty
returns-in-Variant c = rw c.in-Variant.is

pub returns-in-Inapplicable : goal.returns-in-Inapplicable
unfolding needed_ty
returns-in-Inapplicable c = rw c.in-Inapplicable.is

pub returns-in_default : goal.returns-in_default
returns-in_default c = not_needed _ (opened c.in_default.in_default-own.keys4)
