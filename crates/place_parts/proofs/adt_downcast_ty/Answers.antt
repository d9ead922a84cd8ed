use borrow.Enum.Refused.{opened}
use borrow.Author.Rules.{rules}
use Rattle.place.proofs.Defaults.{no_adt_variant}
use Rattle.place_parts.proofs.adt_downcast_ty.Goals as goal

pub returns-in-Enum : goal.returns-in-Enum
returns-in-Enum c = rw c.in-Enum.is c.enum_downcast_ty.ensures

pub returns-in_default : goal.returns-in_default
returns-in_default c = no_adt_variant _ _ _ _ (opened c.in_default.in_default-own.keys2)
