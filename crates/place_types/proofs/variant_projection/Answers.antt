use borrow.Enum.Refused.{opened}
use borrow.Author.Rules.{rules}
use Rattle.place.specs.PlaceTypes.{variant_projection}
use Rattle.place.proofs.Defaults.{not_of_variant}
use Rattle.place_types.proofs.variant_projection.Goals as goal

pub returns-in-Field : goal.returns-in-Field
unfolding variant_projection
returns-in-Field c = rw c.in-Field.is c.variant_field.ensures

pub returns-in_default : goal.returns-in_default
returns-in_default c = not_of_variant _ _ _ (opened c.in_default.in_default-own.keys2)
