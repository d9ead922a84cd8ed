use borrow.Author.Rules.{rules}
use Rattle.image.specs.Types.{variant_of}
use Rattle.image.proofs.Known.{fields_listed}
use Rattle.place_parts.proofs.variant_field.Goals as goal

pub field_of-requires : goal.field_of-requires
field_of-requires c = (c.requires.0, rw c.variant_at-row.ensures (fields_listed _ _ c.requires.1 c.requires.2))

pub returns : goal.returns
unfolding variant_of
returns c = rw (← c.variant_at-row.ensures) c.field_of.ensures
