use borrow.Author.Rules.{rules}
use Rattle.place.proofs.Fields.{field_past, field_at_lem}
use mathlib.Core.Path.{◌∙◌, ap}
use Rattle.place.specs.declared.place_ty.PlaceTy.{PlaceTy}
use Rattle.place_parts.proofs.field_of.Goals as goal

pub returns-then-count-i : goal.returns-then-count-i
returns-then-count-i c = field_past _ _ _ _ c.if-count-i.true

pub returns : goal.returns
returns c = ap PlaceTy.Ty c.list_at.ensures ∙ field_at_lem _ _ _ _ c.if-count-i.false
