use borrow.Author.Rules.{rules}
use mathlib.Core.Path.{refl}
use Rattle.name_resolving.specs.Gives.{refused_of, resolved_of}
use Rattle.node_rows.specs.Makings.{making_of}
use Rattle.type_parts.specs.Parts.{parts_of}
use Rattle.name_tables.specs.Tested.{use_of}
use Rattle.node_rows.specs.Nodes.{name_in}
use Rattle.name_resolving.proofs.Ways.{refused_gives, where_lacking, gives_as}
use Rattle.part_resolving.proofs.Found.{field_found}
use Rattle.pattern_typing.specs.Resolving.{resolved_field}
use Rattle.part_resolving.proofs.ByKind.{field_named}
use Rattle.part_resolving.proofs.fields.resolve_field.Goals as goal

pub returns-in_default : goal.returns-in_default
unfolding use_of name_in resolved_field
returns-in_default c = refused_gives _ _ _ _ c.refused_here.ensures (λ text. rw (field_named text, ← c.field_row-key.ensures) (where_lacking _ _ _ _ (rw c.in_default.is at c.look_up.ensures)))

pub returns : goal.returns
unfolding use_of name_in resolved_field resolved_of refused_of making_of parts_of
returns c = gives_as _ (λ text. field_found _ _ c.args.spelled.now text c.args.node _ _ _ c.field_row-key.ensures (rw c.in-Some.is at c.look_up.ensures)) (rw (← c.variant_fields-fields.ensures, c.made-making.ensures) (record { same = λ text. refl; parts = refl }))
