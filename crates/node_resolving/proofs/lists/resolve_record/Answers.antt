use borrow.Author.Rules.{rules}
use mathlib.Core.Path.{refl}
use Rattle.name_resolving.specs.Gives.{refused_of, resolved_of}
use Rattle.node_rows.specs.Makings.{making_of}
use Rattle.type_parts.specs.Parts.{parts_of}
use Rattle.name_tables.specs.Tested.{use_of}
use Rattle.node_rows.specs.Nodes.{name_in}
use Rattle.name_resolving.proofs.Ways.{refused_gives, where_found, where_lacking, gives_as}
use Rattle.pattern_typing.specs.Resolving.{record_as}
use Rattle.node_resolving.proofs.lists.resolve_record.Goals as goal

pub returns-in_default : goal.returns-in_default
unfolding use_of name_in
returns-in_default c = refused_gives _ _ _ _ c.refused_here.ensures (λ text. where_lacking _ _ _ _ (rw c.in_default.is at c.look_up.ensures))

pub returns : goal.returns
unfolding use_of name_in resolved_of refused_of making_of parts_of record_as
returns c = gives_as _ (λ text. where_found _ _ _ _ (rw c.in-Some.is at c.look_up.ensures)) (rw (← c.cross-c.ensures, c.made-making.ensures) (record { same = λ text. refl; parts = refl }))
