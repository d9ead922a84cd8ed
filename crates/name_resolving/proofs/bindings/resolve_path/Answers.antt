use borrow.Author.Rules.{rules}
use Rattle.name_tables.specs.Tested.{use_of}
use Rattle.node_rows.specs.Nodes.{name_in}
use Rattle.name_resolving.proofs.Ways.{refused_gives, path_found, path_lacking, path_gives, gives_as}
use Rattle.name_resolving.proofs.bindings.resolve_path.Goals as goal

pub returns-in_default : goal.returns-in_default
unfolding use_of name_in
returns-in_default c = refused_gives _ _ _ _ c.refused_here.ensures (λ text. path_lacking _ _ _ _ (rw c.in_default.is at c.look_up.ensures))

pub returns : goal.returns
unfolding use_of name_in
returns c = gives_as _ (λ text. path_found _ _ _ _ (rw c.in-Some.is at c.look_up.ensures)) (rw (← c.cross.ensures) (path_gives _ _ _ _ _ c.path_made.ensures))
