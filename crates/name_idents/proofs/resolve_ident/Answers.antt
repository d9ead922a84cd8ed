use borrow.Author.Rules.{rules}
use borrow.Author.Tests.{le-leb}
use native.Mathlib.Omega.{arith}
use mathlib.Core.Path.{◌∙◌}
use Rattle.name_tables.specs.Tested.{use_of}
use Rattle.node_rows.specs.Nodes.{name_in}
use Rattle.name_resolving.proofs.Ways.{refused_gives, none_named, ident_found, ident_path, marked, bind_gives, path_gives, gives_as}
use Rattle.pattern_typing.specs.Resolving.{resolved_ident}
use Rattle.name_idents.proofs.resolve_ident.Goals as goal

pub returns-in_default : goal.returns-in_default
unfolding use_of name_in resolved_ident
returns-in_default c = rw (none_named _ _ (rw c.in_default.is at c.look_up.ensures)) (bind_gives c.args.spelled.now c.args.node c.args.t c.args.mode 65535 0 0 c.binding.ensures)

pub returns-then-node-ne0 : goal.returns-then-node-ne0
unfolding use_of name_in
returns-then-node-ne0 c = refused_gives _ _ _ _ c.refused_here.ensures (λ text. ident_found _ _ _ _ _ _ _ (rw c.in-Some.is at c.look_up.ensures) ∙ rw (marked c.args.node.more c.args.node.parts c.if-node-ne0.true))

pub returns-then-node-ne0-2 : goal.returns-then-node-ne0-2
unfolding use_of name_in
returns-then-node-ne0-2 c = refused_gives _ _ _ _ c.refused_here-then-node-ne0-2.ensures (λ text. ident_found _ _ _ _ _ _ _ (rw c.in-Some.is at c.look_up.ensures) ∙ rw (c.if-node-ne0.false, le-leb 1 c.args.node.parts (omega (arith, c.if-node-ne0-2.true))))

pub returns : goal.returns
unfolding use_of name_in
returns c = gives_as _ (λ text. ident_path _ _ c.args.spelled.now c.args.node _ _ _ (rw c.in-Some.is at c.look_up.ensures) c.if-node-ne0.false c.if-node-ne0-2.false) (rw (← c.cross.ensures) (path_gives _ _ _ _ _ c.path_made.ensures))
