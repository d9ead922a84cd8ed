use borrow.Author.Rules.{rules}
use Rattle.part_resolving.specs.Parts.{rest_bound_to}
use Rattle.name_tables.specs.Tested.{use_of}
use Rattle.node_rows.specs.Nodes.{name_in}
use Rattle.name_resolving.proofs.Ways.{refused_gives, none_named, bind_gives}
use Rattle.part_resolving.proofs.Found.{rest_found}
use Rattle.part_resolving.proofs.rests.bind_rest.Goals as goal

pub returns-in_default : goal.returns-in_default
unfolding use_of name_in rest_bound_to
returns-in_default c = rw (none_named _ _ (rw c.in_default.is at c.look_up.ensures)) (bind_gives c.args.spelled.now c.args.node c.args.t c.args.mode c.args.element c.args.many c.args.copy c.binding.ensures)

pub returns : goal.returns
unfolding use_of name_in
returns c = refused_gives _ _ _ _ c.refused_here.ensures (λ text. rest_found _ _ _ _ _ _ (rw c.in-Some.is at c.look_up.ensures))
