use borrow.Author.Rules.{rules}
use Rattle.name_resolving.specs.Gives.{refused_of, resolved_of}
use Rattle.node_rows.specs.Makings.{making_of}
use Rattle.type_parts.specs.Parts.{parts_of}
use Rattle.name_resolving.proofs.Ways.{gives_as}
use Rattle.pattern_typing.specs.Resolving.{resolved_rest}
use Rattle.part_resolving.proofs.ByKind.{binds_none, binds_some}
use Rattle.part_resolving.proofs.rests.resolve_rest.Goals as goal

pub returns-then-node-ne7 : goal.returns-then-node-ne7
unfolding resolved_rest resolved_of refused_of making_of parts_of
returns-then-node-ne7 c = record { same = λ text. rw (binds_none text c.args.spelled.now c.args.node c.if-node-ne7.true, c.whole_made.ensures); parts = rw c.whole_made.ensures }

pub returns : goal.returns
returns c = gives_as _ (λ text. rw (binds_some text c.args.spelled.now c.args.node c.if-node-ne7.false)) c.resolve_bound_rest.ensures
