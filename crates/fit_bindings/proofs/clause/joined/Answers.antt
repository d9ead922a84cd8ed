use Rattle.fit_rows.proofs.Joining.{joined_alternatives, joined_own, joined_once}
use mathlib.Core.Path.{◌∙◌}
use borrow.Author.Tests.{not-true, not-false}
use Rattle.fit_bindings.proofs.clause.joined.Goals as goal

pub alternatives_fit-requires : goal.alternatives_fit-requires
alternatives_fit-requires c = (c.requires.0, c.requires.1, c.requires.2)

pub returns-then-node : goal.returns-then-node
returns-then-node c = c.alternatives_fit.ensures ∙ joined_alternatives _ c.args.node c.if-node.true

pub own_agrees-requires : goal.own_agrees-requires
own_agrees-requires c = (c.requires.0, c.requires.1, c.requires.2)

pub returns-then-not-own_agrees : goal.returns-then-not-own_agrees
returns-then-not-own_agrees c = joined_own _ c.args.node c.if-node.false c.own_agrees.ensures (c.if-not-own_agrees.true)

pub once-requires : goal.once-requires
once-requires c = c.requires

pub returns : goal.returns
returns c = joined_once _ c.args.node c.if-node.false c.own_agrees.ensures (c.if-not-own_agrees.false) c.once.ensures
