use borrow.Author.Rules.{rules}
use mathlib.Core.Path.{◌∙◌}
use borrow.Author.Tests.{not-true, not-false}
use Rattle.fit_rows.proofs.Ways.{telling_all, telling_none, telling_one}
use Rattle.fit_rows.proofs.nodes.telling.Goals as goal

pub returns-then-not-node : goal.returns-then-not-node
returns-then-not-node c = telling_all _ (not-true c.args.node.alternatives c.if-not-node.true)

pub returns-then-node-eq0 : goal.returns-then-node-eq0
returns-then-node-eq0 c = telling_none _ (not-false c.args.node.alternatives c.if-not-node.false) c.if-node-eq0.true

pub returns : goal.returns
returns c = c.listed.ensures ∙ telling_one _ (not-false c.args.node.alternatives c.if-not-node.false) c.if-node-eq0.false
