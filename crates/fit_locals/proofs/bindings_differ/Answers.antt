use mathlib.Core.Path.{sym, ◌∙◌}
use Rattle.fit_locals.proofs.Apart.{differ_again, differ_next, differ_end}
use Rattle.fit_locals.proofs.bindings_differ.Goals as goal

pub returns-then-stands_from : goal.returns-then-stands_from
returns-then-stands_from c = differ_again c.args.bindings.now _ c.loop-i-test.true c.stands_from.ensures c.if-stands_from.true ∙ sym c.loop-i.invariant

pub loop-i-preserved : goal.loop-i-preserved
loop-i-preserved c = c.loop-i.invariant ∙ differ_next c.args.bindings.now _ c.loop-i-test.true c.stands_from.ensures c.if-stands_from.false

pub returns : goal.returns
returns c = differ_end c.args.bindings.now _ c.loop-i-test.false ∙ sym c.loop-i.invariant
