use mathlib.Core.Path.{ap, ◌∙◌}
use mathlib.Core.Bool.{not}
use Rattle.fit_locals.proofs.Apart.{root_again, all_apart}
use Rattle.fit_locals.proofs.locals_differ.Goals as goal

pub returns-then-not-stands_from : goal.returns-then-not-stands_from
returns-then-not-stands_from c = all_apart c.args.bindings.now _ c.stands_from.ensures c.if-not-stands_from.true c.bindings_differ.ensures

pub returns-else-not-stands_from : goal.returns-else-not-stands_from
returns-else-not-stands_from c = ap not c.if-not-stands_from.false ∙ root_again c.args.bindings.now _ c.stands_from.ensures c.if-not-stands_from.false
