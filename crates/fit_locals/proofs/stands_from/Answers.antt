use mathlib.Core.Path.{ap, ◌∙◌}
use mathlib.Core.Bool.{not}
use borrow.Author.Tests.{eq-eqb}
use lib.Dec.{eqb}
use Rattle.std.proofs.Common.{rules, tests}
use Rattle.std.proofs.lemmas.Iterator.{YieldsList-from_slice}
use Rattle.std.proofs.lemmas.Iterator.Adapters.{YieldsList-from_skip}
use Rattle.std.proofs.lemmas.Iterator.Search.{any_from_yields_List}
use Rattle.fit_locals.proofs.Apart.{no_local, stands}
use Rattle.fit_locals.proofs.stands_from.Goals as goal

pub returns-then-l : goal.returns-then-l
returns-then-l c =
    any_from_yields_List (λ y. eqb y c.args.l.0) _ _ _ c.any.ensures.ran (YieldsList-from_skip c.args.from (YieldsList-from_slice c.args.bindings.now cc) c.skip.ensures.count) (λ x b q k. search (rules, tests))
    ∙ stands c.args.l.0 c.if-l.true _

pub returns-else-l : goal.returns-else-l
returns-else-l c = ap not (eq-eqb c.args.l.0 65535 c.if-l.false) ∙ no_local _ c.if-l.false _
