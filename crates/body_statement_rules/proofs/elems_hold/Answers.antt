use mathlib.Core.Path.{refl, ◌∙◌}
use native.Mathlib.Omega.{arith}
use borrow.Author.Rules.{rules}
use borrow.Author.Tests.{tests}
use Rattle.std.proofs.lemmas.Iterator.{YieldsList-from_range}
use Rattle.std.proofs.lemmas.Iterator.Search.{all_from_yields_List}
use Rattle.body_row_rules.specs.Bodies.{elem_at_holds}
use Rattle.body_row_rules.proofs.Loops.{range_tested}
use Rattle.body_statement_rules.proofs.elems_hold.Goals as goal

pub returns : goal.returns
returns c =
    all_from_yields_List (elem_at_holds c.args.variants c.args.statements.now c.args.i) _ _ _ c.all.ensures.ran (YieldsList-from_range 0 c.args.count _ refl (omega arith)) (λ x b q k. search (rules, tests))
    ∙ range_tested (elem_at_holds c.args.variants c.args.statements.now c.args.i) c.args.count
