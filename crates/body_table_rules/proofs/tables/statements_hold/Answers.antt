use mathlib.Core.Path.{refl, ◌∙◌}
use native.Mathlib.Omega.{arith}
use borrow.Author.Rules.{rules}
use borrow.Author.Tests.{tests}
use Rattle.std.proofs.lemmas.Iterator.{YieldsList-from_range}
use Rattle.std.proofs.lemmas.Iterator.Search.{all_from_yields_List}
use Rattle.body_row_rules.specs.Bodies.{statement_holds}
use Rattle.body_row_rules.proofs.Loops.{range_tested}
use Rattle.body_table_rules.proofs.tables.statements_hold.Goals as goal

pub returns : goal.returns
returns c =
    all_from_yields_List (statement_holds c.args.types c.args.variants c.args.statements.now c.args.counts) _ _ _ c.all.ensures.ran (YieldsList-from_range 0 c.args.counts.statements _ refl (omega arith)) (λ x b q k. search (rules, tests))
    ∙ range_tested (statement_holds c.args.types c.args.variants c.args.statements.now c.args.counts) c.args.counts.statements
