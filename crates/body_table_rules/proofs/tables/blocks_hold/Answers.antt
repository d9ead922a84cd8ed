use mathlib.Core.Path.{refl, ◌∙◌}
use native.Mathlib.Omega.{arith}
use borrow.Author.Rules.{rules}
use borrow.Author.Tests.{tests}
use Rattle.std.proofs.lemmas.Iterator.{YieldsList-from_range}
use Rattle.std.proofs.lemmas.Iterator.Search.{all_from_yields_List}
use Rattle.body_row_rules.specs.Bodies.{block_holds}
use Rattle.body_row_rules.proofs.Loops.{range_tested}
use Rattle.body_table_rules.proofs.tables.blocks_hold.Goals as goal

pub returns : goal.returns
returns c =
    all_from_yields_List (block_holds c.args.blocks.now c.args.counts) _ _ _ c.all.ensures.ran (YieldsList-from_range 0 c.args.counts.blocks _ refl (omega arith)) (λ x b q k. search (rules, tests))
    ∙ range_tested (block_holds c.args.blocks.now c.args.counts) c.args.counts.blocks
