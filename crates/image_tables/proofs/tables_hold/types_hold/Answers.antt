use mathlib.Core.Path.{refl, ap, ◌∙◌}
use native.Mathlib.Omega.{arith}
use borrow.Author.Rules.{rules}
use borrow.Author.Tests.{tests}
use Rattle.std.proofs.lemmas.Iterator.{YieldsList-from_range}
use Rattle.std.proofs.lemmas.Iterator.Search.{all_from_yields_List}
use Rattle.image.specs.Lists.{all_below}
use Rattle.image.specs.Rules.{type_holds}
use Rattle.image_tables.proofs.Walking.{range_tested}
use Rattle.image_tables.proofs.tables_hold.types_hold.Goals as goal

pub returns : goal.returns
returns c =
    all_from_yields_List (type_holds c.args.image.now) _ _ _ c.all.ensures.ran (YieldsList-from_range 0 c.args.tables.types.count _ refl (omega arith)) (λ x b q k. search (rules, tests))
    ∙ range_tested (type_holds c.args.image.now) c.args.tables.types.count
    ∙ ap (all_below (type_holds c.args.image.now)) c.requires.0.type_count_lem
