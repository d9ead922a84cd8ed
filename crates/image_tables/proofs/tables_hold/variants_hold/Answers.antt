use mathlib.Core.Path.{refl, ap, ◌∙◌}
use native.Mathlib.Omega.{arith}
use borrow.Author.Rules.{rules}
use borrow.Author.Tests.{tests}
use Rattle.std.proofs.lemmas.Iterator.{YieldsList-from_range}
use Rattle.std.proofs.lemmas.Iterator.Search.{all_from_yields_List}
use Rattle.image.specs.Lists.{all_below}
use Rattle.image.specs.Rules.{variant_holds}
use Rattle.image_tables.proofs.Walking.{range_tested}
use Rattle.image_tables.proofs.tables_hold.variants_hold.Goals as goal

pub returns : goal.returns
returns c =
    all_from_yields_List (variant_holds c.args.image.now) _ _ _ c.all.ensures.ran (YieldsList-from_range 0 c.args.tables.variants.count _ refl (omega arith)) (λ x b q k. search (rules, tests))
    ∙ range_tested (variant_holds c.args.image.now) c.args.tables.variants.count
    ∙ ap (all_below (variant_holds c.args.image.now)) c.requires.0.variant_count_lem
