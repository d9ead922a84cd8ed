use borrow.Author.Rules.{rules}
use mathlib.Core.Path.{refl}
use Rattle.body_row_rules.specs.Bodies.{entry_holds}
use Rattle.body_row_rules.proofs.rows.entry_holds.Goals as goal

pub returns : goal.returns
unfolding entry_holds
returns c = refl
