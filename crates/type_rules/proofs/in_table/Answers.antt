use borrow.Author.Rules.{rules}
use mathlib.Core.Path.{refl}
use Rattle.type_rules.proofs.in_table.Goals as goal

pub returns : goal.returns
returns c = refl
