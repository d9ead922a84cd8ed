use borrow.Author.Rules.{rules}
use mathlib.Core.Path.{refl}
use Rattle.mir.specs.Blocks.{term_row}
use Rattle.mir.proofs.blocks.switch_row.Goals as goal

pub returns : goal.returns
unfolding term_row
returns c = refl
