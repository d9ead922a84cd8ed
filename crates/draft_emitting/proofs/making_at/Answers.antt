use borrow.Author.Rules.{rules}
use mathlib.Core.Path.{refl}
use Rattle.node_rows.specs.Makings.{making_row_at}
use Rattle.draft_emitting.proofs.making_at.Goals as goal

pub returns : goal.returns
unfolding making_row_at
returns c = refl
