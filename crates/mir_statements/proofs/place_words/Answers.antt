use borrow.Author.Rules.{rules}
use mathlib.Core.Path.{◌∙◌}
use borrow.Author.Rules.{rules}
use Rattle.mir.specs.Statements.{place_words}
use Rattle.mir.proofs.RowParts.{place_row}
use Rattle.mir_statements.proofs.place_words.Goals as goal

pub returns : goal.returns
unfolding place_words
returns c = c.split_elems.ensures ∙ place_row _ _ _ (search rules)
