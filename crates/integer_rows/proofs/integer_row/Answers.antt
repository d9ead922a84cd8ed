use borrow.Author.Rules.{rules}
use mathlib.Core.Path.{◌∙◌, ap₂}
use Rattle.integer_rows.specs.IntegerRows.{integer_row}
use Rattle.integer_rows.proofs.integer_row.Goals as goal

pub returns : goal.returns
returns c = c.row_at.ensures ∙ ap₂ integer_row c.row_number.ensures.1 c.row_number.ensures.2
