use borrow.Author.Rules.{rules}
use Rattle.image.specs.Lists.{up_from}
use Rattle.image.specs.Integers.{least_value, greatest_value}
use Rattle.integer_rows.specs.IntegerRows.{row_size, row_signed, sixteen_bytes, integer_row}
use Rattle.integer_rows.proofs.Table.{row_right}
use Rattle.integer_rows.proofs.row_at.Goals as goal

-- the code's columns are the rule's: computed, all rows at once
pub returns : goal.returns
unfolding up_from integer_row row_size row_signed sixteen_bytes least_value greatest_value
returns c = row_right c.args.row c.requires
