use borrow.Author.Rules.{rules}
use native.Mathlib.Omega.{arith}
use Rattle.integer_rows.proofs.Comparing.{least_not_negative, least_equal, least_other}
use Rattle.integer_rows.proofs.negative_in_range.Goals as goal

pub returns-then-row-lt9223372036854775808 : goal.returns-then-row-lt9223372036854775808
returns-then-row-lt9223372036854775808 c = least_not_negative _ c.requires.0 c.args.low c.args.high (omega arith) (omega arith) _ c.integer_row-row.ensures c.if-row-lt9223372036854775808.true

pub returns-then-high-row : goal.returns-then-high-row
returns-then-high-row c = least_equal _ c.requires.0 _ _ (omega arith) (omega arith) _ c.integer_row-row.ensures c.if-row-lt9223372036854775808.false c.if-high-row.true

pub returns : goal.returns
returns c = least_other _ c.requires.0 _ _ (omega arith) (omega arith) _ c.integer_row-row.ensures c.if-row-lt9223372036854775808.false c.if-high-row.false
