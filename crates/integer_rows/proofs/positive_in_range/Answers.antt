use borrow.Author.Rules.{rules}
use native.Mathlib.Omega.{arith}
use Rattle.integer_rows.proofs.Comparing.{small_in_every_row, greatest_equal, greatest_other}
use Rattle.integer_rows.proofs.positive_in_range.Goals as goal

pub returns-then-low-lt128 : goal.returns-then-low-lt128
returns-then-low-lt128 c = small_in_every_row _ _ c.requires _ _ c.if-high-eq0.true c.if-low-lt128.true

pub returns-then-high-row : goal.returns-then-high-row
returns-then-high-row c = greatest_equal _ _ c.integer_row-row.ensures _ _ (omega arith) c.if-high-row.true

pub returns : goal.returns
returns c = greatest_other _ _ c.integer_row-row.ensures _ _ (omega arith) c.if-high-row.false
