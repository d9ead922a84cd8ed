use borrow.Author.Rules.{rules}
use mathlib.Core.Path.{◌∙◌}
use native.Mathlib.Omega.{arith}
use mathlib.Core.Logic.{⊎_elim}
use borrow.Author.Tests.{leb-true, leb-false}
use Rattle.fit_literals.proofs.Ranging.{value_unsigned, value_positive, value_negative}
use Rattle.fit_literals.proofs.integers.in_range.Goals as goal
use Rattle.fit_literals.proofs.integers.in_range.Goals.{else-negative-via-then-negative+else-high-ge9223372036854775808, else-negative-via-else-negative}

pub negative_in_range-requires : goal.negative_in_range-requires
negative_in_range-requires c = (c.requires.0, c.if-high-ge9223372036854775808.true)

pub returns-then-high-ge9223372036854775808 : goal.returns-then-high-ge9223372036854775808
returns-then-high-ge9223372036854775808 c = c.negative_in_range.ensures ∙ value_negative _ _ _ c.requires.1 c.half-low.ensures c.half-high.ensures c.if-high-ge9223372036854775808.true c.if-negative.true

pub returns : goal.returns
returns c =
    elim c.else-negative.branch [
      | else-negative-via-then-negative+else-high-ge9223372036854775808 w ↦ c.positive_in_range.ensures ∙ value_positive _ _ _ c.requires.1 c.half-low.ensures c.half-high.ensures (omega arith) w.if-high-ge9223372036854775808.false w.if-negative.true
      | else-negative-via-else-negative w ↦ c.positive_in_range.ensures ∙ value_unsigned _ _ _ c.requires.1 c.half-low.ensures c.half-high.ensures w.if-negative.false
    ]
