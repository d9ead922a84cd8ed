use borrow.Author.Rules.{rules}
use mathlib.Core.Path.{sym, ◌∙◌}
use Rattle.pattern_tokens.specs.Literals.{in_integer}
use Rattle.token_reading.proofs.integers.is_in_integer.Goals as goal

pub returns-then-is_digit : goal.returns-then-is_digit
unfolding in_integer
returns-then-is_digit c = simp (sym c.is_digit.ensures ∙ c.if-is_digit.true)

pub returns : goal.returns
unfolding in_integer
returns c = simp (sym c.is_digit.ensures ∙ c.if-is_digit.false)
