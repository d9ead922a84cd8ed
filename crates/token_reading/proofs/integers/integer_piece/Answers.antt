use borrow.Author.Rules.{rules}
use mathlib.Core.Path.{sym, ◌∙◌}
use Rattle.pattern_tokens.specs.Literals.{integer_piece, integer_of}
use Rattle.token_reading.proofs.integers.integer_piece.Goals as goal

pub returns-then-goes_on : goal.returns-then-goes_on
unfolding integer_piece integer_of
returns-then-goes_on c = simp (← c.integer_run-size.ensures, ← c.byte_of.ensures, ← c.byte_behind.ensures, sym c.goes_on.ensures ∙ c.if-goes_on.true)

pub returns : goal.returns
unfolding integer_piece integer_of
returns c = simp (← c.integer_run-size.ensures, ← c.byte_of.ensures, ← c.byte_behind.ensures, sym c.goes_on.ensures ∙ c.if-goes_on.false)
