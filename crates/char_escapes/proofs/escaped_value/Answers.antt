use borrow.Author.Rules.{rules}
use mathlib.Core.Path.{sym, ◌∙◌}
use Rattle.pattern_tokens.specs.Literals.{escaped}
use Rattle.char_escapes.proofs.escaped_value.Goals as goal

pub returns-then-is_scalar_value : goal.returns-then-is_scalar_value
unfolding escaped
returns-then-is_scalar_value c = simp (sym c.is_scalar_value.ensures ∙ c.if-is_scalar_value.true)

pub returns : goal.returns
unfolding escaped
returns c = simp (sym c.is_scalar_value.ensures ∙ c.if-is_scalar_value.false)
