use borrow.Author.Rules.{rules}
use mathlib.Core.Path.{sym, ◌∙◌}
use borrow.Author.Tests.{le-leb, lt-leb}
use Rattle.text_chars.specs.Scalars.{shortest_form}
use Rattle.text_chars.proofs.scalars.shortest_form.Goals as goal

pub returns-then-v-least : goal.returns-then-v-least
unfolding shortest_form
returns-then-v-least c = simp (lt-leb _ _ c.if-v-least.true)

pub returns-then-is_scalar_value : goal.returns-then-is_scalar_value
unfolding shortest_form
returns-then-is_scalar_value c = simp (le-leb _ _ c.if-v-least.false, sym c.is_scalar_value.ensures ∙ c.if-is_scalar_value.true)

pub returns : goal.returns
unfolding shortest_form
returns c = simp (le-leb _ _ c.if-v-least.false, sym c.is_scalar_value.ensures ∙ c.if-is_scalar_value.false)
