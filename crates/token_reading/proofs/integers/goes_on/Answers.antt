use borrow.Author.Rules.{rules}
use mathlib.Core.Path.{sym, ◌∙◌}
use borrow.Author.Tests.{eq-eqb, ne_eqb}
use Rattle.pattern_tokens.specs.Literals.{goes_on}
use Rattle.token_reading.proofs.integers.goes_on.Goals as goal

pub returns-then-begins_word : goal.returns-then-begins_word
unfolding goes_on
returns-then-begins_word c = simp (sym c.begins_word.ensures ∙ c.if-begins_word.true)

pub returns-then-b-ne46 : goal.returns-then-b-ne46
unfolding goes_on
returns-then-b-ne46 c = simp (sym c.begins_word.ensures ∙ c.if-begins_word.false, ne_eqb _ _ c.if-b-ne46.true)

pub returns-then-c-eq46 : goal.returns-then-c-eq46
unfolding goes_on
returns-then-c-eq46 c = simp (sym c.begins_word.ensures ∙ c.if-begins_word.false, eq-eqb _ _ c.if-b-ne46.false, eq-eqb _ _ c.if-c-eq46.true)

pub returns-then-begins_word-2 : goal.returns-then-begins_word-2
unfolding goes_on
returns-then-begins_word-2 c = simp (sym c.begins_word.ensures ∙ c.if-begins_word.false, eq-eqb _ _ c.if-b-ne46.false, ne_eqb _ _ c.if-c-eq46.false, sym c.begins_word-2.ensures ∙ c.if-begins_word-2.true)

pub returns : goal.returns
unfolding goes_on
returns c = simp (sym c.begins_word.ensures ∙ c.if-begins_word.false, eq-eqb _ _ c.if-b-ne46.false, ne_eqb _ _ c.if-c-eq46.false, sym c.begins_word-2.ensures ∙ c.if-begins_word-2.false)
