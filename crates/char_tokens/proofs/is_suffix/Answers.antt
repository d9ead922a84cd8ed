use borrow.Author.Rules.{rules}
use mathlib.Core.Path.{sym, ◌∙◌}
use borrow.Author.Tests.{eq-eqb, ne_eqb}
use Rattle.pattern_tokens.specs.Literals.{is_suffix}
use Rattle.char_tokens.proofs.is_suffix.Goals as goal

pub returns-then-is_letter : goal.returns-then-is_letter
unfolding is_suffix
returns-then-is_letter c = simp (sym c.is_letter.ensures ∙ c.if-is_letter.true)

pub returns-then-b-eq95 : goal.returns-then-b-eq95
unfolding is_suffix
returns-then-b-eq95 c = simp (sym c.is_letter.ensures ∙ c.if-is_letter.false, eq-eqb _ _ c.if-b-eq95.true) c.is_in_word.ensures

pub returns : goal.returns
unfolding is_suffix
returns c = simp (sym c.is_letter.ensures ∙ c.if-is_letter.false, ne_eqb _ _ c.if-b-eq95.false)
