use borrow.Author.Rules.{rules}
use borrow.Author.Tests.{eq-eqb, ne_eqb}
use Rattle.pattern_tokens.specs.Tokens.{begins, punctuation, first_where}
use Rattle.text_chars.specs.Bytes.{ascii}
use Rattle.mark_tokens.proofs.dots.Goals as goal

pub returns-then-b-ne46 : goal.returns-then-b-ne46
unfolding first_where begins punctuation ascii
returns-then-b-ne46 c = simp (ne_eqb _ _ c.if-b-ne46.true) c.fails.ensures

pub returns-then-c-eq46 : goal.returns-then-c-eq46
unfolding first_where begins punctuation ascii
returns-then-c-eq46 c = simp (eq-eqb _ _ c.if-b-ne46.false, eq-eqb _ _ c.if-c-eq46.true) c.fails-then-c-eq46.ensures

pub returns-then-c-eq61 : goal.returns-then-c-eq61
unfolding first_where begins punctuation ascii
returns-then-c-eq61 c = simp (eq-eqb _ _ c.if-b-ne46.false, ne_eqb _ _ c.if-c-eq46.false, eq-eqb _ _ c.if-c-eq61.true) c.mark.ensures

pub returns : goal.returns
unfolding first_where begins punctuation ascii
returns c = simp (eq-eqb _ _ c.if-b-ne46.false, ne_eqb _ _ c.if-c-eq46.false, ne_eqb _ _ c.if-c-eq61.false) c.mark-2.ensures
