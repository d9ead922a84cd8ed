use borrow.Author.Rules.{rules}
use borrow.Author.Tests.{eq-eqb, ne_eqb}
use Rattle.pattern_tokens.specs.Tokens.{begins, punctuation, first_where}
use Rattle.text_chars.specs.Bytes.{ascii}
use Rattle.mark_tokens.proofs.bar.Goals as goal

pub returns-then-b-eq61 : goal.returns-then-b-eq61
unfolding first_where begins punctuation ascii
returns-then-b-eq61 c = simp (eq-eqb _ _ c.if-b-eq61.true) c.fails.ensures

pub returns-then-b-eq124 : goal.returns-then-b-eq124
unfolding first_where begins punctuation ascii
returns-then-b-eq124 c = simp (ne_eqb _ _ c.if-b-eq61.false, eq-eqb _ _ c.if-b-eq124.true) c.fails-then-b-eq124.ensures

pub returns : goal.returns
unfolding first_where begins punctuation ascii
returns c = simp (ne_eqb _ _ c.if-b-eq61.false, ne_eqb _ _ c.if-b-eq124.false) c.mark.ensures
