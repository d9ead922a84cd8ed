use borrow.Author.Tests.{eq-eqb, ne_eqb}
use Rattle.pattern_words.specs.Words.{ends_prefix}
use Rattle.pattern_words.proofs.words.ends_prefix.Goals as goal

pub returns-then-b-eq35 : goal.returns-then-b-eq35
unfolding ends_prefix
returns-then-b-eq35 c = simp (eq-eqb _ _ c.if-b-eq35.true)

pub returns-then-b-eq39 : goal.returns-then-b-eq39
unfolding ends_prefix
returns-then-b-eq39 c = simp (ne_eqb _ _ c.if-b-eq35.false, eq-eqb _ _ c.if-b-eq39.true)

pub returns : goal.returns
unfolding ends_prefix
returns c = simp (ne_eqb _ _ c.if-b-eq35.false, ne_eqb _ _ c.if-b-eq39.false)
