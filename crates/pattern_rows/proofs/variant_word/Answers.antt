use borrow.Author.Tests.{eq-eqb, ne_eqb}
use Rattle.pattern_rows.specs.Rows.{variant_word}
use Rattle.pattern_rows.proofs.variant_word.Goals as goal

pub returns-then-row-eq6 : goal.returns-then-row-eq6
unfolding variant_word
returns-then-row-eq6 c = rw (eq-eqb _ 6 c.if-row-eq6.true)

pub returns-then-row-eq12 : goal.returns-then-row-eq12
unfolding variant_word
returns-then-row-eq12 c = rw (ne_eqb _ 6 c.if-row-eq6.false, eq-eqb _ 12 c.if-row-eq12.true)

pub returns : goal.returns
unfolding variant_word
returns c = rw (ne_eqb _ 6 c.if-row-eq6.false, ne_eqb _ 12 c.if-row-eq12.false)
