use borrow.Author.Rules.{rules}
use borrow.Author.Tests.{eq-eqb, ne_eqb, le-leb, lt-leb}
use Rattle.pattern_typing.specs.Crossing.{has_variant_of}
use Rattle.type_crossing.proofs.has_variant.Goals as goal

pub returns-then-row-ne6 : goal.returns-then-row-ne6
unfolding has_variant_of
returns-then-row-ne6 c = rw (← c.type_in-row.ensures, ne_eqb _ 6 c.if-row-ne6.true)

pub returns-then-v-row : goal.returns-then-v-row
unfolding has_variant_of
returns-then-v-row c = rw (← c.type_in-row.ensures, eq-eqb _ 6 c.if-row-ne6.false, lt-leb _ _ c.if-v-row.true)

pub returns : goal.returns
unfolding has_variant_of
returns c = rw (← c.type_in-row.ensures, eq-eqb _ 6 c.if-row-ne6.false, le-leb _ _ c.if-v-row.false)
