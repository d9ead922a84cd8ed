use borrow.Author.Tests.{eq-eqb, ne_eqb}
use Rattle.lowering_c.specs.Words.{block_or_none}
use Rattle.lowering_c.proofs.block_or_none.Goals as goal

pub returns-then-word-eq65535 : goal.returns-then-word-eq65535
unfolding block_or_none
returns-then-word-eq65535 c = rw (eq-eqb _ 65535 c.if-word-eq65535.true)

pub returns : goal.returns
unfolding block_or_none
returns c = rw (ne_eqb _ 65535 c.if-word-eq65535.false)
