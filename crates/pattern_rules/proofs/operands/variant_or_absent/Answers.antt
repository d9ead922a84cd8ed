use borrow.Author.Tests.{ne_eqb, eq-eqb}
use Rattle.pattern_rules.proofs.operands.variant_or_absent.Goals as goal

pub returns-then-v-eq65535 : goal.returns-then-v-eq65535
returns-then-v-eq65535 c = rw (eq-eqb _ 65535 c.if-v-eq65535.true)

pub returns : goal.returns
returns c = rw (ne_eqb _ 65535 c.if-v-eq65535.false, ← c.requires.variant_count_lem)
