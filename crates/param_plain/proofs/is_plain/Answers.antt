use borrow.Author.Tests.{eq-eqb, ne_eqb}
use Rattle.param_plain.specs.Plain.{is_plain}
use Rattle.param_plain.proofs.is_plain.Goals as goal

pub returns-then-row-ne11 : goal.returns-then-row-ne11
unfolding is_plain
returns-then-row-ne11 c = rw (ne_eqb _ _ c.if-row-ne11.true)

pub returns-then-row-ne65535 : goal.returns-then-row-ne65535
unfolding is_plain
returns-then-row-ne65535 c = rw (eq-eqb _ _ c.if-row-ne11.false, ne_eqb _ _ c.if-row-ne65535.true)

pub returns : goal.returns
unfolding is_plain
returns c = rw (eq-eqb _ _ c.if-row-ne11.false, eq-eqb _ _ c.if-row-ne65535.false)
