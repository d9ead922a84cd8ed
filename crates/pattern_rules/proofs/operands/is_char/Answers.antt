use borrow.Author.Rules.{rules}
use borrow.Author.Tests.{ne_eqb, eq-eqb}
use Rattle.image.specs.Operands.{operand_value_holds}
use Rattle.pattern_rules.proofs.operands.is_char.Goals as goal

pub returns-then-bytes-ne4 : goal.returns-then-bytes-ne4
unfolding operand_value_holds
returns-then-bytes-ne4 c = rw (ne_eqb _ 4 c.if-bytes-ne4.true)

pub returns : goal.returns
unfolding operand_value_holds
returns c = rw (eq-eqb _ 4 c.if-bytes-ne4.false, ← c.little_endian4.ensures) c.is_scalar_value.ensures
