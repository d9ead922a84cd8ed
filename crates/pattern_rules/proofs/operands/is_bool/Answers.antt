use borrow.Author.Rules.{rules}
use borrow.Author.Tests.{ne_eqb, eq-eqb}
use Rattle.image.specs.Operands.{operand_value_holds}
use Rattle.pattern_rules.proofs.operands.is_bool.Goals as goal

pub returns-then-bytes-ne1 : goal.returns-then-bytes-ne1
unfolding operand_value_holds
returns-then-bytes-ne1 c = rw (ne_eqb _ 1 c.if-bytes-ne1.true)

pub returns : goal.returns
unfolding operand_value_holds
returns c = rw (eq-eqb _ 1 c.if-bytes-ne1.false)
