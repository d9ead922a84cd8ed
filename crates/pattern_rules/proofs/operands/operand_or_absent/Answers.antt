use borrow.Author.Rules.{rules}
use borrow.Author.Tests.{ne_eqb, eq-eqb}
use Rattle.pattern_rules.proofs.operands.operand_or_absent.Goals as goal

pub returns-then-o-eq65535 : goal.returns-then-o-eq65535
returns-then-o-eq65535 c = rw (eq-eqb _ 65535 c.if-o-eq65535.true)

pub returns : goal.returns
returns c = rw (ne_eqb _ 65535 c.if-o-eq65535.false) c.operand_holds.ensures
