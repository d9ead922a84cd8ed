use borrow.Author.Tests.{lt-leb, le-leb}
use Rattle.image.specs.Operands.{operand_value_holds}
use Rattle.pattern_rules.proofs.operands.is_constant.Goals as goal

pub returns-then-bytes-lt1 : goal.returns-then-bytes-lt1
unfolding operand_value_holds
returns-then-bytes-lt1 c = rw (lt-leb 1 _ c.if-bytes-lt1.true)

pub returns : goal.returns
unfolding operand_value_holds
returns c = rw (le-leb 1 _ c.if-bytes-lt1.false)
