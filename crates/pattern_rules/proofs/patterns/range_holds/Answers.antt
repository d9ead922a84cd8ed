use borrow.Author.Rules.{rules}
use borrow.Author.Tests.{not-true, not-false}
use Rattle.image.specs.Patterns.{pattern_shape_holds}
use Rattle.pattern_rules.proofs.patterns.range_holds.Goals as goal

pub returns-then-not-operand_or_absent : goal.returns-then-not-operand_or_absent
unfolding pattern_shape_holds
returns-then-not-operand_or_absent c = rw (← c.operand_or_absent.ensures, c.if-not-operand_or_absent.true)

pub returns-then-not-operand_or_absent-2 : goal.returns-then-not-operand_or_absent-2
unfolding pattern_shape_holds
returns-then-not-operand_or_absent-2 c = rw (← c.operand_or_absent.ensures, c.if-not-operand_or_absent.false, ← c.operand_or_absent-2.ensures, c.if-not-operand_or_absent-2.true)

pub returns : goal.returns
unfolding pattern_shape_holds
returns c = rw (← c.operand_or_absent.ensures, c.if-not-operand_or_absent.false, ← c.operand_or_absent-2.ensures, c.if-not-operand_or_absent-2.false) c.is_flag.ensures
