use Rattle.std.specs.Prelude.{Ok, Err}
use borrow.Author.Rules.{rules}
use Rattle.pattern_ranges.proofs.Ends.{range_holds, end_absent, end_refused, end_tests}
use Rattle.pattern_ranges.proofs.range_end.Goals as goal

pub returns-then-o-eq65535 : goal.returns-then-o-eq65535
returns-then-o-eq65535 c = end_absent _ _ _ _ _ _ _ _ _ _ c.if-o-eq65535.true c.requires.ready.1

pub lower_literal_or_const_to_operand-requires : goal.lower_literal_or_const_to_operand-requires
lower_literal_or_const_to_operand-requires c = (c.requires.image_value.0, c.requires.image_value.1, c.requires.image_value.2, range_holds _ _ c.if-o-eq65535.false c.requires.image_value.3)

pub returns-in-Err : goal.returns-in-Err
returns-in-Err c = end_refused _ _ _ _ _ _ _ _ _ _ c.if-o-eq65535.false (rw c.in-Err.is at c.lower_literal_or_const_to_operand.ensures)

pub returns-in-Ok : goal.returns-in-Ok
returns-in-Ok c = end_tests _ _ _ _ _ _ _ _ _ _ c.if-o-eq65535.false (rw c.in-Ok.is at c.lower_literal_or_const_to_operand.ensures) c.range_test.ensures
