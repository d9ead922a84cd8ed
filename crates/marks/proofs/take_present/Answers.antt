use borrow.Author.Rules.{rules}
use Rattle.marks.proofs.Takes.{taken_absent, taken_present}
use Rattle.marks.proofs.take_present.Goals as goal

pub returns-then-x-eq65535 : goal.returns-then-x-eq65535
returns-then-x-eq65535 c = taken_absent _ _ _ c.if-x-eq65535.true

pub returns : goal.returns
returns c = taken_present c.if-x-eq65535.false c.take.ensures
