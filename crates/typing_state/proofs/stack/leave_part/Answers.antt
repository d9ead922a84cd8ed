use borrow.Author.Rules.{rules}
use Rattle.typing_state.proofs.Stacks.{none_left, parent_left, part_left}
use Rattle.typing_state.proofs.stack.leave_part.Goals as goal

pub returns-then-depth-eq0 : goal.returns-then-depth-eq0
returns-then-depth-eq0 c = none_left _ _ c.if-depth-eq0.true

pub returns-then-top-le1 : goal.returns-then-top-le1
returns-then-top-le1 c = parent_left _ _ c.if-depth-eq0.false c.waiting_at-top.ensures c.if-top-le1.true

pub returns : goal.returns
returns c = part_left _ _ c.requires.0 c.requires.1 c.if-depth-eq0.false c.waiting_at-top.ensures c.if-top-le1.false c.store_waiting.ensures
