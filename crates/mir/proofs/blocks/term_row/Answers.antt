use borrow.Author.Rules.{rules}
use Rattle.mir.specs.Blocks.{term_row}
use Rattle.mir.proofs.blocks.term_row.Goals as goal

pub returns-in-Open : goal.returns-in-Open
unfolding term_row
returns-in-Open c = rw c.in-Open.is

pub returns-in-Goto : goal.returns-in-Goto
unfolding term_row
returns-in-Goto c = rw c.in-Goto.is

pub returns-in-Switch : goal.returns-in-Switch
returns-in-Switch c = rw c.in-Switch.is c.switch_row.ensures

pub returns-in-Unreachable : goal.returns-in-Unreachable
unfolding term_row
returns-in-Unreachable c = rw c.in-Unreachable.is

pub returns-in-Drop : goal.returns-in-Drop
unfolding term_row
returns-in-Drop c = rw c.in-Drop.is
