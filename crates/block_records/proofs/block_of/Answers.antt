use borrow.Author.Rules.{rules}
use Rattle.block_records.specs.Records.{record_of}
use Rattle.block_records.proofs.block_of.Goals as goal

pub returns-in-Open : goal.returns-in-Open
unfolding record_of
returns-in-Open c = rw c.in-Open.is c.bare_block.ensures

pub returns-in-Goto : goal.returns-in-Goto
unfolding record_of
returns-in-Goto c = rw c.in-Goto.is c.bare_block-in-Goto.ensures

pub returns-in-Switch : goal.returns-in-Switch
unfolding record_of
returns-in-Switch c = rw c.in-Switch.is

pub returns-in-Unreachable : goal.returns-in-Unreachable
unfolding record_of
returns-in-Unreachable c = rw c.in-Unreachable.is c.bare_block-in-Unreachable.ensures

pub returns-in-Drop : goal.returns-in-Drop
unfolding record_of
returns-in-Drop c = rw c.in-Drop.is c.bare_block-in-Drop.ensures
