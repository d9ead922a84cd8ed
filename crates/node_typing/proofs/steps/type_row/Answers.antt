use borrow.Author.Rules.{rules}
use native.Mathlib.Omega.{arith}
use Rattle.node_typing.proofs.Known.{next_known}
use Rattle.node_typing.proofs.Passing.{row_typed}
use Rattle.node_typing.proofs.steps.type_row.Goals as goal

pub resolve-resolution-requires : goal.resolve-resolution-requires
resolve-resolution-requires c = (c.requires.0.whole, c.requires.0.bytes, c.requires.0.holds, rw c.next_context-context.ensures (next_known _ c.requires.0.holds _ c.requires.4))

pub store_making-requires : goal.store_making-requires
store_making-requires c = (c.requires.1.makings_long, c.requires.2)

pub leave_part-behind-requires : goal.leave_part-behind-requires
leave_part-behind-requires c = (c.requires.1.waiting_long, omega (arith, c.requires.3))

pub wait_for-next-requires : goal.wait_for-next-requires
wait_for-next-requires c = (omega (arith, c.leave_part-behind.auto, c.requires.1.waiting_long), omega (arith, c.leave_part-behind.ensures.within, c.requires.3))

pub returns : goal.returns
returns c = row_typed _ _ _ _ _ c.requires.2 c.requires.1.makings_long c.node_at-node.ensures c.next_context-context.ensures c.resolve-resolution.ensures c.store_making.ensures c.leave_part-behind.ensures c.wait_for-next.ensures
