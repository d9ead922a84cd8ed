use Rattle.std.specs.Prelude.{Ok, Err}
use borrow.Author.Rules.{rules}
use Rattle.body_calls_spec.proofs.Clearing.{clears}
use Rattle.body_opening.proofs.Replying.{few_counts}
use Rattle.body_merge_blocks_call.proofs.Answering.{merged, not_merged}
use Rattle.body_merge_blocks_call.proofs.merge_step.Goals as goal

pub clear_above-requires : goal.clear_above-requires
clear_above-requires c = few_counts _ _ c.requires.0

pub merge_blocks-requires : goal.merge_blocks-requires
merge_blocks-requires c = (c.requires.0.block_count_lem, c.requires.1, c.requires.2)

pub returns-in-Ok : goal.returns-in-Ok
returns-in-Ok c = merged _ _ (clears c.requires.0 c.clear_above.ensures) (rw c.in-Ok.is at c.merge_blocks.ensures)

pub returns-in-Err : goal.returns-in-Err
returns-in-Err c = not_merged _ _ (clears c.requires.0 c.clear_above.ensures) c.requires.0 (rw c.in-Err.is at c.merge_blocks.ensures)
