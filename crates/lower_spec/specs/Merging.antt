-- Two ways into one block, as lower.rs makes it. Assumes nothing: these are definitions.
use Rattle.std.specs.Prelude.{Some, None}
use Rattle.refusals.specs.Refusals.{Result, done, and_then}
use Rattle.mir.specs.declared.BasicBlockId.{BasicBlockId}
use Rattle.mir.specs.declared.blocks.Terminator.{Terminator}
use Rattle.state.specs.State.{State}
use Rattle.state.specs.Steps.{next_block, try_block, set_terminator}
use Rattle.lower_spec.specs.Results.{OptBlock}

-- one goes on at another
abbrev pub set_goto : State → BasicBlockId → BasicBlockId → State
set_goto st source target = set_terminator st source (Terminator.Goto target)

-- both go on at a new block; where there is but one, or none, nothing is made
unfoldable pub merge_blocks : State → OptBlock → OptBlock → Result State
merge_blocks st None b = done st
merge_blocks st (Some a) None = done st
merge_blocks st (Some a) (Some b) = and_then (try_block st) (λ st₁. done (set_goto (set_goto st₁ a (next_block st)) b (next_block st)))

-- the block where both go on, `new` being the number of a new one
unfoldable pub merged_at : BasicBlockId → OptBlock → OptBlock → OptBlock
merged_at new None b = b
merged_at new (Some a) None = Some a
merged_at new (Some a) (Some b) = Some new
