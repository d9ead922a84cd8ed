use Rattle.std.specs.Prelude.{Ok, Err}
use borrow.Author.Rules.{rules}
use Rattle.body_calls_spec.proofs.Clearing.{clears}
use Rattle.body_opening.proofs.Replying.{few_counts}
use Rattle.body_push_drop_scope_call.proofs.Answering.{scope_pushed, no_room}
use Rattle.body_push_drop_scope_call.proofs.push_step.Goals as goal

pub clear_above-requires : goal.clear_above-requires
clear_above-requires c = few_counts _ _ c.requires

pub returns-in-Ok : goal.returns-in-Ok
returns-in-Ok c = scope_pushed (clears c.requires c.clear_above.ensures) (rw c.in-Ok.is at c.push_drop_scope.ensures)

pub returns-in-Err : goal.returns-in-Err
returns-in-Err c = no_room (clears c.requires c.clear_above.ensures) c.requires (rw c.in-Err.is at c.push_drop_scope.ensures)
