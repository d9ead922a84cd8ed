use Rattle.std.specs.Prelude.{Ok, Err}
use borrow.Author.Rules.{rules}
use Rattle.body_calls_spec.proofs.Clearing.{clears}
use Rattle.body_opening.proofs.Replying.{few_counts}
use Rattle.body_opening.proofs.Naming.{still_scopes}
use Rattle.body_pop_assume_dropped_call.proofs.Answering.{scope_closed, no_scope}
use Rattle.body_pop_assume_dropped_call.proofs.pop_step.Goals as goal

pub clear_above-requires : goal.clear_above-requires
clear_above-requires c = few_counts _ _ c.requires.0

pub pop_assume_dropped-requires : goal.pop_assume_dropped-requires
pop_assume_dropped-requires c = (c.requires.0.scope_count, c.requires.0.entry_count, still_scopes c.requires.1 (clears c.requires.0 c.clear_above.ensures))

pub returns-in-Ok : goal.returns-in-Ok
returns-in-Ok c = scope_closed (clears c.requires.0 c.clear_above.ensures) (rw c.in-Ok.is at c.pop_assume_dropped.ensures)

pub returns-in-Err : goal.returns-in-Err
returns-in-Err c = no_scope (clears c.requires.0 c.clear_above.ensures) c.requires.0 (rw c.in-Err.is at c.pop_assume_dropped.ensures)
