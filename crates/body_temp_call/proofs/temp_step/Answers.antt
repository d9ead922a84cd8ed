use Rattle.std.specs.Prelude.{Ok, Err}
use borrow.Author.Rules.{rules}
use Rattle.body_calls_spec.proofs.Clearing.{clears}
use Rattle.body_opening.proofs.Replying.{few_counts}
use Rattle.body_temp_call.proofs.Answering.{temp_made, temp_refused}
use Rattle.body_temp_call.proofs.temp_step.Goals as goal

pub clear_above-requires : goal.clear_above-requires
clear_above-requires c = few_counts _ _ c.requires.1

pub temp-requires : goal.temp-requires
temp-requires c = c.requires.0

pub clear_above-requires-in-Err : goal.clear_above-requires-in-Err
clear_above-requires-in-Err c = few_counts _ _ c.requires.1

pub returns-in-Ok : goal.returns-in-Ok
returns-in-Ok c = temp_made _ _ _ (clears c.requires.1 c.clear_above.ensures) (rw c.in-Ok.is at c.temp.ensures)

pub returns-in-Err : goal.returns-in-Err
returns-in-Err c = temp_refused _ _ _ (clears c.requires.1 c.clear_above.ensures) c.requires.1 (rw c.in-Err.is at c.temp.ensures) c.clear_above-in-Err.ensures
