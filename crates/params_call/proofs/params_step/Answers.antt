use Rattle.std.specs.Prelude.{Ok, Err}
use borrow.Author.Rules.{rules}
use native.Mathlib.Omega.{arith}
use Rattle.body_rules.proofs.Lengths.{lengths_of}
use Rattle.params_laws.proofs.Stepping.{counts_asked, row_asked, save_asked, walk_asked, lowered, not_lowered}
use Rattle.params_call.proofs.params_step.Goals as goal

pub block_row-row-requires : goal.block_row-row-requires
block_row-row-requires c = (search rules, row_asked c.requires)

pub saved_words-saved-requires : goal.saved_words-saved-requires
saved_words-saved-requires c = save_asked c.requires

pub clear_above-requires : goal.clear_above-requires
clear_above-requires c = counts_asked c.requires

pub walk_params-requires : goal.walk_params-requires
walk_params-requires c = walk_asked c.requires c.clear_above.ensures

pub put_back-requires : goal.put_back-requires
put_back-requires c = (search rules, row_asked c.requires)

pub clear_above-requires-in-Err : goal.clear_above-requires-in-Err
clear_above-requires-in-Err c = counts_asked c.requires

pub put_words-requires : goal.put_words-requires
put_words-requires c = omega (arith, c.walk_params.auto, save_asked c.requires, c.saved_words-saved.ensures.0)

pub returns-in-Ok : goal.returns-in-Ok
returns-in-Ok c = lowered c.requires c.clear_above.ensures c.args.visits.now (search (rules, c.clear_from-arg-1.given)) c.clear_from.ensures c.lowered_answer.ensures (rw c.in-Ok.is at c.walk_params.ensures)

pub returns-in-Err : goal.returns-in-Err
returns-in-Err c = not_lowered c.requires c.clear_above.ensures c.args.visits.now (search (rules, c.clear_from-arg-1.given)) c.clear_from.ensures _ (rw c.in-Err.is at c.walk_params.ensures) (lengths_of _ (search rules)).blocks (search rules) (omega (arith, c.walk_params.auto)) c.block_row-row.ensures c.saved_words-saved.ensures.1 c.put_back.ensures c.clear_above-in-Err.ensures c.clear_from-in-Err.ensures c.put_words.ensures
