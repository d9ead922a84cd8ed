use Rattle.std.specs.Prelude.{Ok, Err}
use borrow.Author.Rules.{rules}
use native.Mathlib.Omega.{arith}
use Rattle.body_calls_spec.proofs.Clearing.{clears}
use Rattle.body_rules.proofs.Lengths.{lengths_of}
use Rattle.body_opening.proofs.Replying.{few_counts}
use Rattle.pattern_matching.specs.Walking.{local_place}
use Rattle.self_param_call.proofs.Filling.{self_matched, self_not_matched}
use Rattle.self_param_call.proofs.self_step.Goals as goal

pub clear_above-requires : goal.clear_above-requires
clear_above-requires c = few_counts _ _ c.requires.0

pub block_row-row-requires : goal.block_row-row-requires
block_row-row-requires c = (search rules, omega (arith, c.requires.2, c.requires.0.block_count_lem))

pub pattern_match_binding-requires : goal.pattern_match_binding-requires
pattern_match_binding-requires c = (c.requires.1, (clears c.requires.0 c.clear_above.ensures).ready, record { start = c.requires.2; else = tt })

pub put_back-requires : goal.put_back-requires
put_back-requires c = (search rules, omega (arith, c.requires.2, c.requires.0.block_count_lem))

pub clear_above-requires-in-Err : goal.clear_above-requires-in-Err
clear_above-requires-in-Err c = few_counts _ _ c.requires.0

pub returns-in-Ok : goal.returns-in-Ok
unfolding local_place
returns-in-Ok c = self_matched c.args.bindings.now c.args.b.0 c.args.current c.args.l (clears c.requires.0 c.clear_above.ensures) (rw c.in-Ok.is at c.pattern_match_binding.ensures)

pub returns-in-Err : goal.returns-in-Err
unfolding local_place
returns-in-Err c = self_not_matched c.args.bindings.now c.args.b.0 c.args.current c.args.l (clears c.requires.0 c.clear_above.ensures) c.requires.0 (rw c.in-Err.is at c.pattern_match_binding.ensures) c.requires.2 c.block_row-row.ensures c.put_back.ensures c.clear_above-in-Err.ensures (lengths_of _ (search rules)).blocks
