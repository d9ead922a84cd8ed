use Rattle.std.specs.Prelude.{Ok, Err}
use borrow.Author.Rules.{rules}
use native.Mathlib.Omega.{arith}
use Rattle.drop_scopes_spec.specs.Dropping.{drop_until_scope}
use Rattle.body_calls_spec.proofs.Clearing.{clears}
use Rattle.body_rules.proofs.Lengths.{lengths_of}
use Rattle.body_opening.proofs.Naming.{still_entries, still_scopes}
use Rattle.body_opening.proofs.Replying.{few_counts}
use Rattle.body_opening.proofs.Dropping.{dropped, not_dropped}
use Rattle.body_drop_until_scope_call.proofs.Answering.{stays_open}
use Rattle.body_drop_until_scope_call.proofs.drop_step.Goals as goal

pub clear_above-requires : goal.clear_above-requires
clear_above-requires c = few_counts _ _ c.requires.whole.1

pub block_row-row-requires : goal.block_row-row-requires
block_row-row-requires c = (search rules, omega (arith, c.requires.whole.2, c.requires.whole.1.block_count_lem))

pub drop_until_scope-requires : goal.drop_until_scope-requires
drop_until_scope-requires c =
    let start = c in
    let S = c.requires.whole.1 in
    let C = clears S c.clear_above.ensures in
    record { whole = (c.requires.whole.0, S.local_count, S.scope_count, S.entry_count, c.requires.whole.2); entries_named = (still_entries c.requires.entries_named.0 C, still_scopes c.requires.entries_named.1 C) }

pub put_back-requires : goal.put_back-requires
put_back-requires c = (search rules, omega (arith, c.requires.whole.2, c.requires.whole.1.block_count_lem))

pub clear_above-requires-in-Err : goal.clear_above-requires-in-Err
clear_above-requires-in-Err c = few_counts _ _ c.requires.whole.1

pub returns-in-Ok : goal.returns-in-Ok
returns-in-Ok c = dropped (λ st. drop_until_scope _ st _ _) (clears c.requires.whole.1 c.clear_above.ensures) (rw c.in-Ok.is at (stays_open c.drop_until_scope.result c.drop_until_scope.ensures))

pub returns-in-Err : goal.returns-in-Err
returns-in-Err c =
    let start = c in
    let S = c.requires.whole.1 in
    not_dropped (λ st. drop_until_scope _ st _ _) (clears S c.clear_above.ensures) S (rw c.in-Err.is at (stays_open c.drop_until_scope.result c.drop_until_scope.ensures)) c.requires.whole.2 c.block_row-row.ensures c.put_back.ensures c.clear_above-in-Err.ensures (lengths_of _ (search rules)).blocks
