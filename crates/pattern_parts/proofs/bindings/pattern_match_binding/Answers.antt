use Rattle.refusals.proofs.Passing.{passed_none}
use Rattle.std.specs.Prelude.{Some, None, Err}
use borrow.Author.Rules.{rules}
use mathlib.Core.Path.{sym, ◌∙◌}
use Rattle.pattern_parts.proofs.Filling.{binding_absent, binding_unmarked, binding_filled}
use Rattle.pattern_parts.proofs.bindings.pattern_match_binding.Goals as goal

pub returns-in_err-c2-in-Ok-push_storage_live_for_local : goal.returns-in_err-c2-in-Ok-push_storage_live_for_local
returns-in_err-c2-in-Ok-push_storage_live_for_local c = rw (passed_none _ _ _ _ c.from_residual.ensures.1 c.in_err-c2-in-Ok-push_storage_live_for_local.ensures.ok_part c.in_err-c2-in-Ok-push_storage_live_for_local.ensures.value) (binding_filled _ _ _ _ _ _ _ _ _ _ (rw c.in-Ok.is at c.binding_local.ensures) None (search (rules, c.well_formed.1.1.1.1.1.1.1.1.1.0)) c.requires.1 c.requires.2 (rw c.in-Ok-push_storage_live_for_local.is at c.push_storage_live_for_local.ensures) c.binding_rvalue.ensures (sym c.in_err-c2-in-Ok-push_storage_live_for_local.ensures.ok_part ∙ c.push_assignment.ensures.0) c.push_assignment.ensures.1)

pub returns-in-Err : goal.returns-in-Err
returns-in-Err c = binding_absent _ _ _ _ _ _ _ _ _ _ (rw c.in-Err.is at c.binding_local.ensures)

pub returns-in-Err-push_storage_live_for_local : goal.returns-in-Err-push_storage_live_for_local
returns-in-Err-push_storage_live_for_local c = binding_unmarked _ _ _ _ _ _ _ _ _ _ (rw c.in-Ok.is at c.binding_local.ensures) (rw c.in-Err-push_storage_live_for_local.is at c.push_storage_live_for_local.ensures)

pub returns-in_ok-c2-in-Ok-push_storage_live_for_local : goal.returns-in_ok-c2-in-Ok-push_storage_live_for_local
returns-in_ok-c2-in-Ok-push_storage_live_for_local c = binding_filled _ _ _ _ _ _ _ _ _ _ (rw c.in-Ok.is at c.binding_local.ensures) (Some _) (search (rules, c.well_formed.1.1.1.1.1.1.1.1.1.0)) c.requires.1 c.requires.2 (rw c.in-Ok-push_storage_live_for_local.is at c.push_storage_live_for_local.ensures) c.binding_rvalue.ensures (sym c.in_ok-c2-in-Ok-push_storage_live_for_local.ensures.ok_part ∙ c.push_assignment.ensures.0) c.push_assignment.ensures.1
