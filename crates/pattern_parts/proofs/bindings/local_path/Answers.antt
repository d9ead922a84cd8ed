use Rattle.refusals.proofs.Passing.{passed_none}
use Rattle.std.specs.Prelude.{Some, None, Err}
use borrow.Author.Rules.{rules}
use mathlib.Core.Path.{sym, ◌∙◌}
use Rattle.pattern_parts.proofs.Filling.{path_check, path_bind, path_absent, path_assigned}
use Rattle.pattern_parts.proofs.bindings.local_path.Goals as goal

pub returns-in_err-c1-in-Ok : goal.returns-in_err-c1-in-Ok
returns-in_err-c1-in-Ok c = rw (passed_none _ _ _ _ c.from_residual.ensures.1 c.in_err-c1-in-Ok.ensures.ok_part c.in_err-c1-in-Ok.ensures.value) (rw c.in-Assign.is (path_assigned _ _ _ _ _ _ _ _ None (search (rules, c.well_formed.1.1.1.1.1.1.1.1.0)) c.requires.1 (rw c.in-Ok.is at c.binding_local.ensures) (sym c.in_err-c1-in-Ok.ensures.ok_part ∙ c.push_assignment.ensures.0) c.push_assignment.ensures.1))

pub returns-in-Check : goal.returns-in-Check
returns-in-Check c = rw c.in-Check.is (path_check _ _ _ _ _ _ _ _)

pub returns-in-Bind : goal.returns-in-Bind
returns-in-Bind c = rw c.in-Bind.is (path_bind _ _ _ _ _ _ _ _ c.requires.1)

pub returns-in-Err : goal.returns-in-Err
returns-in-Err c = rw c.in-Assign.is (path_absent _ _ _ _ _ _ _ _ (rw c.in-Err.is at c.binding_local.ensures))

pub returns-in_ok-c1-in-Ok : goal.returns-in_ok-c1-in-Ok
returns-in_ok-c1-in-Ok c = rw c.in-Assign.is (path_assigned _ _ _ _ _ _ _ _ (Some _) (search (rules, c.well_formed.1.1.1.1.1.1.1.1.0)) c.requires.1 (rw c.in-Ok.is at c.binding_local.ensures) (sym c.in_ok-c1-in-Ok.ensures.ok_part ∙ c.push_assignment.ensures.0) c.push_assignment.ensures.1)
