use Rattle.refusals.proofs.Passing.{passed_none}
use Rattle.std.specs.Prelude.{Some, Err}
use borrow.Author.Rules.{rules}
use mathlib.Core.Path.{sym, ◌∙◌}
use Rattle.state.proofs.RowLengths.{binary_length}
use Rattle.pattern_tests.proofs.Assigning.{assign_fits}
use Rattle.pattern_tests.proofs.Constants.{compared_no_temp, compared_full, compared_switches}
use Rattle.pattern_tests.proofs.consts.constant_compared.Goals as goal

pub returns-in_err-c2-in-Ok : goal.returns-in_err-c2-in-Ok
returns-in_err-c2-in-Ok c = rw (passed_none _ _ _ _ c.from_residual.ensures.1 c.in_err-c2-in-Ok.ensures.ok_part c.in_err-c2-in-Ok.ensures.value) (compared_full _ _ _ _ _ _ _ _ (search (rules, c.well_formed.1.1.1.1.1.1.1.1.0)) (rw c.in-Ok.is at c.temp.ensures) c.push_binary_assignment.ensures.1 (sym c.in_err-c2-in-Ok.ensures.ok_part ∙ c.push_binary_assignment.ensures.0))

pub then_switch-requires : goal.then_switch-requires
then_switch-requires c = assign_fits _ (rw c.in-Ok.is at c.temp.ensures) (binary_length _ _ _ _ _ (search (rules, c.well_formed.1.1.1.1.1.1.1.1.0))) c.push_binary_assignment.ensures.1 (sym c.in_ok-c2-in-Ok.ensures.ok_part ∙ c.push_binary_assignment.ensures.0) c.requires.1 c.requires.2

pub returns-in-Err : goal.returns-in-Err
returns-in-Err c = compared_no_temp _ _ _ _ _ _ _ _ (rw c.in-Err.is at c.temp.ensures)

pub returns-in_ok-c2-in-Ok : goal.returns-in_ok-c2-in-Ok
returns-in_ok-c2-in-Ok c = compared_switches _ _ _ _ _ _ _ _ (search (rules, c.well_formed.1.1.1.1.1.1.1.1.0)) (rw c.in-Ok.is at c.temp.ensures) c.push_binary_assignment.ensures.1 (sym c.in_ok-c2-in-Ok.ensures.ok_part ∙ c.push_binary_assignment.ensures.0) c.requires.1 c.requires.2 c.then_switch.ensures
