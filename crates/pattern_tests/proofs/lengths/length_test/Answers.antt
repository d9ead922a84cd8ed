use Rattle.refusals.proofs.Passing.{passed_none}
use Rattle.std.specs.Prelude.{Some, Err}
use borrow.Author.Rules.{rules}
use mathlib.Core.Path.{sym, ◌∙◌}
use Rattle.state.proofs.RowLengths.{place_rvalue_length}
use Rattle.pattern_tests.proofs.Assigning.{assign_goes}
use Rattle.pattern_tests.proofs.Measuring.{measure_no_temp, measure_full, measure_switches}
use Rattle.pattern_tests.proofs.lengths.length_test.Goals as goal

pub returns-in_err-c2-in-Ok : goal.returns-in_err-c2-in-Ok
returns-in_err-c2-in-Ok c = rw (passed_none _ _ _ _ c.from_residual.ensures.1 c.in_err-c2-in-Ok.ensures.ok_part c.in_err-c2-in-Ok.ensures.value) (measure_full _ _ _ _ _ _ _ _ _ (search (rules, c.well_formed.1.1.1.1.1.1.1.1.1.0)) (rw c.in-Ok.is at c.temp.ensures) c.push_assignment.ensures.1 (sym c.in_err-c2-in-Ok.ensures.ok_part ∙ c.push_assignment.ensures.0))

pub length_switch-requires : goal.length_switch-requires
length_switch-requires c =
    let G = assign_goes _ (rw c.in-Ok.is at c.temp.ensures) (place_rvalue_length _ _ _ _ (search (rules, c.well_formed.1.1.1.1.1.1.1.1.1.0))) c.push_assignment.ensures.1 (sym c.in_ok-c2-in-Ok.ensures.ok_part ∙ c.push_assignment.ensures.0) c.requires.1 c.requires.2 in
    (c.requires.0, G.0, G.1)

pub returns-in-Err : goal.returns-in-Err
returns-in-Err c = measure_no_temp _ _ _ _ _ _ _ _ _ (rw c.in-Err.is at c.temp.ensures)

pub returns-in_ok-c2-in-Ok : goal.returns-in_ok-c2-in-Ok
returns-in_ok-c2-in-Ok c = measure_switches _ _ _ _ _ _ _ _ _ (search (rules, c.well_formed.1.1.1.1.1.1.1.1.1.0)) (rw c.in-Ok.is at c.temp.ensures) c.push_assignment.ensures.1 (sym c.in_ok-c2-in-Ok.ensures.ok_part ∙ c.push_assignment.ensures.0) c.requires.1 c.requires.2 c.length_switch.ensures
