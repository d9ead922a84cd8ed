use Rattle.refusals.proofs.Passing.{passed_none}
use Rattle.std.specs.Prelude.{Some, Err}
use borrow.Author.Rules.{rules}
use mathlib.Core.Path.{sym, ◌∙◌}
use borrow.Author.Tests.{not-true, not-false}
use Rattle.state.proofs.RowLengths.{constant_length}
use Rattle.pattern_tests.proofs.Assigning.{assign_goes}
use Rattle.pattern_tests.proofs.Constants.{path_skips, path_no_temp, path_full, path_tests_lem}
use Rattle.pattern_tests.proofs.consts.constant_path.Goals as goal

pub returns-then-not-is_check : goal.returns-then-not-is_check
returns-then-not-is_check c = path_skips _ _ _ _ _ _ _ _ _ _ (sym c.is_check.ensures ∙ c.if-not-is_check.true) c.requires.ready.1

pub returns-in_err-c2-in-Ok : goal.returns-in_err-c2-in-Ok
returns-in_err-c2-in-Ok c = rw (passed_none _ _ _ _ c.from_residual.ensures.1 c.in_err-c2-in-Ok.ensures.ok_part c.in_err-c2-in-Ok.ensures.value) (path_full _ _ _ _ _ _ _ _ _ _ (sym c.is_check.ensures ∙ c.if-not-is_check.false) c.lower_const_to_operand-constant.ensures (rw c.in-Ok.is at c.temp.ensures) c.push_constant_assignment.ensures.1 (sym c.in_err-c2-in-Ok.ensures.ok_part ∙ c.push_constant_assignment.ensures.0))

pub constant_compared-requires : goal.constant_compared-requires
constant_compared-requires c =
    let G = assign_goes _ (rw c.in-Ok.is at c.temp.ensures) (constant_length _ _ _) c.push_constant_assignment.ensures.1 (sym c.in_ok-c2-in-Ok.ensures.ok_part ∙ c.push_constant_assignment.ensures.0) c.requires.ready.0 c.requires.ready.1 in
    (c.requires.whole.0, G.0, G.1)

pub returns-in-Err : goal.returns-in-Err
returns-in-Err c = path_no_temp _ _ _ _ _ _ _ _ _ _ (sym c.is_check.ensures ∙ c.if-not-is_check.false) c.lower_const_to_operand-constant.ensures (rw c.in-Err.is at c.temp.ensures)

pub returns-in_ok-c2-in-Ok : goal.returns-in_ok-c2-in-Ok
returns-in_ok-c2-in-Ok c = path_tests_lem _ _ _ _ _ _ _ _ _ _ (sym c.is_check.ensures ∙ c.if-not-is_check.false) c.lower_const_to_operand-constant.ensures (rw c.in-Ok.is at c.temp.ensures) c.push_constant_assignment.ensures.1 (sym c.in_ok-c2-in-Ok.ensures.ok_part ∙ c.push_constant_assignment.ensures.0) c.requires.ready.0 c.requires.ready.1 c.constant_compared.ensures
