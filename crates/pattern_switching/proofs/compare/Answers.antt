use Rattle.refusals.proofs.Passing.{passed, passed_none}
use Rattle.std.specs.Prelude.{Some, Err}
use borrow.Author.Rules.{rules}
use mathlib.Core.Path.{sym, ◌∙◌}
use Rattle.pattern_switching.proofs.Comparing.{compare_no_temp, compare_full, compare_ends}
use Rattle.pattern_switching.proofs.compare.Goals as goal

pub returns-in_err-c2 : goal.returns-in_err-c2
returns-in_err-c2 c = rw (passed_none _ _ _ _ c.from_residual-in_err-c2.ensures.1 c.in_err-c2.ensures.ok_part c.in_err-c2.ensures.value) (compare_full _ _ _ _ _ _ _ _ _ (search (rules, c.well_formed.1.1.1.1.1.1.0)) (rw c.in_ok-c1.was at c.temp.ensures) c.push_binary_assignment.ensures.1 (sym c.in_err-c2.ensures.ok_part ∙ c.push_binary_assignment.ensures.0))

pub returns-in_err-c1 : goal.returns-in_err-c1
returns-in_err-c1 c = rw (passed _ _ c.from_residual.ensures.1) (compare_no_temp _ _ _ _ _ _ _ _ _ (rw c.in_err-c1.was at c.temp.ensures))

pub returns : goal.returns
returns c = compare_ends _ _ _ _ _ _ _ _ _ (search (rules, c.well_formed.1.1.1.1.1.1.0)) (rw c.in_ok-c1.was at c.temp.ensures) c.push_binary_assignment.ensures.1 (sym c.in_ok-c2.ensures.ok_part ∙ c.push_binary_assignment.ensures.0) c.set_terminator.ensures c.requires.2
