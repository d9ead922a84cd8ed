use borrow.Author.Rules.{rules}
use Rattle.refusals.proofs.Passing.{passed}
use mathlib.Core.Path.{sym, ◌∙◌}
use borrow.Author.Tests.{not-true, not-false}
use Rattle.body_calls_spec.proofs.Prologue.{looked, taken, taken_sized}
use Rattle.pattern_calls_spec.specs.Calls.{pattern_match_assignment_call}
use Rattle.pattern_calls_spec.proofs.Opening.{handed_by, visits_not_opened, visits_bad_number, visits_goes_on}
use Rattle.pattern_assignment_call.proofs.pattern_match_assignment.Goals as goal

pub match_holds-requires : goal.match_holds-requires
match_holds-requires c = (search rules, (taken_sized _ _ _ (taken _ _ _ (sym c.in_ok-tables.was ∙ c.open.ensures.answer) (rw c.in_ok-tables.was at c.open.ensures.lengths))).block_count_lem)

pub returns-then-not-match_holds : goal.returns-then-not-match_holds
unfolding pattern_match_assignment_call
returns-then-not-match_holds c =
    let opened = sym c.in_ok-tables.was ∙ c.open.ensures.answer in
    visits_bad_number _ _ _ _ _ opened (handed_by _ _ _ _ _ _ _ (looked _ _ _ opened).whole c.match_holds.ensures ∙ c.if-not-match_holds.true)

pub assignment_step-requires : goal.assignment_step-requires
assignment_step-requires c =
    let T = taken _ _ _ (sym c.in_ok-tables.was ∙ c.open.ensures.answer) (rw c.in_ok-tables.was at c.open.ensures.lengths) in
    (T, handed_by _ _ _ _ _ _ _ T.whole c.match_holds.ensures ∙ c.if-not-match_holds.false)

pub returns-in_err-tables : goal.returns-in_err-tables
unfolding pattern_match_assignment_call
returns-in_err-tables c = rw (passed _ _ c.from_residual.ensures.1) (visits_not_opened _ _ _ _ _ _ (sym c.in_err-tables.was ∙ c.open.ensures.answer))

pub returns : goal.returns
unfolding pattern_match_assignment_call
returns c =
    let opened = sym c.in_ok-tables.was ∙ c.open.ensures.answer in
    visits_goes_on _ _ _ _ _ opened (handed_by _ _ _ _ _ _ _ (looked _ _ _ opened).whole c.match_holds.ensures ∙ c.if-not-match_holds.false) c.assignment_step.ensures
