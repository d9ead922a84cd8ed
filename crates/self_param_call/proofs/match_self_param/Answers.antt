use borrow.Author.Rules.{rules}
use Rattle.refusals.proofs.Passing.{passed}
use mathlib.Core.Path.{refl, sym, ◌∙◌}
use borrow.Author.Tests.{not-true, not-false}
use Rattle.body_calls_spec.proofs.Prologue.{looked, taken, taken_sized}
use Rattle.body_calls_spec.proofs.Replying.{not_opened, bad_number, goes_on_lem}
use Rattle.pattern_matching.specs.Patterns.{match_self_param}
use Rattle.handed.proofs.Handing.{binding_there, self_start_there}
use Rattle.pattern_calls_spec.specs.Calls.{match_self_param_call}
use Rattle.pattern_calls_spec.proofs.Opening.{self_by}
use Rattle.body_calls_spec.specs.Unopened.{pattern_call_error}
use Rattle.self_param_call.proofs.match_self_param.Goals as goal

pub self_holds-requires : goal.self_holds-requires
self_holds-requires c = (search rules, (taken_sized _ _ _ (taken _ _ _ (sym c.in_ok-tables.was ∙ c.open.ensures.answer) (rw c.in_ok-tables.was at c.open.ensures.lengths))).block_count_lem)

pub returns-then-not-self_holds : goal.returns-then-not-self_holds
unfolding match_self_param_call
returns-then-not-self_holds c = bad_number _ _ _ (sym c.in_ok-tables.was ∙ c.open.ensures.answer) (self_by _ _ _ _ _ _ (looked _ _ _ (sym c.in_ok-tables.was ∙ c.open.ensures.answer)).whole c.self_holds.ensures ∙ c.if-not-self_holds.true) refl

pub self_step-requires : goal.self_step-requires
self_step-requires c = let T = taken _ _ _ (sym c.in_ok-tables.was ∙ c.open.ensures.answer) (rw c.in_ok-tables.was at c.open.ensures.lengths) in let H = self_by _ _ _ _ _ _ T.whole c.self_holds.ensures ∙ c.if-not-self_holds.false in (taken_sized _ _ _ T, binding_there _ _ _ _ _ _ _ H, self_start_there _ _ _ _ _ _ _ H)

pub returns-in_err-tables : goal.returns-in_err-tables
unfolding match_self_param_call
returns-in_err-tables c = rw (passed _ _ c.from_residual.ensures.1) (not_opened _ _ _ pattern_call_error _ (sym c.in_err-tables.was ∙ c.open.ensures.answer) refl refl refl refl)

pub returns : goal.returns
unfolding match_self_param_call match_self_param
returns c = goes_on_lem _ _ _ (sym c.in_ok-tables.was ∙ c.open.ensures.answer) (self_by _ _ _ _ _ _ (looked _ _ _ (sym c.in_ok-tables.was ∙ c.open.ensures.answer)).whole c.self_holds.ensures ∙ c.if-not-self_holds.false) c.self_step.ensures
