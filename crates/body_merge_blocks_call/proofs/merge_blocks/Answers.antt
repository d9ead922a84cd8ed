use borrow.Author.Rules.{rules}
use Rattle.refusals.proofs.Passing.{passed}
use mathlib.Core.Path.{refl, sym, ◌∙◌}
use borrow.Author.Tests.{not-true, not-false}
use Rattle.body_calls_spec.specs.Calls.{merge_blocks_call}
use Rattle.body_calls_spec.proofs.Prologue.{taken, taken_sized, blocks_within}
use Rattle.body_calls_spec.proofs.Replying.{not_opened, bad_number, goes_on_lem}
use Rattle.body_calls_spec.specs.Unopened.{call_error}
use Rattle.body_merge_blocks_call.proofs.merge_blocks.Goals as goal

pub returns-then-not-merge_holds : goal.returns-then-not-merge_holds
unfolding merge_blocks_call
returns-then-not-merge_holds c = bad_number _ _ _ (sym c.in_ok-open.was ∙ c.open.ensures.answer) (sym c.merge_holds.ensures ∙ c.if-not-merge_holds.true) refl

pub merge_step-requires : goal.merge_step-requires
merge_step-requires c =
    let T = taken _ _ _ (sym c.in_ok-open.was ∙ c.open.ensures.answer) (rw c.in_ok-open.was at c.open.ensures.lengths) in
    let W = blocks_within _ _ _ (sym c.merge_holds.ensures ∙ c.if-not-merge_holds.false) in
    (taken_sized _ _ _ T, W.0, W.1)

pub returns-in_err-open : goal.returns-in_err-open
unfolding merge_blocks_call
returns-in_err-open c = rw (passed _ _ c.from_residual.ensures.1) (not_opened _ _ _ call_error _ (sym c.in_err-open.was ∙ c.open.ensures.answer) refl refl refl refl)

pub returns : goal.returns
unfolding merge_blocks_call
returns c = goes_on_lem _ _ _ (sym c.in_ok-open.was ∙ c.open.ensures.answer) (sym c.merge_holds.ensures ∙ c.if-not-merge_holds.false) c.merge_step.ensures
