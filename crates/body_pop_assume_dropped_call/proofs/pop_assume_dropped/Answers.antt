use Rattle.std.specs.Prelude.{Ok}
use borrow.Author.Rules.{rules}
use Rattle.refusals.proofs.Passing.{passed}
use mathlib.Core.Path.{refl, sym, ◌∙◌}
use Rattle.body_opening.proofs.Naming.{taken_scopes}
use Rattle.body_calls_spec.specs.Calls.{pop_assume_dropped_call}
use Rattle.body_calls_spec.proofs.Prologue.{taken, taken_sized}
use Rattle.body_calls_spec.proofs.Replying.{not_opened, goes_on_lem}
use Rattle.body_calls_spec.specs.Unopened.{call_error}
use Rattle.body_pop_assume_dropped_call.proofs.pop_assume_dropped.Goals as goal

pub pop_step-requires : goal.pop_step-requires
pop_step-requires c =
    let T = taken _ _ _ (sym c.in_ok-open.was ∙ c.open.ensures.answer) (rw c.in_ok-open.was at c.open.ensures.lengths) in
    (taken_sized _ _ _ T, taken_scopes _ _ T)

pub returns-in_err-open : goal.returns-in_err-open
unfolding pop_assume_dropped_call
returns-in_err-open c = rw (passed _ _ c.from_residual.ensures.1) (not_opened _ _ _ call_error _ (sym c.in_err-open.was ∙ c.open.ensures.answer) refl refl refl refl)

pub returns : goal.returns
unfolding pop_assume_dropped_call
returns c = goes_on_lem _ _ _ (sym c.in_ok-open.was ∙ c.open.ensures.answer) refl c.pop_step.ensures
