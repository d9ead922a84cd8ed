use Rattle.std.specs.Prelude.{Ok}
use borrow.Author.Rules.{rules}
use Rattle.refusals.proofs.Passing.{passed}
use mathlib.Core.Path.{refl, sym, ◌∙◌}
use Rattle.body_calls_spec.specs.Calls.{push_drop_scope_call}
use Rattle.body_calls_spec.proofs.Prologue.{taken, taken_sized}
use Rattle.body_calls_spec.proofs.Replying.{not_opened, goes_on_lem}
use Rattle.body_calls_spec.specs.Unopened.{call_error}
use Rattle.body_push_drop_scope_call.proofs.push_drop_scope.Goals as goal

pub push_step-requires : goal.push_step-requires
push_step-requires c =
    let T = taken _ _ _ (sym c.in_ok-open.was ∙ c.open.ensures.answer) (rw c.in_ok-open.was at c.open.ensures.lengths) in
    taken_sized _ _ _ T

pub returns-in_err-open : goal.returns-in_err-open
unfolding push_drop_scope_call
returns-in_err-open c = rw (passed _ _ c.from_residual.ensures.1) (not_opened _ _ _ call_error _ (sym c.in_err-open.was ∙ c.open.ensures.answer) refl refl refl refl)

pub returns : goal.returns
unfolding push_drop_scope_call
returns c = goes_on_lem _ _ _ (sym c.in_ok-open.was ∙ c.open.ensures.answer) refl c.push_step.ensures
