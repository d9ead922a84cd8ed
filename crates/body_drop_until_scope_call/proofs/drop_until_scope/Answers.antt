use borrow.Author.Rules.{rules}
use Rattle.refusals.proofs.Passing.{passed}
use mathlib.Core.Path.{refl, sym, ◌∙◌}
use borrow.Author.Tests.{lt-ltb, le-ltb}
use Rattle.body_opening.proofs.Naming.{taken_entries, taken_scopes}
use Rattle.body_calls_spec.specs.Calls.{drop_until_scope_call}
use Rattle.body_calls_spec.proofs.Prologue.{taken, taken_sized}
use Rattle.body_calls_spec.proofs.Replying.{not_opened, bad_number, goes_on_lem}
use Rattle.body_calls_spec.specs.Unopened.{call_error}
use Rattle.body_drop_until_scope_call.proofs.drop_until_scope.Goals as goal

pub returns-then-counts-block : goal.returns-then-counts-block
unfolding drop_until_scope_call
returns-then-counts-block c = bad_number _ _ _ (sym c.in_ok-tables.was ∙ c.open.ensures.answer) (le-ltb _ _ c.if-counts-block.true) refl

pub drop_step-requires : goal.drop_step-requires
drop_step-requires c =
    let T = taken _ _ _ (sym c.in_ok-tables.was ∙ c.open.ensures.answer) (rw c.in_ok-tables.was at c.open.ensures.lengths) in
    record { whole = (T.whole, taken_sized _ _ _ T, c.if-counts-block.false); entries_named = (taken_entries _ _ T, taken_scopes _ _ T) }

pub returns-in_err-tables : goal.returns-in_err-tables
unfolding drop_until_scope_call
returns-in_err-tables c = rw (passed _ _ c.from_residual.ensures.1) (not_opened _ _ _ call_error _ (sym c.in_err-tables.was ∙ c.open.ensures.answer) refl refl refl refl)

pub returns : goal.returns
unfolding drop_until_scope_call
returns c = goes_on_lem _ _ _ (sym c.in_ok-tables.was ∙ c.open.ensures.answer) (lt-ltb _ _ c.if-counts-block.false) c.drop_step.ensures
