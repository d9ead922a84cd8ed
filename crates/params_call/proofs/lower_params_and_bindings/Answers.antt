use Rattle.std.specs.Prelude.{Ok}
use borrow.Author.Rules.{rules}
use Rattle.refusals.proofs.Passing.{passed}
use mathlib.Core.Path.{sym, ◌∙◌}
use Rattle.param_locals.proofs.Opening.{params_taken}
use Rattle.params_laws.proofs.Calling.{not_opened_lem, goes_on_lem}
use Rattle.params_call.proofs.lower_params_and_bindings.Goals as goal

pub params_step-requires : goal.params_step-requires
params_step-requires c = params_taken _ _ _ _ _ _ _ (sym c.in_ok-tables.was ∙ c.open_params.ensures.answer) (rw c.in_ok-tables.was at c.open_params.ensures.lengths)

pub returns-in_err-tables : goal.returns-in_err-tables
returns-in_err-tables c = rw (passed _ _ c.from_residual.ensures.1) (not_opened_lem _ _ _ _ _ _ _ _ (sym c.in_err-tables.was ∙ c.open_params.ensures.answer))

pub returns : goal.returns
returns c = goes_on_lem _ _ _ _ _ _ _ (params_taken _ _ _ _ _ _ _ (sym c.in_ok-tables.was ∙ c.open_params.ensures.answer) (rw c.in_ok-tables.was at c.open_params.ensures.lengths)) c.params_step.ensures
