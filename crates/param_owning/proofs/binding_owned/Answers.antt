use Rattle.refusals.proofs.Passing.{passed}
use Rattle.std.specs.Prelude.{Err}
use borrow.Author.Rules.{rules}
use Rattle.param_owning.proofs.Telling.{binding_refused, binding_own, binding_other}
use Rattle.param_owning.proofs.binding_owned.Goals as goal

pub returns-then-l-m : goal.returns-then-l-m
returns-then-l-m c = binding_own _ _ _ (rw c.in_ok-m.was at c.binding_local.ensures) c.if-l-m.true

pub returns-in_err-m : goal.returns-in_err-m
returns-in_err-m c = rw (passed _ _ c.from_residual.ensures.1) (binding_refused _ _ _ (rw c.in_err-m.was at c.binding_local.ensures))

pub returns : goal.returns
returns c = binding_other _ _ _ (rw c.in_ok-m.was at c.binding_local.ensures) c.if-l-m.false
