use Rattle.refusals.proofs.Passing.{passed}
use Rattle.std.specs.Prelude.{Ok, Err}
use borrow.Author.Rules.{rules}
use Rattle.param_locals.proofs.Making.{param_refused, param_declared}
use Rattle.param_locals.proofs.declaring.declare_param.Goals as goal

pub returns-in_err-c1 : goal.returns-in_err-c1
returns-in_err-c1 c = rw (passed _ _ c.from_residual.ensures.1) (param_refused _ _ (rw c.in_err-c1.was at c.param_local.ensures))

pub returns : goal.returns
returns c = param_declared _ _ (rw c.in_ok-c1.was at c.param_local.ensures) c.bind_plain.ensures
