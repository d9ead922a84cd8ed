use Rattle.refusals.proofs.Passing.{passed}
use Rattle.std.specs.Prelude.{Ok, Err}
use borrow.Author.Rules.{rules}
use mathlib.Core.Path.{refl}
use Rattle.param_locals.proofs.Making.{self_none, self_refused, self_declared}
use Rattle.param_locals.proofs.declaring.declare_self.Goals as goal

pub returns-in_default : goal.returns-in_default
returns-in_default c = rw c.in_default.is self_none

pub bounds-bindings-b : goal.bounds-bindings-b
bounds-bindings-b c = rw c.in-Some.is at c.requires

pub returns-in_err-c1 : goal.returns-in_err-c1
returns-in_err-c1 c = rw (passed _ _ c.from_residual.ensures.1) (rw c.in-Some.is (self_refused _ _ (rw c.in_err-c1.was at c.param_local.ensures)))

pub returns : goal.returns
returns c = rw c.in-Some.is (self_declared _ _ (rw c.in_ok-c1.was at c.param_local.ensures) refl)
