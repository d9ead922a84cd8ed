use Rattle.refusals.proofs.Passing.{passed}
use Rattle.std.specs.Prelude.{Err}
use borrow.Author.Rules.{rules}
use native.Mathlib.Omega.{arith}
use Rattle.param_locals.proofs.Making.{self_there, still_declarable, all_no_self, all_no_param, all_declared}
use Rattle.param_locals.proofs.declaring.declare.Goals as goal

pub declare_self-requires : goal.declare_self-requires
declare_self-requires c = self_there _ _ c.requires.1 c.requires.0.bindings

pub declare_params-requires : goal.declare_params-requires
declare_params-requires c = (still_declarable c.requires.0 (omega (arith, c.declare_self.auto)), c.requires.2)

pub declare_bindings-requires : goal.declare_bindings-requires
declare_bindings-requires c = (c.requires.0.whole, omega (arith, c.declare_params.auto, c.declare_self.auto, c.requires.0.bindings))

pub returns-in_err-c1 : goal.returns-in_err-c1
returns-in_err-c1 c = rw (passed _ _ c.from_residual.ensures.1) (all_no_self _ _ _ (rw c.in_err-c1.was at c.declare_self.ensures))

pub returns-in_err-c2 : goal.returns-in_err-c2
returns-in_err-c2 c = rw (passed _ _ c.from_residual-in_err-c2.ensures.1) (all_no_param _ _ _ (rw c.in_ok-c1.was at c.declare_self.ensures) (rw c.in_err-c2.was at c.declare_params.ensures))

pub returns : goal.returns
returns c = all_declared _ _ _ (rw c.in_ok-c1.was at c.declare_self.ensures) (rw c.in_ok-c2.was at c.declare_params.ensures) c.declare_bindings.ensures
