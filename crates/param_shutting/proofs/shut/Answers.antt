use Rattle.refusals.proofs.Passing.{passed}
use Rattle.std.specs.Prelude.{Some, None, Err}
use borrow.Author.Rules.{rules}
use mathlib.Core.Path.{refl}
use Rattle.param_shutting.proofs.shut.Goals as goal

pub set_terminator-requires : goal.set_terminator-requires
set_terminator-requires c = (search rules, rw c.in-Some.is at (rw c.in_ok-c.was at c.requires))

pub returns-in_err-c : goal.returns-in_err-c
returns-in_err-c c = rw (passed _ _ c.from_residual.ensures.1) (rw c.in_err-c.was (refl, refl))

pub returns-in-None : goal.returns-in-None
returns-in-None c = rw (c.in_ok-c.was, c.in-None.is) (refl, refl)

pub returns-in-Some : goal.returns-in-Some
returns-in-Some c = rw (c.in_ok-c.was, c.in-Some.is) (refl, c.set_terminator.ensures)
