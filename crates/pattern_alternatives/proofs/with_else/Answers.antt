use Rattle.refusals.proofs.Passing.{passed}
use Rattle.std.specs.Prelude.{Ok, Err}
use borrow.Author.Rules.{rules}
use mathlib.Core.Path.{refl}
use Rattle.pattern_alternatives.specs.Alternatives.{with_else}
use Rattle.pattern_alternatives.proofs.with_else.Goals as goal

pub returns-in_err-c : goal.returns-in_err-c
unfolding with_else
returns-in_err-c c = rw (passed _ _ c.from_residual.ensures.1) (rw c.in_err-c.was refl)

pub returns : goal.returns
unfolding with_else
returns c = rw c.in_ok-c.was refl
