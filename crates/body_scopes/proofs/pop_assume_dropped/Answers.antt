use borrow.Author.Rules.{rules}
use native.Mathlib.Omega.{arith}
use Rattle.body_scopes.proofs.Closing.{closes, closes_none}
use Rattle.body_scopes.proofs.pop_assume_dropped.Goals as goal

pub returns-then-counts-eq0 : goal.returns-then-counts-eq0
returns-then-counts-eq0 c = closes_none _ _ c.if-counts-eq0.true

pub returns : goal.returns
returns c = closes _ _ (omega (arith, c.if-counts-eq0.false)) c.pop_scope.ensures
