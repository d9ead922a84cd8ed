use native.Mathlib.Omega.{arith}
use borrow.Author.Tests.{lt-ltb, le-ltb}
use Rattle.handed.specs.Handed.{start_holds}
use Rattle.handed_tests.proofs.start_holds.Goals as goal

pub returns-then-counts-current : goal.returns-then-counts-current
unfolding start_holds
returns-then-counts-current c = rw (le-ltb _ _ c.if-counts-current.true)

pub is_unterminated-requires : goal.is_unterminated-requires
is_unterminated-requires c = (c.requires.0, omega (arith, c.if-counts-current.false, c.requires.1))

pub returns : goal.returns
unfolding start_holds
returns c = rw (lt-ltb _ _ c.if-counts-current.false) c.is_unterminated.ensures
