use borrow.Author.Rules.{rules}
use borrow.Author.Tests.{lt-ltb, le-ltb}
use Rattle.handed.specs.Handed.{else_holds}
use Rattle.handed.proofs.else_holds.Goals as goal

pub returns-then-counts-b : goal.returns-then-counts-b
unfolding else_holds
returns-then-counts-b c = rw (c.in-Some.is, le-ltb _ _ c.if-counts-b.true)

pub returns-in-None : goal.returns-in-None
unfolding else_holds
returns-in-None c = rw c.in-None.is

pub returns-else-counts-b : goal.returns-else-counts-b
unfolding else_holds
returns-else-counts-b c = rw (c.in-Some.is, lt-ltb _ _ c.if-counts-b.false)
