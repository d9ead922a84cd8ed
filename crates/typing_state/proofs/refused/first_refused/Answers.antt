use Rattle.std.specs.Prelude.{None}
use borrow.Author.Rules.{rules}
use borrow.Author.Tests.{lt-ltb, le-ltb}
use Rattle.name_resolving.specs.Gives.{refused_of}
use Rattle.pattern_typing.specs.Failing.{lower, earlier}
use Rattle.typing_state.proofs.refused.first_refused.Goals as goal

pub returns-then-b-a : goal.returns-then-b-a
unfolding refused_of earlier lower
returns-then-b-a c = rw (c.in-Some.is, c.in-Some-other.is, lt-ltb _ _ c.if-b-a.true)

pub returns-in-None : goal.returns-in-None
unfolding refused_of earlier
returns-in-None c = rw c.in-None.is

pub returns-in-None-other : goal.returns-in-None-other
unfolding refused_of earlier
returns-in-None-other c = rw (c.in-Some.is, c.in-None-other.is)

pub returns-else-b-a : goal.returns-else-b-a
unfolding refused_of earlier lower
returns-else-b-a c = rw (c.in-Some.is, c.in-Some-other.is, le-ltb _ _ c.if-b-a.false)
