use mathlib.Core.Bool.{not}
use mathlib.Core.Path.{ap}
use borrow.Author.Tests.{not-true, not-false}
use Rattle.fit_reached.proofs.walk.with_test.Goals as goal

pub returns-then-not-test : goal.returns-then-not-test
returns-then-not-test c = rw (not-true c.args.test (ap not c.if-not-test.true))

pub returns-in-Refused : goal.returns-in-Refused
returns-in-Refused c = rw (not-false c.args.test (ap not c.if-not-test.false), c.in-Refused.is)

pub returns-in-Sure : goal.returns-in-Sure
returns-in-Sure c = rw (not-false c.args.test (ap not c.if-not-test.false), c.in-Sure.is)

pub returns-in-CanFail : goal.returns-in-CanFail
returns-in-CanFail c = rw (not-false c.args.test (ap not c.if-not-test.false), c.in-CanFail.is)
