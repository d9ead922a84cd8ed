use borrow.Author.Rules.{rules}
use Rattle.params_start.proofs.Starting.{many_none, many_listed, many_with_self}
use Rattle.params_start.proofs.many_of.Goals as goal

pub returns-then-size-gt128 : goal.returns-then-size-gt128
returns-then-size-gt128 c = many_none _ _ c.if-size-gt128.true

pub returns-in-None : goal.returns-in-None
returns-in-None c = many_listed _ c.if-size-gt128.false c.in-None.is

pub returns-in-Some : goal.returns-in-Some
returns-in-Some c = many_with_self _ c.if-size-gt128.false c.in-Some.is
