use borrow.Author.Rules.{rules}
use borrow.Author.Tests.{lt-leb, le-leb}
use Rattle.image.specs.Rules.{adt_may_have}
use Rattle.type_rules.proofs.adt_may_have.Goals as goal

pub returns-then-count-lt1 : goal.returns-then-count-lt1
unfolding adt_may_have
returns-then-count-lt1 c = rw (c.in-Enum.is, lt-leb 1 _ c.if-count-lt1.true)

pub returns-in-Struct : goal.returns-in-Struct
unfolding adt_may_have
returns-in-Struct c = rw c.in-Struct.is

pub returns-else-count-lt1 : goal.returns-else-count-lt1
unfolding adt_may_have
returns-else-count-lt1 c = rw (c.in-Enum.is, le-leb 1 _ c.if-count-lt1.false)

pub returns-in-Union : goal.returns-in-Union
unfolding adt_may_have
returns-in-Union c = rw c.in-Union.is

pub returns-in-Unknown : goal.returns-in-Unknown
unfolding adt_may_have
returns-in-Unknown c = rw c.in-Unknown.is
