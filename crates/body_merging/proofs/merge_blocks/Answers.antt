use borrow.Author.Rules.{rules}
use Rattle.body_merging.proofs.Joining.{merge_none, merge_one}
use Rattle.body_merging.proofs.merge_blocks.Goals as goal

pub merge_two-requires : goal.merge_two-requires
merge_two-requires c = (c.requires.0, rw c.in-Some.is at c.requires.1, rw c.in-Some-y.is at c.requires.2)

pub returns-in-None : goal.returns-in-None
returns-in-None c = rw c.in-None.is (merge_none _ _ _)

pub returns-in-None-y : goal.returns-in-None-y
returns-in-None-y c = rw (c.in-Some.is, c.in-None-y.is) (merge_one _ _ _)

pub returns-in-Some-y : goal.returns-in-Some-y
returns-in-Some-y c = rw (c.in-Some.is, c.in-Some-y.is) c.merge_two.ensures
