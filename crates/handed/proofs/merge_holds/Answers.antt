use borrow.Author.Rules.{rules}
use borrow.Author.Tests.{not-true, not-false}
use Rattle.handed.specs.Handed.{merge_holds}
use Rattle.handed.proofs.merge_holds.Goals as goal

pub returns-then-not-is_block_or_none : goal.returns-then-not-is_block_or_none
unfolding merge_holds
returns-then-not-is_block_or_none c = rw (← c.is_block_or_none.ensures, c.if-not-is_block_or_none.true)

pub returns : goal.returns
unfolding merge_holds
returns c = rw (← c.is_block_or_none.ensures, c.if-not-is_block_or_none.false) c.is_block_or_none-2.ensures
