use borrow.Author.Rules.{rules}
use borrow.Author.Tests.{le-ltb, lt-ltb}
use Rattle.mir.specs.Blocks.{new_block}
use Rattle.mir.proofs.blocks.new_basic_block.Goals as goal

pub returns-then-n-ge512 : goal.returns-then-n-ge512
unfolding new_block
returns-then-n-ge512 c = rw (le-ltb _ 512 c.if-n-ge512.true)

pub returns : goal.returns
unfolding new_block
returns c = rw (lt-ltb _ 512 c.if-n-ge512.false)
