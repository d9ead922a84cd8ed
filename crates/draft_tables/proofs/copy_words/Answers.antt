use borrow.Author.Rules.{rules}
use Prim.Native.Nat.{◌-◌}
use lib.ListN.{take, drop}
use Rattle.row_tables.proofs.Loops.{Storing, store_start}
use Rattle.draft_tables.proofs.Reading.{copy_more, copy_end}
use Rattle.draft_tables.proofs.copy_words.Goals as goal

pub loop-i-init : goal.loop-i-init
loop-i-init c = store_start

pub loop-i-preserved : goal.loop-i-preserved
loop-i-preserved c = copy_more c.args.draft.now c.args.to c.args.from c.args.many c.requires.0 c.requires.1 c.loop-i.i c.loop-i.draft c.loop-i.invariant c.loop-i-test.true

pub returns : goal.returns
returns c = copy_end c.args.draft.now c.args.to c.args.from c.args.many c.requires.0 c.requires.1 c.loop-i.i c.loop-i.draft c.loop-i.invariant c.loop-i-test.false
