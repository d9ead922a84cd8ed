use Rattle.mir.proofs.RowParts.{split_start, split_more, split_end}
use Rattle.mir_statements.proofs.split_elems.Goals as goal

pub loop-i-init : goal.loop-i-init
loop-i-init c = split_start _ _

pub loop-i-preserved : goal.loop-i-preserved
loop-i-preserved c = split_more _ _ _ _ c.requires.0 c.requires.1 c.loop-i-test.true c.loop-i.invariant

pub returns : goal.returns
returns c = split_end _ _ _ _ c.loop-i-test.false c.loop-i.invariant
