use Rattle.listing_text.proofs.Loops.{Going}
use Rattle.listing_places.proofs.Texts.{lines_from}
use Rattle.listing_blocks.proofs.put_statements.Given as goal

abbrev pub invariant-loop-i : goal.invariant-loop-i
invariant-loop-i l = Going l.initial.out l.initial.written (lines_from l.statements l.count l.block.0 0) (lines_from l.statements l.count l.block.0 l.i) l.written l.out
