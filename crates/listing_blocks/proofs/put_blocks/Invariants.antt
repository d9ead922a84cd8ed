use Rattle.listing_places.specs.RowParts.{lines_of}
use Rattle.listing_text.proofs.Loops.{Going}
use Rattle.listing_blocks.proofs.Firsts.{records_from}
use Rattle.listing_blocks.proofs.put_blocks.Given as goal

abbrev pub invariant-loop-b : goal.invariant-loop-b
invariant-loop-b l = Going l.initial.out l.initial.written (records_from (lines_of l.statements l.counts.statements) l.records l.counts.blocks 0) (records_from (lines_of l.statements l.counts.statements) l.records l.counts.blocks l.b) l.written l.out
