use mathlib.Core.Path.{refl}
use native.Mathlib.Omega.{arith}
use Rattle.listing_places.specs.RowParts.{lines_of}
use Rattle.listing_text.proofs.Pieces.{and_then_lem}
use Rattle.listing_text.proofs.Loops.{going_start, going_more, going_end}
use Rattle.listing_blocks.proofs.Firsts.{records_more, records_end}
use Rattle.listing_blocks.proofs.put_blocks.Goals as goal

pub loop-b-init : goal.loop-b-init
loop-b-init c = going_start c.put-written.ensures refl

pub put_block-written-requires : goal.put_block-written-requires
put_block-written-requires c = (c.requires.0, c.requires.2)

pub loop-b-preserved : goal.loop-b-preserved
loop-b-preserved c = going_more c.loop-b.invariant c.put_block-written.ensures c.put_block-written.auto.out (records_more c.args.records c.args.counts.blocks (omega (arith, c.requires.1, c.well_formed.1.1.0)) (lines_of c.args.statements.now c.args.counts.statements) c.loop-b.b c.terminator_of-terminator.result c.loop-b-test.true c.terminator_of-terminator.ensures)

pub returns : goal.returns
returns c = and_then_lem c.put-written.ensures (going_end c.loop-b.invariant (records_end c.args.records c.args.counts.blocks (omega (arith, c.requires.1, c.well_formed.1.1.0)) (lines_of c.args.statements.now c.args.counts.statements) c.loop-b.b c.loop-b-test.false))
