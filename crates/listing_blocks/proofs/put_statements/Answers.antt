use Rattle.mir.specs.Statements.{statement_width}
use mathlib.Core.Path.{refl}
use native.Mathlib.Omega.{arith}
use Rattle.listing_text.proofs.Pieces.{and_then_lem}
use Rattle.listing_text.proofs.Loops.{going_start, going_more, going_on_lem, going_end}
use Rattle.listing_places.proofs.Readings.{row_part, part_length}
use Rattle.listing_places.proofs.Texts.{line_here, line_elsewhere, lines_end}
use Rattle.listing_blocks.proofs.put_statements.Goals as goal
use Rattle.listing_blocks.proofs.put_statements.Goals.{then-statements-at, else-statements-at}

pub loop-i-init : goal.loop-i-init
loop-i-init c = going_start c.put-written.ensures refl

pub put_statement-written-requires : goal.put_statement-written-requires
put_statement-written-requires c = part_length statement_width c.args.statements.now c.loop-i.i (omega (arith, c.requires.0, c.requires.1, c.loop-i-test.true))

pub loop-i-preserved : goal.loop-i-preserved
loop-i-preserved c =
    elim c.if-statements-at.branch [
      | then-statements-at w ↦
          rw (w.written-is, w.out-is)
          (going_more c.loop-i.invariant (rw (row_part statement_width c.args.statements.now c.loop-i.i) at w.put_statement-written.ensures) w.put_statement-written.auto.out
          (line_here c.args.statements.now c.args.count c.args.block.0 c.loop-i.i c.loop-i-test.true w.if-statements-at.true))
      | else-statements-at w ↦
          rw (w.written-is, w.out-is)
          (going_on_lem c.loop-i.invariant (line_elsewhere c.args.statements.now c.args.count c.args.block.0 c.loop-i.i c.loop-i-test.true w.if-statements-at.false))
    ]

pub returns : goal.returns
returns c = and_then_lem c.put-written.ensures (going_end c.loop-i.invariant (lines_end c.args.statements.now c.args.count c.args.block.0 c.loop-i.i c.loop-i-test.false))
