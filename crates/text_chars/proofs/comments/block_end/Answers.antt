use mathlib.Core.Path.{sym, ◌∙◌}
use native.Mathlib.Omega.{arith}
use lib.ListN.{get_or}
use Rattle.text_chars.proofs.Loops.{block_on, block_over, depth_grows}
use Rattle.text_chars.proofs.comments.block_end.Goals as goal

pub returns-then-is_end : goal.returns-then-is_end
returns-then-is_end c = sym (sym c.loop-at.invariant.1 ∙ (block_on _ _ _ _ c.loop-at-test.true ∙ rw (sym c.is_end.ensures ∙ c.if-is_end.true)))

pub loop-at-preserved : goal.loop-at-preserved
loop-at-preserved c = (omega (arith, c.loop-at.invariant.0, c.depth_behind-depth.ensures, depth_grows c.loop-at.depth c.loop-at.before (get_or c.args.bytes.now c.loop-at.at 0)), rw (c.depth_behind-depth.ensures, c.unpaired_byte-before.ensures) (sym (block_on _ _ _ _ c.loop-at-test.true ∙ rw (sym c.is_end.ensures ∙ c.if-is_end.false)) ∙ c.loop-at.invariant.1))

pub returns : goal.returns
returns c = sym (sym c.loop-at.invariant.1 ∙ block_over _ _ _ _ c.loop-at-test.false)
