use mathlib.Core.Path.{refl}
use native.Mathlib.Omega.{arith}
use Rattle.listing_text.proofs.Pieces.{and_then_lem}
use Rattle.listing_text.proofs.Loops.{going_start, going_more, going_end}
use Rattle.listing_places.proofs.Texts.{locals_more, locals_end}
use Rattle.listing_places.proofs.locals.put_locals.Goals as goal

pub loop-i-init : goal.loop-i-init
loop-i-init c = going_start c.put-written.ensures refl

pub loop-i-preserved : goal.loop-i-preserved
loop-i-preserved c = going_more c.loop-i.invariant c.put_local-written.ensures c.put_local-written.auto.out (locals_more c.args.locals.now c.args.count (omega (arith, c.requires.0, c.requires.1)) c.loop-i.i c.loop-i-test.true)

pub returns : goal.returns
returns c = and_then_lem c.put-written.ensures (going_end c.loop-i.invariant (locals_end c.args.locals.now c.args.count (omega (arith, c.requires.0, c.requires.1)) c.loop-i.i c.loop-i-test.false))
