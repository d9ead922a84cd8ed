use native.Mathlib.Omega.{arith}
use Rattle.listing_start.proofs.Leading.{lead_start, lead_more, lead_stops, lead_end}
use Rattle.listing_start.proofs.leads_to.Goals as goal

pub loop-init : goal.loop-init
loop-init c = lead_start c.requires.2

pub type_at-row-requires : goal.type_at-row-requires
type_at-row-requires c = (c.requires.1, omega (arith, c.requires.1.type_count_lem, c.loop.invariant.there))

pub returns-then-row-ne7 : goal.returns-then-row-ne7
returns-then-row-ne7 c = lead_stops c.loop.invariant c.args.ty c.loop-test.true c.type_at-row.ensures c.if-row-ne7.true

pub loop-preserved : goal.loop-preserved
loop-preserved c = lead_more c.loop.invariant c.requires.0 c.loop-test.true c.type_at-row.ensures c.if-row-ne7.false

pub returns : goal.returns
returns c = lead_end c.loop.invariant c.args.ty c.loop-test.false
