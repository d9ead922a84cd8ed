use native.Mathlib.Omega.{arith}
use borrow.Rule.Slice.PartMut.{mid_len}
use Rattle.body_tables.specs.Layout.{locals_at, scopes_at, body_of}
use Rattle.body_tables.proofs.Regions.{put_locals}
use Rattle.listing_start_body.proofs.type_body.Goals as goal

pub type_locals-requires : goal.type_locals-requires
type_locals-requires c = (c.requires.0, c.requires.1, mid_len locals_at scopes_at c.args.body.now (omega (arith, c.requires.2)))

pub returns : goal.returns
unfolding body_of
returns c = put_locals c.args.body.now c.requires.2 c.type_locals.ensures (omega (arith, c.type_locals.auto.locals, mid_len locals_at scopes_at c.args.body.now (omega (arith, c.requires.2))))
