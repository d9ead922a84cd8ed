use borrow.Author.Rules.{rules}
use native.Mathlib.Omega.{arith}
use borrow.Rule.Slice.PartMut.{mid_len}
use Rattle.body_tables.specs.Layout.{locals_at, scopes_at, body_of}
use Rattle.body_tables.proofs.Regions.{put_locals}
use Rattle.body_tables.proofs.locals.new_local.Goals as goal

pub returns : goal.returns
unfolding body_of
returns c =
    let start = c in
    let call = c.new_local in
    let w = c.args.body.now in
    (call.ensures.0, put_locals w c.requires call.ensures.1 (omega (arith, call.auto, mid_len locals_at scopes_at w (omega (arith, c.requires)))))
