use borrow.Author.Rules.{rules}
use native.Mathlib.Omega.{arith}
use borrow.Rule.Slice.PartMut.{mid_len}
use Rattle.body_tables.specs.Layout.{locals_at, scopes_at, body_of}
use Rattle.body_tables.proofs.Regions.{put_locals}
use Rattle.body_clearing.proofs.clear_locals.Goals as goal

pub clear_from-requires : goal.clear_from-requires
clear_from-requires c = omega (arith, mid_len locals_at scopes_at c.args.body.now (omega (arith, c.requires.0)), c.requires.1)

pub returns : goal.returns
unfolding body_of
returns c =
    let start = c in
    let call = c.clear_from in
    let w = c.args.body.now in
    put_locals w c.requires.0 call.ensures (omega (arith, call.auto, mid_len locals_at scopes_at w (omega (arith, c.requires.0))))
