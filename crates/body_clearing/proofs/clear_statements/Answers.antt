use borrow.Author.Rules.{rules}
use native.Mathlib.Omega.{arith}
use borrow.Rule.Slice.PartMut.{mid_len}
use Rattle.body_tables.specs.Layout.{statements_at, locals_at, body_of}
use Rattle.body_tables.proofs.Regions.{put_statements}
use Rattle.body_clearing.proofs.clear_statements.Goals as goal

pub clear_from-requires : goal.clear_from-requires
clear_from-requires c = omega (arith, mid_len statements_at locals_at c.args.body.now (omega (arith, c.requires.0)), c.requires.1)

pub returns : goal.returns
unfolding body_of
returns c =
    let start = c in
    let call = c.clear_from in
    let w = c.args.body.now in
    put_statements w c.requires.0 call.ensures (omega (arith, call.auto, mid_len statements_at locals_at w (omega (arith, c.requires.0))))
