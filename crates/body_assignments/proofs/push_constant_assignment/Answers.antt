use borrow.Author.Rules.{rules}
use native.Mathlib.Omega.{arith}
use borrow.Rule.Slice.PartMut.{mid_len}
use Rattle.body_tables.specs.Layout.{statements_at, locals_at, body_of}
use Rattle.body_tables.proofs.Regions.{put_statements}
use Rattle.body_assignments.proofs.push_constant_assignment.Goals as goal

pub returns : goal.returns
unfolding body_of
returns c =
    let start = c in
    let call = c.push_constant_assignment in
    let w = c.args.body.now in
    (call.ensures.0, put_statements w c.requires call.ensures.1 (omega (arith, call.auto, mid_len statements_at locals_at w (omega (arith, c.requires)))))
