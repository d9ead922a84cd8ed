use borrow.Author.Rules.{rules}
use native.Mathlib.Omega.{arith}
use borrow.Rule.Slice.PartMut.{mid_len}
use Rattle.body_tables.specs.Layout.{scopes_at, entries_at, body_of}
use Rattle.body_tables.proofs.Regions.{put_scopes}
use Rattle.body_scope_tables.proofs.clear_scope.Goals as goal

pub returns : goal.returns
unfolding body_of
returns c =
    let start = c in
    let call = c.set_word in
    let w = c.args.body.now in
    put_scopes w c.requires.0 call.ensures (omega (arith, call.auto, mid_len scopes_at entries_at w (omega (arith, c.requires.0))))
