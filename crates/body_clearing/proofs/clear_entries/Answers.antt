use borrow.Author.Rules.{rules}
use native.Mathlib.Omega.{arith}
use borrow.Rule.Slice.PartMut.{mid_len}
use Rattle.body_tables.specs.Layout.{body_words, entries_at, body_of}
use Rattle.body_tables.proofs.Regions.{put_entries}
use Rattle.body_clearing.proofs.clear_entries.Goals as goal

pub clear_from-requires : goal.clear_from-requires
clear_from-requires c = omega (arith, mid_len entries_at body_words c.args.body.now (omega (arith, c.requires.0)), c.requires.1)

pub returns : goal.returns
unfolding body_of
returns c =
    let start = c in
    let call = c.clear_from in
    let w = c.args.body.now in
    put_entries w c.requires.0 call.ensures (omega (arith, call.auto, mid_len entries_at body_words w (omega (arith, c.requires.0))))
