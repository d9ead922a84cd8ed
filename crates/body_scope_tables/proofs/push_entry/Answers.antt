use borrow.Author.Rules.{rules}
use native.Mathlib.Omega.{arith}
use borrow.Rule.Slice.PartMut.{mid_len}
use Rattle.body_tables.specs.Layout.{body_words, entries_at, body_of}
use Rattle.body_tables.proofs.Regions.{put_entries}
use Rattle.body_scope_tables.proofs.push_entry.Goals as goal

pub push_entry-requires : goal.push_entry-requires
push_entry-requires c = mid_len entries_at body_words c.args.body.now (omega (arith, c.requires))

pub returns : goal.returns
unfolding body_of
returns c =
    let start = c in
    let call = c.push_entry in
    let w = c.args.body.now in
    (call.ensures.0, put_entries w c.requires call.ensures.1 (omega (arith, call.auto, mid_len entries_at body_words w (omega (arith, c.requires)))))
