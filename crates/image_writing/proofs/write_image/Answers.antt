use borrow.Author.Rules.{rules}
use mathlib.Core.Path.{◌≡◌}
use lib.ListN.{length}
use Rattle.image_writing.proofs.Assembled.{image_written}
use Rattle.image_writing.proofs.write_image.Goals as goal

pub returns : goal.returns
returns c =
    let s = c.args in
    let pre = c.requires in
    let long : length s.image.now ≡ 34321 = search rules in
    λ names. image_written s.sheet.now s.tables s.draft.now s.counts pre.0.0 pre.0.1 pre.1.0 names s.image.now c.write_upper-middle.result c.write_lower-end.result _ _ _ long c.write_upper-middle.ensures.0 c.write_lower-end.ensures.0 c.write_upper-middle.ensures.1 c.write_lower-end.ensures.1 c.write_head.ensures
