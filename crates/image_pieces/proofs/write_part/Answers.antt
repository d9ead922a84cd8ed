use borrow.Author.Rules.{rules}
use Prim.Native.Nat.{◌+◌}
use mathlib.Core.Path.{refl}
use Rattle.image_pieces.proofs.Joining.{part_written}
use Rattle.image_pieces.proofs.write_part.Goals as goal

pub returns : goal.returns
returns c =
    let start = c in
    let s = c.args in
    let pre = c.requires in
    let bytes = c.write_bytes in
    let words = c.write_words in
    (refl, part_written s.sheet.now s.from s.many s.draft.now s.first s.words pre.1.0 pre.1.1 s.image.now s.at (s.at + s.many) _ _ pre.0 refl bytes.ensures.1 words.ensures.1)
