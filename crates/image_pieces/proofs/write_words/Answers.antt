use Prim.Native.Nat.{◌+◌, ◌*◌, ◌-◌}
use mathlib.Core.Path.{refl}
use native.Mathlib.Omega.{arith}
use lib.ListN.{take, drop, length-set}
use borrow.Author.Rules.{rules}
use Rattle.row_tables.proofs.Loops.{Storing, store_start}
use Rattle.pattern_images.specs.Imaging.{words_bytes}
use Rattle.image_pieces.proofs.Storing.{words_more_lem, words_end}
use Rattle.image_pieces.proofs.write_words.Goals as goal

pub loop-i-init : goal.loop-i-init
loop-i-init c = store_start

pub overflow_cast-image : goal.overflow_cast-image
overflow_cast-image c = omega (arith, c.type_inv.source (c.args.from + c.loop-i.i))

pub bounds-image-at : goal.bounds-image-at
bounds-image-at c = omega (arith, c.loop-i.invariant.kept)

pub overflow_cast-image-in-loop-i : goal.overflow_cast-image-in-loop-i
overflow_cast-image-in-loop-i c = omega (arith, c.type_inv.source (c.args.from + c.loop-i.i))

pub bounds-image-at-in-loop-i : goal.bounds-image-at-in-loop-i
bounds-image-at-in-loop-i c = simp length-set (omega (arith, c.loop-i.invariant.kept))

pub loop-i-preserved : goal.loop-i-preserved
loop-i-preserved c =
    let s = c.args in
    let pre = c.requires in
    words_more_lem s.source.now s.from s.many pre.1 s.image.now s.at c.loop-i.i c.loop-i.image pre.0 c.loop-i.invariant (omega arith)

pub shape_of-image : goal.shape_of-image
shape_of-image c = c.loop-i.invariant.kept

pub returns : goal.returns
returns c =
    let s = c.args in
    let pre = c.requires in
    (refl, words_end s.source.now s.from s.many pre.1 s.image.now s.at c.loop-i.i c.loop-i.image c.loop-i.invariant (omega arith))
