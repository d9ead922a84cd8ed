use Prim.Native.Nat.{◌+◌, ◌-◌}
use mathlib.Core.Path.{refl}
use native.Mathlib.Omega.{arith}
use lib.ListN.{take, drop}
use borrow.Author.Rules.{rules}
use Rattle.row_tables.proofs.Loops.{Storing, store_start}
use Rattle.image_pieces.proofs.Storing.{bytes_more_lem, bytes_end}
use Rattle.image_pieces.proofs.write_data.Goals as goal

pub loop-i-init : goal.loop-i-init
loop-i-init c = store_start

pub overflow_cast-image : goal.overflow_cast-image
overflow_cast-image c = omega (arith, c.requires.1 c.loop-i.i (omega arith))

pub loop-i-preserved : goal.loop-i-preserved
loop-i-preserved c =
    let s = c.args in
    let pre = c.requires in
    bytes_more_lem s.source.now s.from s.many pre.0.1 s.image.now s.at c.loop-i.i c.loop-i.image pre.0.0 c.loop-i.invariant (omega arith)

pub returns : goal.returns
returns c =
    let s = c.args in
    let pre = c.requires in
    (refl, bytes_end s.source.now s.from s.many pre.0.1 s.image.now s.at c.loop-i.i c.loop-i.image c.loop-i.invariant (omega arith))
