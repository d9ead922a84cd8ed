use Prim.Native.Nat.{◌+◌, ◌-◌}
use mathlib.Core.Path.{◌≡◌, refl}
use native.Mathlib.Omega.{arith}
use lib.ListN.{take, drop}
use Rattle.image_pieces.proofs.Storing.{length_chosen, part_stored}
use Rattle.image_pieces.proofs.write_bytes.Goals as goal

pub returns : goal.returns
returns c =
    let s = c.args in
    let chosen : s.from + s.many - s.from ≡ s.many = omega arith in
    let long = length_chosen s.source.now s.from s.many c.requires.1 in
    (refl, part_stored s.image.now s.at _ (take s.many (drop s.from s.source.now)) _ (rw chosen at c.copy_from_slice.ensures.after) (omega (arith, long)))
