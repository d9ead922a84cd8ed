use borrow.Author.Rules.{rules}
use mathlib.Core.Path.{refl}
use native.Mathlib.Omega.{arith}
use Rattle.node_rows.specs.Makings.{makings_in}
use Rattle.image_making.proofs.DataBytes.{data_bytes_lem}
use Rattle.image_making.proofs.Limits.{room_for_image, image_made}
use Rattle.image_making.proofs.make_image.Goals as goal

pub returns-in_err-counts : goal.returns-in_err-counts
returns-in_err-counts c = rw c.from_residual.ensures (record { past = rw c.in_err-counts.was at c.emit_rows.ensures; kept = refl })

pub write_image-requires : goal.write_image-requires
write_image-requires c =
    let s = c.args in
    let p = c.requires in
    let done = rw c.in_ok-counts.was at c.emit_rows.ensures in
    ((p.0.whole, room_for_image s.text.now s.spelled.now s.makings.now s.sheet.now s.tables s.n p.0 c.in_ok-counts.counts _ (omega (arith, c.emit_rows.auto, p.1.1.1)) done), (omega (arith, c.emit_rows.auto, p.1.1.1), data_bytes_lem s.sheet.now s.spelled.now _ c.in_ok-counts.counts (makings_in s.text.now s.spelled.now s.makings.now s.n) done.holds))

pub returns : goal.returns
returns c =
    let s = c.args in
    let p = c.requires in
    let done = rw c.in_ok-counts.was at c.emit_rows.ensures in
    image_made s.text.now s.spelled.now s.makings.now s.sheet.now s.tables s.n p.0 c.in_ok-counts.counts _ (omega (arith, c.emit_rows.auto, p.1.1.1)) done s.image.now c.write_image.result _ c.write_image.ensures
