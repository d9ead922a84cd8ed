use Prim.Native.Nat.{ℕ, ◌+◌, ◌-◌}
use mathlib.Core.Path.{◌≡◌}
use mathlib.Core.List.{List}
use native.Mathlib.Omega.{arith}
use lib.ListN.{length}
use lib.Seq.{drop-drop}
use borrow.Rule.Slice.PartMut.{put_mid}
use Rattle.row_tables.specs.Rows.{stored}
use Rattle.listing_text.proofs.pen.copy_in.Goals as goal

-- the part of the buffer that is replaced is as long as the text
put_there : (b : List ℕ) (at : ℕ) (text part : List ℕ) → part ≡ text → put_mid at (at + length text - at) b part ≡ stored b at text
unfolding stored
put_there b at text part e =
    let long : at + length text - at ≡ length text = omega arith in
    rw (e, long, drop-drop (length text) at b)

pub returns : goal.returns
returns c = put_there c.args.out.now c.args.at c.args.text.now c.copy_from_slice.new.self c.copy_from_slice.ensures.after
