use Prim.Native.Nat.{◌+◌}
use mathlib.Core.Path.{sym}
use native.Mathlib.Omega.{arith}
use borrow.Author.Tests.{not-true, not-false, lt-leb}
use Rattle.image.proofs.Bools.{and_false_left, and_false_right}
use Rattle.listing_text.proofs.Pieces.{room_left}
use Rattle.listing_text.proofs.pen.has_room.Goals as goal

pub returns-then-not-pen : goal.returns-then-not-pen
returns-then-not-pen c = sym (and_false_left c.args.pen.ok _ ((not-true (_) c.if-not-pen.true)))

pub returns-then-room-pen : goal.returns-then-room-pen
returns-then-room-pen c = sym (and_false_right c.args.pen.ok _ (lt-leb (c.args.pen.at + c.args.count) _ (omega arith)))

pub returns : goal.returns
returns c = room_left c.args.room c.args.pen c.args.count ((not-false (_) c.if-not-pen.false)) (omega arith)
