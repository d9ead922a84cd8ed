use mathlib.Core.Bool.{not}
use mathlib.Core.Path.{ap}
use native.Mathlib.Omega.{arith}
use Rattle.listing_text.proofs.Pieces.{no_room, room, written, stored_one}
use Rattle.listing_text.proofs.pen.put_byte.Goals as goal

pub returns-then-not-has_room : goal.returns-then-not-has_room
returns-then-not-has_room c = no_room c.has_room.ensures (ap not c.if-not-has_room.true)

pub bounds-out-at : goal.bounds-out-at
bounds-out-at c = omega (arith, room c.args.out.now c.args.pen 1 c.has_room.result c.has_room.ensures (ap not c.if-not-has_room.false))

pub overflow_add-result : goal.overflow_add-result
overflow_add-result c = omega (arith, room c.args.out.now c.args.pen 1 c.has_room.result c.has_room.ensures (ap not c.if-not-has_room.false))

pub returns : goal.returns
returns c = written c.has_room.ensures (ap not c.if-not-has_room.false) (stored_one c.args.out.now c.args.pen.at c.args.byte (omega (arith, room c.args.out.now c.args.pen 1 c.has_room.result c.has_room.ensures (ap not c.if-not-has_room.false))))
