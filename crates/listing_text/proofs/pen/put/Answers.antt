use mathlib.Core.Bool.{not}
use mathlib.Core.Path.{ap}
use native.Mathlib.Omega.{arith}
use lib.ListN.{length}
use Rattle.listing_text.proofs.Pieces.{no_room, room, written}
use Rattle.listing_text.proofs.pen.put.Goals as goal

pub returns-then-not-has_room : goal.returns-then-not-has_room
returns-then-not-has_room c = no_room c.has_room.ensures (ap not c.if-not-has_room.true)

pub copy_in-requires : goal.copy_in-requires
copy_in-requires c = room c.args.out.now c.args.pen (length c.args.text.now) c.has_room.result c.has_room.ensures (ap not c.if-not-has_room.false)

pub overflow_add-result : goal.overflow_add-result
overflow_add-result c = omega (arith, room c.args.out.now c.args.pen (length c.args.text.now) c.has_room.result c.has_room.ensures (ap not c.if-not-has_room.false), c.well_formed)

pub returns : goal.returns
returns c = written c.has_room.ensures (ap not c.if-not-has_room.false) c.copy_in.ensures
