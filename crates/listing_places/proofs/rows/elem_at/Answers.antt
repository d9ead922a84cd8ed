use Prim.Native.Nat.{◌+◌, ◌*◌}
use native.Mathlib.Omega.{arith}
use Rattle.listing_places.specs.RowParts.{elem_at}
use Rattle.listing_places.proofs.Readings.{past_row}
use Rattle.listing_places.proofs.rows.elem_at.Goals as goal

pub returns-then-j-ge16 : goal.returns-then-j-ge16
returns-then-j-ge16 c = past_row c.args.row.now c.args.j c.requires c.if-j-ge16.true

pub overflow_cast-row : goal.overflow_cast-row
overflow_cast-row c = omega (arith, c.type_inv.row (17 + 2 * c.args.j))

pub overflow_cast-row-2 : goal.overflow_cast-row-2
overflow_cast-row-2 c = omega (arith, c.type_inv.row (17 + 2 * c.args.j + 1))

pub overflow_mul-row : goal.overflow_mul-row
overflow_mul-row c = omega (arith, c.type_inv.row (17 + 2 * c.args.j + 1))

pub overflow_add-row : goal.overflow_add-row
overflow_add-row c = omega (arith, c.type_inv.row (17 + 2 * c.args.j), c.type_inv.row (17 + 2 * c.args.j + 1))

pub returns : goal.returns
unfolding elem_at
returns c = c.elem_of.ensures
