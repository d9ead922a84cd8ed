use native.Mathlib.Omega.{arith}
use Rattle.row_tables.proofs.Loops.{put_stored}
use Rattle.row_tables.proofs.store_row.Goals as goal

pub returns : goal.returns
returns c = rw c.copy_from_slice.ensures.after (put_stored c.args.table.now c.args.at _ c.args.row.now (omega arith))
