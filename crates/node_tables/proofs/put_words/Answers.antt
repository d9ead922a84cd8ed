use borrow.Author.Rules.{rules}
use native.Mathlib.Omega.{arith}
use lib.ListN.{length-set}
use Rattle.node_tables.proofs.Putting.{puts_row}
use Rattle.node_tables.proofs.put_words.Goals as goal

pub bounds-table-i-2 : goal.bounds-table-i-2
bounds-table-i-2 c = simp length-set (omega arith)

pub bounds-table-i-3 : goal.bounds-table-i-3
bounds-table-i-3 c = simp length-set (omega arith)

pub bounds-table-i-4 : goal.bounds-table-i-4
bounds-table-i-4 c = simp length-set (omega arith)

pub bounds-table-i-5 : goal.bounds-table-i-5
bounds-table-i-5 c = simp length-set (omega arith)

pub bounds-table-i-6 : goal.bounds-table-i-6
bounds-table-i-6 c = simp length-set (omega arith)

pub bounds-table-i-7 : goal.bounds-table-i-7
bounds-table-i-7 c = simp length-set (omega arith)

pub shape_of-table : goal.shape_of-table
shape_of-table c = simp length-set

pub returns : goal.returns
returns c = puts_row _ _ _ _ _ _ _ _ _ (omega arith) (omega arith)
