-- What an operand that holds tells of the list. Assumes nothing.
use Prim.Native.Nat.{ℕ, ◌+◌, ◌≤◌}
use mathlib.Core.Path.{◌≡◌}
use mathlib.Core.Bool.{true, ◌&&◌}
use mathlib.Core.List.{List}
use native.Mathlib.Omega.{arith}
use borrow.Author.Tests.{leb-true}
use lib.Dec.{leb}
use Rattle.image.specs.declared.Tables.{Tables}
use Rattle.image.specs.Tables.{Whole, list_count}
use Rattle.image.specs.Kinds.{operand_kind}
use Rattle.image.specs.Rows.{operand_at, operand_bytes}
use Rattle.image.specs.Operands.{operand_lies, operand_value_holds, operand_holds}
use Rattle.image.proofs.Bools.{and_left}

-- an operand that holds has its three words in the list
pub operand_listed : (image : List ℕ) (tables : Tables) (o : ℕ) → Whole image tables → operand_holds image o ≡ true → o + 3 ≤ tables.list.count
unfolding operand_holds
operand_listed image tables o w e =
    let words = leb (o + 3) (list_count image) in
    let lies = operand_lies image (operand_at image o) in
    let value = operand_value_holds (operand_kind (operand_at image o).kind) (operand_bytes image (operand_at image o)) in
    let fits = leb-true (o + 3) (list_count image) (and_left words lies (and_left (words && lies) value e)) in
    omega (arith, fits, w.list_count_lem)
