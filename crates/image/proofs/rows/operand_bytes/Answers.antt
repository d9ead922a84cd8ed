use borrow.Author.Rules.{rules}
use Prim.Native.Nat.{◌+◌, ◌-◌}
use mathlib.Core.Path.{◌≡◌}
use native.Mathlib.Omega.{arith}
use Rattle.image.specs.Rows.{operand_bytes}
use Rattle.image.proofs.rows.operand_bytes.Goals as goal

pub returns : goal.returns
unfolding operand_bytes
returns c =
    let a = c.args in
    let n : a.tables.bytes.at + a.operand.offset + a.operand.count - (a.tables.bytes.at + a.operand.offset) ≡ a.operand.count = omega arith in
    rw (n, c.requires.0.bytes)
