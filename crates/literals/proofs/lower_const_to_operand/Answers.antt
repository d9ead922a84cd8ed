use mathlib.Core.Path.{◌∙◌}
use native.Mathlib.Omega.{arith}
use Rattle.image.specs.Types.{operand_of}
use Rattle.literals.proofs.Operands.{operand_listed, operand_lies_lem, bytes_counted, constant_bytes_lem}
use Rattle.literals.proofs.Answers.{all_bytes, const_of}
use Rattle.literals.proofs.lower_const_to_operand.Goals as goal

pub operand_at-row-requires : goal.operand_at-row-requires
operand_at-row-requires c = (c.requires.0, omega (arith, c.requires.0.list_count_lem, operand_listed _ _ c.requires.1))

pub operand_bytes-bytes-requires : goal.operand_bytes-bytes-requires
operand_bytes-bytes-requires c = (c.requires.0, omega (arith, c.requires.0.data_count_lem, operand_lies_lem _ _ c.requires.1 c.operand_at-row.ensures))

pub constant_of-requires : goal.constant_of-requires
unfolding operand_of
constant_of-requires c =
    let long = bytes_counted _ _ c.requires.1 c.operand_at-row.ensures c.operand_bytes-bytes.ensures c.requires.0 in
    let few = constant_bytes_lem _ _ c.requires.1 c.operand_at-row.ensures c.operand_bytes-bytes.ensures (rw c.operand_at-row.ensures) c.requires.2 in
    (omega arith, omega arith)

pub returns : goal.returns
returns c =
    let long = bytes_counted _ _ c.requires.1 c.operand_at-row.ensures c.operand_bytes-bytes.ensures c.requires.0 in
    all_bytes _ _ _ long c.constant_of.ensures ∙ const_of _ _ c.operand_at-row.ensures _ c.operand_bytes-bytes.ensures
