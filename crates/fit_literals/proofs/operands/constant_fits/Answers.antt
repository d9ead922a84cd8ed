use borrow.Author.Rules.{rules}
use mathlib.Core.Path.{◌∙◌}
use native.Mathlib.Omega.{arith}
use Rattle.literals.proofs.Operands.{operand_listed, operand_lies_lem}
use Rattle.fit_literals.proofs.Clauses.{constant_at_lem, constant_by_lem}
use Rattle.fit_literals.proofs.operands.constant_fits.Goals as goal

pub type_at-row-requires : goal.type_at-row-requires
type_at-row-requires c = (c.requires.0, omega (arith, c.requires.0.type_count_lem, c.requires.1))

pub operand_at-operand-requires : goal.operand_at-operand-requires
operand_at-operand-requires c = (c.requires.0, omega (arith, c.requires.0.list_count_lem, operand_listed _ _ c.requires.2))

pub operand_bytes-requires : goal.operand_bytes-requires
operand_bytes-requires c = (c.requires.0, omega (arith, c.requires.0.data_count_lem, operand_lies_lem _ _ c.requires.2 c.operand_at-operand.ensures))

pub returns : goal.returns
returns c = c.bytes_fit.ensures ∙ constant_at_lem _ _ c.type_at-row.ensures c.from.ensures _ ∙ constant_by_lem _ _ c.operand_at-operand.ensures _ c.operand_bytes.ensures
