use borrow.Enum.Refused.{opened}
use borrow.Author.Rules.{rules}
use mathlib.Core.Path.{◌∙◌}
use Rattle.image.specs.Operands.{operand_value_holds}
use Rattle.image.specs.Types.{shape_by}
use Rattle.meaning.specs.Fit.{constant_fits}
use Rattle.fit_literals.proofs.Clauses.{bool_bytes_fit, no_scalar}
use Rattle.fit_literals.proofs.operands.bytes_fit.Goals as goal

pub returns-in-Integer : goal.returns-in-Integer
unfolding constant_fits shape_by
returns-in-Integer c = rw c.in-Integer.is

pub returns-in-Bool : goal.returns-in-Bool
unfolding shape_by
returns-in-Bool c = rw c.in-Bool.is (c.is_bool.ensures ∙ bool_bytes_fit _)

pub returns-in-Char : goal.returns-in-Char
unfolding constant_fits operand_value_holds shape_by
returns-in-Char c = rw c.in-Char.is c.is_char.ensures

pub returns-in_default : goal.returns-in_default
returns-in_default c = no_scalar _ _ _ _ (opened c.in_default.in_default-own.keys4)
