use borrow.Enum.Refused.{opened}
use borrow.Author.Rules.{rules}
use Rattle.image.specs.Operands.{operand_value_holds}
use Rattle.pattern_rules.proofs.Defaults.{any_bytes}
use Rattle.pattern_rules.proofs.operands.operand_value_holds.Goals as goal

pub returns-in-Int : goal.returns-in-Int
unfolding operand_value_holds
returns-in-Int c = rw c.in-Int.is

pub returns-in-Uint : goal.returns-in-Uint
unfolding operand_value_holds
returns-in-Uint c = rw c.in-Uint.is

pub returns-in-Char : goal.returns-in-Char
returns-in-Char c = rw c.in-Char.is c.is_char.ensures

pub returns-in-Bool : goal.returns-in-Bool
returns-in-Bool c = rw c.in-Bool.is c.is_bool.ensures

pub returns-in-Constant : goal.returns-in-Constant
returns-in-Constant c = rw c.in-Constant.is c.is_constant.ensures

pub returns-in-Unknown : goal.returns-in-Unknown
unfolding operand_value_holds
returns-in-Unknown c = rw c.in-Unknown.is

pub returns-in_default : goal.returns-in_default
returns-in_default c = any_bytes _ _ c.in_default.in_default-own.keys7
