use borrow.Author.Rules.{rules}
use mathlib.Core.Path.{sym, refl}
use Rattle.image.specs.declared.kinds.OperandKind.{OperandKind}
use Rattle.image.specs.Kinds.{operand_kinds}
use Rattle.image.proofs.Defaults.{default-from-one}
use Rattle.image.proofs.kinds.OperandKindFromU16.from.Goals as goal

pub returns-in_default : goal.returns-in_default
returns-in_default c = sym (default-from-one operand_kinds OperandKind.Unknown c.args.kind 10 refl refl c.in_default.in_default-own.rest)
