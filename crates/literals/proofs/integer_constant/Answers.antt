use borrow.Enum.Refused.{opened}
use borrow.Author.Rules.{rules}
use mathlib.Core.Path.{◌∙◌, ap, refl}
use native.Mathlib.Omega.{arith}
use Rattle.image.specs.declared.kinds.TypeKind.{TypeKind}
use Rattle.image.specs.Types.{shape_by}
use Rattle.image.proofs.Known.{shape_holds}
use Rattle.refusals.specs.Refusals.{done}
use Rattle.literals.specs.Literals.{integer_constant}
use Rattle.literals.proofs.Operands.{integer_size}
use Rattle.literals.proofs.Answers.{integer_by}
use Rattle.literals.proofs.Defaults.{no_integer}
use Rattle.literals.proofs.integer_constant.Goals as goal

pub type_at-row-requires : goal.type_at-row-requires
type_at-row-requires c = (c.requires.1, omega (arith, c.requires.1.type_count_lem))

pub constant_of-requires : goal.constant_of-requires
constant_of-requires c =
    let holds = rw (← c.type_at-row.ensures, ← c.from.ensures) at (shape_holds _ _ c.requires.0 c.requires.2) in
    let few = integer_size _ _ c.in-Integer.is holds in
    (omega (arith, c.requires.3), omega arith)

pub returns-in-Integer : goal.returns-in-Integer
unfolding integer_constant shape_by
returns-in-Integer c = ap done c.constant_of.ensures ∙ integer_by _ _ _ TypeKind.Integer c.type_at-row.ensures c.from.ensures c.in-Integer.is

pub returns-in_default : goal.returns-in_default
returns-in_default c = no_integer _ _ _ _ _ (opened c.in_default.in_default-own.keys2) ∙ integer_by _ _ _ _ c.type_at-row.ensures c.from.ensures refl
