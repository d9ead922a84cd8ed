use borrow.Enum.Refused.{opened}
use borrow.Author.Rules.{rules}
use mathlib.Core.Path.{refl, sym, ap, ◌∙◌}
use native.Mathlib.Omega.{arith}
use Rattle.image.specs.Patterns.{pattern_shape_holds}
use Rattle.literals.proofs.Operands.{operand_listed}
use Rattle.literals.proofs.Answers.{kind_of_lem}
use Rattle.pattern_tests.specs.Testing.{is_literal}
use Rattle.pattern_idle.specs.Idle.{names_constant, idle_beyond_check}
use Rattle.pattern_idle.proofs.Defaults.{does_more}
use Rattle.pattern_idle.proofs.idle_beyond_check.Goals as goal

pub names_constant-requires : goal.names_constant-requires
names_constant-requires c = tt

pub operand_at-requires : goal.operand_at-requires
unfolding pattern_shape_holds
operand_at-requires c = (c.requires.0, omega (arith, c.requires.0.list_count_lem, operand_listed _ _ (rw c.in-Lit.is at c.requires.1)))

pub is_literal-requires : goal.is_literal-requires
is_literal-requires c = tt

pub returns-in-Wild : goal.returns-in-Wild
unfolding idle_beyond_check
returns-in-Wild c = rw c.in-Wild.is refl

pub returns-in-Range : goal.returns-in-Range
unfolding idle_beyond_check
returns-in-Range c = rw c.in-Range.is refl

pub returns-in-Path : goal.returns-in-Path
unfolding idle_beyond_check
returns-in-Path c = rw c.in-Path.is (c.names_constant.ensures ∙ ap names_constant c.from.ensures)

pub returns-in-Lit : goal.returns-in-Lit
unfolding idle_beyond_check
returns-in-Lit c = rw c.in-Lit.is (c.is_literal.ensures ∙ ap is_literal (sym (kind_of_lem _ _ c.operand_at.ensures _ c.from-in-Lit.ensures refl)))

pub returns-in_default : goal.returns-in_default
returns-in_default c = does_more _ _ _ (opened c.in_default.in_default-own.keys5)
