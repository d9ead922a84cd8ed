use borrow.Author.Rules.{rules}
use mathlib.Core.Path.{sym, subst, ◌∙◌}
use native.Mathlib.Omega.{arith}
use Rattle.node_rows.specs.Nodes.{literal_in}
use Rattle.draft_operands.specs.Literals.{IsOperandOf}
use Rattle.draft_operands.proofs.Operands.{as_bool, as_char, whole_way, minus_way, never_over}
use Rattle.draft_operands.proofs.literal_bytes.Goals as goal

pub returns-then-sort-lt2 : goal.returns-then-sort-lt2
returns-then-sort-lt2 c = subst (IsOperandOf (literal_in c.args.text.now c.args.sort c.args.from c.args.to)) (sym c.operand_of.ensures) (as_bool c.args.text.now c.args.from c.args.to c.args.sort c.if-sort-lt2.true)

pub returns-then-sort-eq2 : goal.returns-then-sort-eq2
returns-then-sort-eq2 c = subst (IsOperandOf (literal_in c.args.text.now c.args.sort c.args.from c.args.to)) (sym c.operand_of-then-sort-eq2.ensures) (as_char c.args.text.now c.args.from c.args.to c.args.sort c.if-sort-eq2.true)

pub returns-in_default : goal.returns-in_default
returns-in_default c = absurd (never_over c.args.text.now c.args.from c.args.to c.args.sort c.requires (omega (arith, c.if-sort-lt2.false, c.if-sort-eq2.false)) (sym c.in_default.is ∙ c.integer_value.ensures))

pub returns-then-sort-eq3 : goal.returns-then-sort-eq3
returns-then-sort-eq3 c = subst (IsOperandOf (literal_in c.args.text.now c.args.sort c.args.from c.args.to)) (sym c.operand_of-then-sort-eq3.ensures) (whole_way c.args.text.now c.args.from c.args.to c.args.sort c.requires c.in-Some.low c.in-Some.high c.if-sort-eq3.true (sym c.in-Some.is ∙ c.integer_value.ensures))

pub returns : goal.returns
returns c = subst (IsOperandOf (literal_in c.args.text.now c.args.sort c.args.from c.args.to)) (sym c.operand_of-2.ensures) (minus_way c.args.text.now c.args.from c.args.to c.args.sort c.requires c.in-Some.low c.in-Some.high c.minus_halves-minus.result.low c.minus_halves-minus.result.high (omega (arith, c.if-sort-lt2.false, c.if-sort-eq2.false, c.if-sort-eq3.false)) (sym c.in-Some.is ∙ c.integer_value.ensures) c.minus_halves-minus.ensures)
