use mathlib.Core.Path.{sym, ◌∙◌}
use native.Mathlib.Omega.{arith}
use Rattle.cases_spec.specs.Cases.{referent}
use Rattle.meaning.specs.Fit.{refers_to_str}
use Rattle.fit_literals.proofs.Shapes.{kind_of_lem, is_kind_lem, reference_of, refers_inside, refers_not}
use Rattle.fit_literals.proofs.operands.refers_to_str.Goals as goal

pub type_at-row-requires : goal.type_at-row-requires
type_at-row-requires c = (c.requires.1, omega (arith, c.requires.1.type_count_lem, c.requires.2))

pub returns-then-row-ne7 : goal.returns-then-row-ne7
returns-then-row-ne7 c = sym (refers_not _ _ (λ e. c.if-row-ne7.true (sym (kind_of_lem _ _ c.type_at-row.ensures c.requires.0 c.requires.2) ∙ e)))

pub type_at-requires : goal.type_at-requires
type_at-requires c = (c.requires.1, omega (arith, c.requires.1.type_count_lem, refers_inside _ _ c.type_at-row.ensures c.requires.0 c.requires.2 c.if-row-ne7.false))

pub returns : goal.returns
unfolding refers_to_str referent
returns c = rw (reference_of _ _ c.type_at-row.ensures c.if-row-ne7.false) (is_kind_lem _ _ c.type_at.ensures c.requires.0 (refers_inside _ _ c.type_at-row.ensures c.requires.0 c.requires.2 c.if-row-ne7.false) 4)
