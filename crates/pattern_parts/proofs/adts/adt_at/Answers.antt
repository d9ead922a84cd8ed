use Rattle.refusals.proofs.Passing.{passed, passed_none}
use borrow.Enum.Refused.{opened}
use borrow.Author.Rules.{rules}
use native.Mathlib.Omega.{arith}
use mathlib.Core.Path.{refl, sym, ◌∙◌}
use Rattle.image.specs.Types.{shape_by}
use Rattle.pattern_parts.specs.Parts.{adt_at}
use Rattle.pattern_parts.proofs.Typing.{needed_named, needed_refused, shape_known, shape_none, shape_other}
use Rattle.pattern_parts.proofs.Defaults.{no_adt}
use Rattle.pattern_parts.proofs.adts.adt_at.Goals as goal

pub returns-in_err-needed_ty : goal.returns-in_err-needed_ty
unfolding adt_at
returns-in_err-needed_ty c = rw (passed _ _ c.from_residual.ensures.1) (rw (shape_none _ _ c.in_err-needed_ty.ensures, needed_refused _ c.in_err-needed_ty.ensures) refl)

pub returns-in_err-t : goal.returns-in_err-t
returns-in_err-t c = rw (passed_none _ _ _ _ c.from_residual-in_err-t.ensures.1 c.in_err-t.ensures.ok_part c.in_err-t.ensures.value) (sym ((shape_other _ _ (rw c.in_err-t.ensures.ok_part at c.in_ok-needed_ty.ensures)).no_adt _))

pub type_at-row-requires : goal.type_at-row-requires
type_at-row-requires c = (c.requires.1, omega (arith, c.requires.1.type_count_lem, needed_named _ _ (rw c.in_ok-t.ensures.ok_part at c.in_ok-needed_ty.ensures) c.requires.2))

pub returns-in-Adt : goal.returns-in-Adt
unfolding adt_at shape_by
returns-in-Adt c = rw (shape_known _ _ (rw c.in_ok-t.ensures.ok_part at c.in_ok-needed_ty.ensures) c.type_at-row.ensures (sym c.in-Adt.is ∙ c.from.ensures), ← c.from-in-Adt.ensures) c.variant_of.ensures

pub returns-in_default : goal.returns-in_default
returns-in_default c = rw (shape_known _ _ (rw c.in_ok-t.ensures.ok_part at c.in_ok-needed_ty.ensures) c.type_at-row.ensures c.from.ensures) (no_adt _ _ _ _ (opened c.in_default.in_default-own.keys2))
