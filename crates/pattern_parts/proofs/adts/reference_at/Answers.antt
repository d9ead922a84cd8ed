use Rattle.refusals.proofs.Passing.{passed, passed_none}
use borrow.Enum.Refused.{opened}
use borrow.Author.Rules.{rules}
use native.Mathlib.Omega.{arith}
use mathlib.Core.Path.{refl, sym, ◌∙◌}
use Rattle.image.specs.Types.{shape_by}
use Rattle.pattern_parts.specs.Parts.{reference_at}
use Rattle.pattern_parts.proofs.Typing.{needed_named, needed_refused, shape_known, shape_none, shape_other}
use Rattle.pattern_parts.proofs.Defaults.{no_reference}
use Rattle.pattern_parts.proofs.adts.reference_at.Goals as goal

pub returns-in_err-needed_ty : goal.returns-in_err-needed_ty
unfolding reference_at
returns-in_err-needed_ty c = rw (passed _ _ c.from_residual.ensures.1) (rw (shape_none _ _ c.in_err-needed_ty.ensures, needed_refused _ c.in_err-needed_ty.ensures) refl)

pub returns-in_err-t : goal.returns-in_err-t
returns-in_err-t c = rw (passed_none _ _ _ _ c.from_residual-in_err-t.ensures.1 c.in_err-t.ensures.ok_part c.in_err-t.ensures.value) (sym (shape_other _ _ (rw c.in_err-t.ensures.ok_part at c.in_ok-needed_ty.ensures)).no_reference)

pub type_at-requires : goal.type_at-requires
type_at-requires c = (c.requires.1, omega (arith, c.requires.1.type_count_lem, needed_named _ _ (rw c.in_ok-t.ensures.ok_part at c.in_ok-needed_ty.ensures) c.requires.2))

pub returns-in-Reference : goal.returns-in-Reference
unfolding reference_at shape_by
returns-in-Reference c = rw (shape_known _ _ (rw c.in_ok-t.ensures.ok_part at c.in_ok-needed_ty.ensures) c.type_at.ensures (sym c.in-Reference.is ∙ c.from.ensures)) refl

pub returns-in_default : goal.returns-in_default
returns-in_default c = rw (shape_known _ _ (rw c.in_ok-t.ensures.ok_part at c.in_ok-needed_ty.ensures) c.type_at.ensures c.from.ensures) (no_reference _ _ _ (opened c.in_default.in_default-own.keys2))
