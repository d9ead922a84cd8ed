use borrow.Enum.Refused.{opened}
use borrow.Author.Rules.{rules}
use native.Mathlib.Omega.{arith}
use Rattle.image_marks.proofs.Adts.{not_another_kind, adt_range, adt_taken_lem, other_taken}
use Rattle.image_marks.proofs.take_variants.Goals as goal

pub returns-in_default : goal.returns-in_default
returns-in_default c = other_taken _ _ c.type_at-row.ensures c.from-kind.ensures _ _ (λ e. not_another_kind (rw e at (opened c.in_default.in_default-own.keys2)))

pub take_range-requires : goal.take_range-requires
take_range-requires c =
    let known = c.requires in
    let range = adt_range _ _ c.type_at-row.ensures c.from-kind.ensures c.in-Adt.is known.4 in
    (omega (arith, known.0.variant_count_lem), omega arith)

pub returns : goal.returns
returns c =
    let is-adt = c.in-Adt.is in
    adt_taken_lem _ _ c.type_at-row.ensures c.from-kind.ensures is-adt c.requires.0.variant_count_lem c.take_range.ensures
