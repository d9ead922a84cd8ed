use Rattle.refusals.proofs.Passing.{passed_none}
use Rattle.std.specs.Prelude.{Some, Err}
use borrow.Author.Rules.{rules}
use mathlib.Core.Path.{sym, ◌∙◌}
use native.Mathlib.Omega.{arith}
use Rattle.state.proofs.RowLengths.{place_rvalue_length}
use Rattle.pattern_tests.proofs.Assigning.{assign_fits}
use Rattle.pattern_tests.proofs.Discriminating.{discriminant_lies, discriminant_long, discriminant_halves, discriminant_no_temp, discriminant_full, discriminant_switches}
use Rattle.pattern_tests.proofs.discriminants.discriminant_test.Goals as goal

pub operand_bytes-bytes-requires : goal.operand_bytes-bytes-requires
operand_bytes-bytes-requires c = (c.requires.image_value.1, omega (arith, c.requires.image_value.1.data_count_lem, discriminant_lies _ _ c.requires.image_value.0 c.requires.image_value.2 c.variant_at-row.ensures))

pub half-low-requires : goal.half-low-requires
half-low-requires c = omega (arith, discriminant_long _ c.variant_at-row.result c.operand_bytes-bytes.ensures c.requires.image_value.1 (discriminant_lies _ _ c.requires.image_value.0 c.requires.image_value.2 c.variant_at-row.ensures))

pub half-high-requires : goal.half-high-requires
half-high-requires c = omega (arith, discriminant_long _ c.variant_at-row.result c.operand_bytes-bytes.ensures c.requires.image_value.1 (discriminant_lies _ _ c.requires.image_value.0 c.requires.image_value.2 c.variant_at-row.ensures))

pub returns-in_err-c2-in-Ok : goal.returns-in_err-c2-in-Ok
returns-in_err-c2-in-Ok c = rw (passed_none _ _ _ _ c.from_residual.ensures.1 c.in_err-c2-in-Ok.ensures.ok_part c.in_err-c2-in-Ok.ensures.value) (discriminant_full _ _ _ _ _ _ _ _ (search (rules, c.well_formed.1.1.1.1.1.1.1.1.0)) (rw c.in-Ok.is at c.discr_temp_place.ensures) c.push_assignment.ensures.1 (sym c.in_err-c2-in-Ok.ensures.ok_part ∙ c.push_assignment.ensures.0))

pub then_switch-requires : goal.then_switch-requires
then_switch-requires c = assign_fits _ (rw c.in-Ok.is at c.discr_temp_place.ensures) (place_rvalue_length _ _ _ _ (search (rules, c.well_formed.1.1.1.1.1.1.1.1.0))) c.push_assignment.ensures.1 (sym c.in_ok-c2-in-Ok.ensures.ok_part ∙ c.push_assignment.ensures.0) c.requires.ready.0 c.requires.ready.1

pub returns-in-Err : goal.returns-in-Err
returns-in-Err c = discriminant_no_temp _ _ _ _ _ _ _ _ (rw c.in-Err.is at c.discr_temp_place.ensures)

pub returns-in_ok-c2-in-Ok : goal.returns-in_ok-c2-in-Ok
returns-in_ok-c2-in-Ok c =
    let long = discriminant_long _ c.variant_at-row.result c.operand_bytes-bytes.ensures c.requires.image_value.1 (discriminant_lies _ _ c.requires.image_value.0 c.requires.image_value.2 c.variant_at-row.ensures) in
    discriminant_switches _ _ _ _ _ _ _ _ (search (rules, c.well_formed.1.1.1.1.1.1.1.1.0)) (rw c.in-Ok.is at c.discr_temp_place.ensures) c.push_assignment.ensures.1
    (discriminant_halves _ c.variant_at-row.result c.operand_bytes-bytes.ensures _ c.variant_at-row.ensures long (λ i. (c.type_inv.image i).fits) c.half-low.ensures c.half-high.ensures)
    (sym c.in_ok-c2-in-Ok.ensures.ok_part ∙ c.push_assignment.ensures.0) c.requires.ready.0 c.requires.ready.1 c.then_switch.ensures
