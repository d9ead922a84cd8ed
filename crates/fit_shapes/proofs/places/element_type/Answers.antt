use native.Mathlib.Omega.{arith}
use Rattle.fit_shapes.proofs.Numbering.{element_array, element_slice, element_other}
use Rattle.fit_shapes.proofs.places.element_type.Goals as goal

pub type_at-row-requires : goal.type_at-row-requires
type_at-row-requires c = (c.requires.1, omega (arith, c.requires.1.type_count_lem, c.requires.2))

pub returns-then-row-eq8 : goal.returns-then-row-eq8
returns-then-row-eq8 c = element_array _ _ c.type_at-row.ensures c.requires.0 c.requires.2 c.if-row-eq8.true

pub returns-then-row-eq9 : goal.returns-then-row-eq9
returns-then-row-eq9 c = element_slice _ _ c.type_at-row.ensures c.requires.0 c.requires.2 c.if-row-eq9.true

pub returns : goal.returns
returns c = element_other _ _ c.type_at-row.ensures c.requires.0 c.requires.2 c.if-row-eq8.false c.if-row-eq9.false
