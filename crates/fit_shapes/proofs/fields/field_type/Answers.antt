use native.Mathlib.Omega.{arith}
use Rattle.fit_shapes.proofs.Fielding.{field_past, field_here}
use Rattle.fit_shapes.proofs.fields.field_type.Goals as goal

pub returns-then-fields-f : goal.returns-then-fields-f
returns-then-fields-f c = field_past _ _ _ _ (omega arith) c.if-fields-f.true

pub overflow_add-fields : goal.overflow_add-fields
overflow_add-fields c = omega (arith, c.requires.1.within, c.requires.0.list_count_lem)

pub list_at-requires : goal.list_at-requires
list_at-requires c = (c.requires.0, omega (arith, c.requires.1.within, c.requires.0.list_count_lem))

pub returns : goal.returns
returns c = rw c.list_at.ensures (field_here _ _ _ _ (omega arith) c.if-fields-f.false c.requires.1)
