use native.Mathlib.Omega.{arith}
use Rattle.fit_shapes.proofs.Fielding.{tuple_other, tuple_here}
use Rattle.fit_shapes.proofs.fields.tuple_fields.Goals as goal

pub type_at-row-requires : goal.type_at-row-requires
type_at-row-requires c = (c.requires.1, omega (arith, c.requires.1.type_count_lem, c.requires.2))

pub returns-then-row-ne5 : goal.returns-then-row-ne5
returns-then-row-ne5 c = tuple_other _ _ c.type_at-row.ensures c.requires.0 c.requires.2 c.if-row-ne5.true

pub returns : goal.returns
returns c = tuple_here _ _ c.type_at-row.ensures c.requires.0 c.requires.2 c.if-row-ne5.false
