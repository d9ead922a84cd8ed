use mathlib.Core.Path.{sym}
use native.Mathlib.Omega.{arith}
use Rattle.fit_shapes.proofs.Shaped.{no_array}
use Rattle.fit_shapes.proofs.Resting.{items_no_rest, items_rest}
use Rattle.fit_shapes.proofs.slices.items_fit.Goals as goal

pub type_at-row-requires : goal.type_at-row-requires
type_at-row-requires c = (c.requires.1, omega (arith, c.requires.1.type_count_lem, c.requires.2))

pub returns-then-row-ne8 : goal.returns-then-row-ne8
returns-then-row-ne8 c = sym (no_array _ _ c.type_at-row.ensures c.requires.0 c.requires.2 _ _ c.if-row-ne8.true)

pub returns-then-rest-eq65535 : goal.returns-then-rest-eq65535
returns-then-rest-eq65535 c = items_no_rest _ _ c.type_at-row.ensures c.if-row-ne8.false _ _ c.if-rest-eq65535.true

pub returns : goal.returns
returns c = items_rest _ _ c.type_at-row.ensures c.if-row-ne8.false _ _ c.if-rest-eq65535.false
