use mathlib.Core.Path.{◌∙◌}
use native.Mathlib.Omega.{arith}
use Rattle.fit_shapes.proofs.Resting.{pattern_inside, rest_none, rest_there}
use Rattle.fit_shapes.proofs.slices.is_rest.Goals as goal

pub returns-then-q-eq65535 : goal.returns-then-q-eq65535
returns-then-q-eq65535 c = rest_none _ _ c.if-q-eq65535.true

pub pat_at-requires : goal.pat_at-requires
pat_at-requires c = (c.requires.1, omega (arith, c.requires.1.pattern_count_lem, pattern_inside _ _ c.if-q-eq65535.false c.requires.2))

pub returns : goal.returns
returns c = c.is_rest_kind.ensures ∙ rest_there _ _ c.if-q-eq65535.false c.requires.0 (pattern_inside _ _ c.if-q-eq65535.false c.requires.2) c.pat_at.ensures c.from.ensures
