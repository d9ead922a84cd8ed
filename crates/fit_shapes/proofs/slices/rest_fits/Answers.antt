use borrow.Enum.Refused.{opened}
use mathlib.Core.Path.{refl, ◌∙◌}
use native.Mathlib.Omega.{arith}
use Rattle.image.specs.declared.kinds.PatKind.{PatKind}
use Rattle.image.specs.Tree.{node_by}
use Rattle.meaning.specs.Fit.{rest_fits}
use Rattle.fit_shapes.proofs.Resting.{pattern_inside, no_rest_lem, rest_by_lem, bound_inside}
use Rattle.fit_shapes.proofs.Defaults.{rest_no_fit}
use Rattle.fit_shapes.proofs.slices.rest_fits.Goals as goal

pub returns-then-rest-eq65535 : goal.returns-then-rest-eq65535
returns-then-rest-eq65535 c = no_rest_lem _ _ c.if-rest-eq65535.true

pub pat_at-row-requires : goal.pat_at-row-requires
pat_at-row-requires c = (c.requires.1, omega (arith, c.requires.1.pattern_count_lem, pattern_inside _ _ c.if-rest-eq65535.false c.requires.2))

pub is_rest-requires : goal.is_rest-requires
is_rest-requires c = (c.requires.0, c.requires.1, bound_inside _ _ c.if-rest-eq65535.false c.requires.0 (pattern_inside _ _ c.if-rest-eq65535.false c.requires.2) c.pat_at-row.ensures c.from.ensures c.in-Bind.is)

pub returns-in-Rest : goal.returns-in-Rest
unfolding rest_fits node_by
returns-in-Rest c = rest_by_lem _ _ c.if-rest-eq65535.false c.requires.0 (pattern_inside _ _ c.if-rest-eq65535.false c.requires.2) c.pat_at-row.ensures c.from.ensures PatKind.Rest c.in-Rest.is

pub returns-in-Wild : goal.returns-in-Wild
unfolding rest_fits node_by
returns-in-Wild c = rest_by_lem _ _ c.if-rest-eq65535.false c.requires.0 (pattern_inside _ _ c.if-rest-eq65535.false c.requires.2) c.pat_at-row.ensures c.from.ensures PatKind.Wild c.in-Wild.is

pub returns-in-Bind : goal.returns-in-Bind
unfolding rest_fits node_by
returns-in-Bind c = c.is_rest.ensures ∙ rest_by_lem _ _ c.if-rest-eq65535.false c.requires.0 (pattern_inside _ _ c.if-rest-eq65535.false c.requires.2) c.pat_at-row.ensures c.from.ensures PatKind.Bind c.in-Bind.is

pub returns-in_default : goal.returns-in_default
returns-in_default c = rest_no_fit _ _ _ _ _ (opened c.in_default.in_default-own.keys4) ∙ rest_by_lem _ _ c.if-rest-eq65535.false c.requires.0 (pattern_inside _ _ c.if-rest-eq65535.false c.requires.2) c.pat_at-row.ensures c.from.ensures _ refl
