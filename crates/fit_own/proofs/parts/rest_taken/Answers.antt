use borrow.Author.Rules.{rules}
use native.Mathlib.Omega.{arith}
use Rattle.fit_shapes.proofs.Resting.{pattern_inside}
use Rattle.fit_own.proofs.Wording.{binding_inside, rest_none, rest_by_lem}
use Rattle.fit_own.proofs.parts.rest_taken.Goals as goal

pub returns-then-rest-eq65535 : goal.returns-then-rest-eq65535
returns-then-rest-eq65535 c = rest_none _ _ _ c.if-rest-eq65535.true

pub pat_at-row-requires : goal.pat_at-row-requires
pat_at-row-requires c = (c.requires.1, omega (arith, c.requires.1.pattern_count_lem, pattern_inside _ _ c.if-rest-eq65535.false c.requires.2))

pub rest_kind_taken-requires : goal.rest_kind_taken-requires
rest_kind_taken-requires c = binding_inside _ c.args.bindings.now _ c.pat_at-row.ensures c.from.ensures c.requires.0 (pattern_inside _ _ c.if-rest-eq65535.false c.requires.2) c.requires.3

pub returns : goal.returns
returns c = rest_by_lem _ _ _ c.if-rest-eq65535.false c.requires.0 (pattern_inside _ _ c.if-rest-eq65535.false c.requires.2) c.pat_at-row.ensures c.from.ensures c.rest_kind_taken.ensures
