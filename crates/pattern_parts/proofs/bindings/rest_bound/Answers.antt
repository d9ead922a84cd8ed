use borrow.Author.Rules.{rules}
use mathlib.Core.Path.{sym, ap, ◌∙◌}
use native.Mathlib.Omega.{arith}
use borrow.Author.Tests.{not-true, not-false}
use Rattle.pattern_parts.specs.Parts.{is_bind}
use Rattle.pattern_parts.proofs.Resting.{rest_there, rest_names, rest_none, rest_in_check, rest_ignored, rest_binds}
use Rattle.pattern_parts.proofs.bindings.rest_bound.Goals as goal

pub returns-then-rest-eq65535 : goal.returns-then-rest-eq65535
returns-then-rest-eq65535 c = rest_none _ _ _ _ _ _ _ _ _ _ _ _ c.requires.ready.1 c.if-rest-eq65535.true

pub returns-then-is_check : goal.returns-then-is_check
returns-then-is_check c = rest_in_check _ _ _ _ _ _ _ _ _ _ _ _ c.requires.ready.1 (sym c.is_check.ensures ∙ c.if-is_check.true)

pub pat_at-row-requires : goal.pat_at-row-requires
pat_at-row-requires c = (c.requires.image_value.1, omega (arith, c.requires.image_value.1.pattern_count_lem, rest_there _ _ c.requires.image_value.2 c.if-rest-eq65535.false))

pub returns-then-not-is_bind : goal.returns-then-not-is_bind
returns-then-not-is_bind c = rest_ignored _ _ _ _ _ _ _ _ _ _ _ _ c.requires.image_value.0 (rest_there _ _ c.requires.image_value.2 c.if-rest-eq65535.false) c.if-rest-eq65535.false c.pat_at-row.ensures c.requires.ready.1 (sym (c.is_bind.ensures ∙ ap is_bind c.from.ensures) ∙ c.if-not-is_bind.true)

pub fill_rest-requires : goal.fill_rest-requires
fill_rest-requires c = (rw c.requires.image_value.3 (rest_names _ _ c.requires.image_value.0 (rest_there _ _ c.requires.image_value.2 c.if-rest-eq65535.false) c.pat_at-row.ensures (sym (c.is_bind.ensures ∙ ap is_bind c.from.ensures) ∙ c.if-not-is_bind.false)), c.requires.image_value.4, c.requires.ready.0, c.requires.ready.1)

pub returns : goal.returns
returns c = rest_binds _ _ _ _ _ _ _ _ _ _ _ _ c.requires.image_value.0 (rest_there _ _ c.requires.image_value.2 c.if-rest-eq65535.false) c.if-rest-eq65535.false c.pat_at-row.ensures (sym c.is_check.ensures ∙ c.if-is_check.false) (sym (c.is_bind.ensures ∙ ap is_bind c.from.ensures) ∙ c.if-not-is_bind.false) c.from-2.ensures c.fill_rest.ensures
