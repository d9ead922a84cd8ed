use borrow.Author.Rules.{rules}
use mathlib.Core.Path.{◌∙◌}
use native.Mathlib.Omega.{arith}
use Rattle.fit_rows.proofs.Ways.{rest_absent, rest_below, rest_is_lem}
use Rattle.fit_rows.proofs.nodes.rest_own.Goals as goal

pub returns-then-d-eq65535 : goal.returns-then-d-eq65535
returns-then-d-eq65535 c = rest_absent _ _ _ _ c.if-d-eq65535.true

pub pat_at-row-requires : goal.pat_at-row-requires
pat_at-row-requires c =
    let known = c.requires in
    let low = rest_below _ _ c.if-d-eq65535.false known.2 in
    (known.0, omega (arith, known.0.pattern_count_lem, low))

pub rest_by_kind-requires : goal.rest_by_kind-requires
rest_by_kind-requires c = (c.requires.0, c.requires.1)

pub returns : goal.returns
returns c = c.rest_by_kind.ensures ∙ rest_is_lem _ _ _ _ c.if-d-eq65535.false c.pat_at-row.ensures c.from.ensures
