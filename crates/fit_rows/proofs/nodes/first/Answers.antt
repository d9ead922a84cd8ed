use mathlib.Core.Path.{◌∙◌}
use native.Mathlib.Omega.{arith}
use Rattle.fit_rows.proofs.Ways.{first_itself, first_in_list}
use Rattle.fit_rows.proofs.Rows.{first_listed}
use Rattle.fit_rows.proofs.nodes.first.Goals as goal

pub returns-then-row-eq0 : goal.returns-then-row-eq0
returns-then-row-eq0 c = first_itself _ _ _ c.if-row-eq0.true

pub list_at-requires : goal.list_at-requires
list_at-requires c =
    let known = c.requires in
    let listed = first_listed known.1 (λ e. omega (arith, e, known.2)) c.if-row-eq0.false in
    (known.0, omega (arith, known.0.list_count_lem, listed))

pub returns : goal.returns
returns c = c.list_at.ensures ∙ first_in_list _ _ _ c.if-row-eq0.false
