use mathlib.Core.Path.{sym, ◌∙◌}
use Rattle.std.proofs.Math.Nat.{sub-eq-zero_of_le}
use native.Mathlib.Omega.{arith}
use Rattle.fit_rows.proofs.Rows.{row_start, behind_small, some_there, next_at}
use Rattle.fit_rows.proofs.Known.{limits}
use Rattle.fit_rows.proofs.Walks.{at_pattern, node_row_lies, node_row_below}
use Rattle.fit_rows.proofs.Loops.{fits_start, fits_at, fits_none, fits_under, fits_joined, fits_more}
use Rattle.fit_bindings.proofs.clause.+all_fit.Goals as goal
use Rattle.fit_bindings.proofs.clause.+all_fit.Goals.{then-not-all_fit-via-then-not-all_fit, then-not-all_fit-via-else-not-all_fit+then-not-joined}

pub loop-k-init : goal.loop-k-init
loop-k-init t c = fits_at (row_start c.args.row) (fits_start c.requires.2)

pub behind-requires : goal.behind-requires
behind-requires t c =
    let small = limits _ c.requires.0 in
    behind_small c.args.row c.loop-k.k c.loop-k.invariant.walk.lies c.loop-k-test.true small.patterns small.list

pub first-p-requires : goal.first-p-requires
first-p-requires t c =
    let F = fits_at c.behind.ensures c.loop-k.invariant in
    let ne = some_there c.args.row c.loop-k.k c.behind.ensures c.loop-k-test.true in
    (c.requires.1, F.walk.lies, omega (arith, ne))

pub node_at-node-requires : goal.node_at-node-requires
node_at-node-requires t c =
    let F = fits_at c.behind.ensures c.loop-k.invariant in
    let ne = some_there c.args.row c.loop-k.k c.behind.ensures c.loop-k-test.true in
    (c.requires.0, c.requires.1, at_pattern F.walk ne c.first-p.ensures)

pub all_fit-requires : goal.all_fit-requires
all_fit-requires t c =
    let F = fits_at c.behind.ensures c.loop-k.invariant in
    let ne = some_there c.args.row c.loop-k.k c.behind.ensures c.loop-k-test.true in
    let v = c.requires.0 in
    let low = node_row_below F.walk ne c.first-p.ensures v c.node_at-node.ensures in
    (omega (arith, c.decreases, low), (v, c.requires.1, node_row_lies F.walk ne c.first-p.ensures v c.node_at-node.ensures))

pub returns-then-not-all_fit : goal.returns-then-not-all_fit
returns-then-not-all_fit t c =
    let F = fits_at c.behind.ensures c.loop-k.invariant in
    let ne = some_there c.args.row c.loop-k.k c.behind.ensures c.loop-k-test.true in
    elim c.then-not-all_fit.branch [
      | then-not-all_fit-via-then-not-all_fit w ↦ fits_under F ne c.requires.0 c.first-p.ensures c.node_at-node.ensures c.all_fit.ensures w.if-not-all_fit.true
      | then-not-all_fit-via-else-not-all_fit+then-not-joined w ↦ fits_joined F ne c.requires.0 c.first-p.ensures c.node_at-node.ensures c.all_fit.ensures w.joined.ensures w.if-not-joined.true
    ]

pub joined-requires : goal.joined-requires
joined-requires t c =
    let F = fits_at c.behind.ensures c.loop-k.invariant in
    let ne = some_there c.args.row c.loop-k.k c.behind.ensures c.loop-k-test.true in
    let v = c.requires.0 in
    (v, c.requires.1, node_row_lies F.walk ne c.first-p.ensures v c.node_at-node.ensures, sym c.all_fit.ensures ∙ c.if-not-all_fit.false)

pub loop-k-preserved : goal.loop-k-preserved
loop-k-preserved t c =
    let F = fits_at c.behind.ensures c.loop-k.invariant in
    let ne = some_there c.args.row c.loop-k.k c.behind.ensures c.loop-k-test.true in
    fits_more F ne c.requires.0 c.first-p.ensures c.node_at-node.ensures c.all_fit.ensures c.joined.ensures (c.if-not-all_fit.false) (c.if-not-joined.false) (next_at c.args.row c.loop-k.k c.behind.ensures)

pub returns : goal.returns
returns t c = fits_none c.loop-k.invariant (sub-eq-zero_of_le c.loop-k-test.false)
