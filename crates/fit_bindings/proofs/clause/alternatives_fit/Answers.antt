use mathlib.Core.Path.{◌∙◌}
use Rattle.std.proofs.Math.Nat.{sub-eq-zero_of_le}
use native.Mathlib.Omega.{arith}
use Rattle.fit_rows.proofs.Rows.{first_there, rest_small, row_start, behind_small, some_there, next_at}
use Rattle.fit_rows.proofs.Known.{limits}
use Rattle.fit_rows.proofs.Joining.{comparing_none, comparing_start, comparing_at, compared, comparing_end, comparing_differs, comparing_more}
use Rattle.fit_bindings.proofs.clause.alternatives_fit.Goals as goal

pub returns-then-row-eq0 : goal.returns-then-row-eq0
returns-then-row-eq0 c = comparing_none _ c.args.row c.if-row-eq0.true

pub rest-others-requires : goal.rest-others-requires
rest-others-requires c =
    let small = limits _ c.requires.0 in
    (rest_small c.requires.2 c.if-row-eq0.false small.patterns small.list, omega (arith, c.if-row-eq0.false))

pub loop-k-init : goal.loop-k-init
loop-k-init c = (comparing_at (row_start c.rest-others.result) (comparing_start _ c.requires.2 c.if-row-eq0.false c.rest-others.ensures), omega (arith, c.first-p.ensures, first_there c.requires.2 c.if-row-eq0.false))

pub behind-requires : goal.behind-requires
behind-requires c =
    let small = limits _ c.requires.0 in
    behind_small c.rest-others.result c.loop-k.k c.loop-k.invariant.0.lies c.loop-k-test.true small.patterns small.list

pub first-q-requires : goal.first-q-requires
first-q-requires c =
    let F = comparing_at c.behind.ensures c.loop-k.invariant.0 in
    let ne = some_there c.rest-others.result c.loop-k.k c.behind.ensures c.loop-k-test.true in
    (c.requires.1, F.lies, omega (arith, ne))

pub same-requires : goal.same-requires
same-requires c =
    let F = comparing_at c.behind.ensures c.loop-k.invariant.0 in
    let ne = some_there c.rest-others.result c.loop-k.k c.behind.ensures c.loop-k-test.true in
    (c.requires.0, c.requires.1, c.loop-k.invariant.1, omega (arith, c.first-q.ensures, first_there F.lies ne))

pub returns-then-not-same : goal.returns-then-not-same
returns-then-not-same c =
    let F = comparing_at c.behind.ensures c.loop-k.invariant.0 in
    let ne = some_there c.rest-others.result c.loop-k.k c.behind.ensures c.loop-k-test.true in
    comparing_differs F ne c.first-q.ensures c.same.ensures (c.if-not-same.true) ∙ compared _ c.args.row c.if-row-eq0.false c.first-p.ensures c.rest-others.ensures

pub loop-k-preserved : goal.loop-k-preserved
loop-k-preserved c =
    let F = comparing_at c.behind.ensures c.loop-k.invariant.0 in
    let ne = some_there c.rest-others.result c.loop-k.k c.behind.ensures c.loop-k-test.true in
    (comparing_more F ne c.first-q.ensures c.same.ensures (c.if-not-same.false) (next_at c.rest-others.result c.loop-k.k c.behind.ensures), c.loop-k.invariant.1)

pub returns : goal.returns
returns c = comparing_end c.loop-k.invariant.0 (sub-eq-zero_of_le c.loop-k-test.false) ∙ compared _ c.args.row c.if-row-eq0.false c.first-p.ensures c.rest-others.ensures
