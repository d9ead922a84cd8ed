use Rattle.std.proofs.Math.Nat.{sub-eq-zero_of_le}
use native.Mathlib.Omega.{arith}
use Rattle.fit_rows.proofs.Rows.{row_start, behind_small, some_there, next_at}
use Rattle.fit_rows.proofs.Known.{limits}
use Rattle.fit_rows.proofs.Walks.{at_pattern, node_telling_lies, node_telling_below}
use Rattle.fit_rows.proofs.Loops.{finding_start, finding_at, finding_none, finding_own, finding_under, finding_more}
use Rattle.fit_rows.proofs.found.+found.Goals as goal
use Rattle.fit_rows.proofs.found.+found.Goals.{then-wants-via-then-wants, then-wants-via-else-wants+then-found}

pub loop-k-init : goal.loop-k-init
loop-k-init t c = finding_at (row_start c.args.row) (finding_start c.requires.2)

pub behind-requires : goal.behind-requires
behind-requires t c =
    let small = limits _ c.requires.0 in
    behind_small c.args.row c.loop-k.k c.loop-k.invariant.walk.lies c.loop-k-test.true small.patterns small.list

pub first-p-requires : goal.first-p-requires
first-p-requires t c =
    let F = finding_at c.behind.ensures c.loop-k.invariant in
    let ne = some_there c.args.row c.loop-k.k c.behind.ensures c.loop-k-test.true in
    (c.requires.1, F.walk.lies, omega (arith, ne))

pub node_at-node-requires : goal.node_at-node-requires
node_at-node-requires t c =
    let F = finding_at c.behind.ensures c.loop-k.invariant in
    let ne = some_there c.args.row c.loop-k.k c.behind.ensures c.loop-k-test.true in
    (c.requires.0, c.requires.1, at_pattern F.walk ne c.first-p.ensures)

pub returns-then-wants : goal.returns-then-wants
returns-then-wants t c =
    let F = finding_at c.behind.ensures c.loop-k.invariant in
    let ne = some_there c.args.row c.loop-k.k c.behind.ensures c.loop-k-test.true in
    elim c.then-wants.branch [
      | then-wants-via-then-wants w ↦ finding_own F ne c.requires.0 c.first-p.ensures c.node_at-node.ensures c.wants.ensures w.if-wants.true
      | then-wants-via-else-wants+then-found w ↦ finding_under F ne c.requires.0 c.first-p.ensures c.node_at-node.ensures c.wants.ensures w.telling.ensures w.found.ensures w.if-found.true
    ]

pub found-requires : goal.found-requires
found-requires t c =
    let F = finding_at c.behind.ensures c.loop-k.invariant in
    let ne = some_there c.args.row c.loop-k.k c.behind.ensures c.loop-k-test.true in
    let v = c.requires.0 in
    let low = node_telling_below F.walk ne c.first-p.ensures v c.node_at-node.ensures c.telling.ensures in
    (omega (arith, c.decreases, low), (v, c.requires.1, node_telling_lies F.walk ne c.first-p.ensures v c.node_at-node.ensures c.telling.ensures))

pub loop-k-preserved : goal.loop-k-preserved
loop-k-preserved t c =
    let F = finding_at c.behind.ensures c.loop-k.invariant in
    let ne = some_there c.args.row c.loop-k.k c.behind.ensures c.loop-k-test.true in
    finding_more F ne c.requires.0 c.first-p.ensures c.node_at-node.ensures c.wants.ensures c.telling.ensures c.found.ensures c.if-wants.false c.if-found.false (next_at c.args.row c.loop-k.k c.behind.ensures)

pub returns : goal.returns
returns t c = finding_none c.loop-k.invariant (sub-eq-zero_of_le c.loop-k-test.false)
