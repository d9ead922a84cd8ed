use Rattle.std.proofs.Math.Nat.{sub-eq-zero_of_le}
use native.Mathlib.Omega.{arith}
use Rattle.fit_rows.proofs.Rows.{row_start, behind_small, some_there, next_at}
use Rattle.fit_rows.proofs.Known.{limits}
use Rattle.fit_rows.proofs.Walks.{at_pattern, node_telling_lies, node_telling_below}
use Rattle.fit_rows.proofs.Loops.{asking_start, asking_at, asking_none, asking_own, asking_under, asking_more}
use Rattle.fit_bindings.proofs.each.+each_agrees.Goals as goal
use Rattle.fit_bindings.proofs.each.+each_agrees.Goals.{then-not-own_agrees-via-then-not-own_agrees, then-not-own_agrees-via-else-not-own_agrees+then-not-each_agrees}

pub loop-k-init : goal.loop-k-init
loop-k-init t c = asking_at (row_start c.args.row) (asking_start c.requires.2)

pub behind-requires : goal.behind-requires
behind-requires t c =
    let small = limits _ c.requires.0 in
    behind_small c.args.row c.loop-k.k c.loop-k.invariant.walk.lies c.loop-k-test.true small.patterns small.list

pub first-p-requires : goal.first-p-requires
first-p-requires t c =
    let F = asking_at c.behind.ensures c.loop-k.invariant in
    let ne = some_there c.args.row c.loop-k.k c.behind.ensures c.loop-k-test.true in
    (c.requires.1, F.walk.lies, omega (arith, ne))

pub node_at-node-requires : goal.node_at-node-requires
node_at-node-requires t c =
    let F = asking_at c.behind.ensures c.loop-k.invariant in
    let ne = some_there c.args.row c.loop-k.k c.behind.ensures c.loop-k-test.true in
    (c.requires.0, c.requires.1, at_pattern F.walk ne c.first-p.ensures)

pub returns-then-not-own_agrees : goal.returns-then-not-own_agrees
returns-then-not-own_agrees t c =
    let F = asking_at c.behind.ensures c.loop-k.invariant in
    let ne = some_there c.args.row c.loop-k.k c.behind.ensures c.loop-k-test.true in
    elim c.then-not-own_agrees.branch [
      | then-not-own_agrees-via-then-not-own_agrees w ↦ asking_own F ne c.requires.0 c.first-p.ensures c.node_at-node.ensures c.own_agrees.ensures w.if-not-own_agrees.true
      | then-not-own_agrees-via-else-not-own_agrees+then-not-each_agrees w ↦ asking_under F ne c.requires.0 c.first-p.ensures c.node_at-node.ensures c.own_agrees.ensures w.telling.ensures w.each_agrees.ensures w.if-not-each_agrees.true
    ]

pub each_agrees-requires : goal.each_agrees-requires
each_agrees-requires t c =
    let F = asking_at c.behind.ensures c.loop-k.invariant in
    let ne = some_there c.args.row c.loop-k.k c.behind.ensures c.loop-k-test.true in
    let v = c.requires.0 in
    let low = node_telling_below F.walk ne c.first-p.ensures v c.node_at-node.ensures c.telling.ensures in
    (omega (arith, c.decreases, low), (v, c.requires.1, node_telling_lies F.walk ne c.first-p.ensures v c.node_at-node.ensures c.telling.ensures, c.requires.3))

pub loop-k-preserved : goal.loop-k-preserved
loop-k-preserved t c =
    let F = asking_at c.behind.ensures c.loop-k.invariant in
    let ne = some_there c.args.row c.loop-k.k c.behind.ensures c.loop-k-test.true in
    asking_more F ne c.requires.0 c.first-p.ensures c.node_at-node.ensures c.own_agrees.ensures c.telling.ensures c.each_agrees.ensures (c.if-not-own_agrees.false) (c.if-not-each_agrees.false) (next_at c.args.row c.loop-k.k c.behind.ensures)

pub returns : goal.returns
returns t c = asking_none c.loop-k.invariant (sub-eq-zero_of_le c.loop-k-test.false)
