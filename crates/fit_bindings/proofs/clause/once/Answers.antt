use mathlib.Core.Path.{sym, ◌∙◌}
use Rattle.std.proofs.Math.Nat.{sub-eq-zero_of_le}
use native.Mathlib.Omega.{arith}
use Rattle.fit_rows.proofs.Rows.{first_there, rest_small, row_start, behind_small, some_there, next_at}
use Rattle.fit_rows.proofs.Known.{limits}
use Rattle.fit_rows.proofs.Joining.{one_there, apart_start, apart_at, apart_end, rest_there, apart_twice, apart_more}
use Rattle.fit_bindings.proofs.clause.once.Goals as goal

pub loop-k-init : goal.loop-k-init
loop-k-init c = apart_at (row_start c.args.row) (apart_start c.requires.2 c.requires.3)

pub behind-left-requires : goal.behind-left-requires
behind-left-requires c =
    let small = limits _ c.requires.0 in
    behind_small c.args.row c.loop-k.k c.loop-k.invariant.lies c.loop-k-test.true small.patterns small.list

pub first-p-requires : goal.first-p-requires
first-p-requires c =
    let F = apart_at c.behind-left.ensures c.loop-k.invariant in
    let ne = some_there c.args.row c.loop-k.k c.behind-left.ensures c.loop-k-test.true in
    (c.requires.1, F.lies, omega (arith, ne))

pub rest-requires : goal.rest-requires
rest-requires c =
    let F = apart_at c.behind-left.ensures c.loop-k.invariant in
    let ne = some_there c.args.row c.loop-k.k c.behind-left.ensures c.loop-k-test.true in
    let small = limits _ c.requires.0 in
    (rest_small F.lies ne small.patterns small.list, omega (arith, ne))

pub overflow_add-p : goal.overflow_add-p
overflow_add-p c =
    let F = apart_at c.behind-left.ensures c.loop-k.invariant in
    let ne = some_there c.args.row c.loop-k.k c.behind-left.ensures c.loop-k-test.true in
    omega (arith, (limits _ c.requires.0).patterns, c.first-p.ensures, first_there F.lies ne)

pub each_agrees-requires : goal.each_agrees-requires
each_agrees-requires c =
    let F = apart_at c.behind-left.ensures c.loop-k.invariant in
    let ne = some_there c.args.row c.loop-k.k c.behind-left.ensures c.loop-k-test.true in
    let low = first_there F.lies ne in
    (c.requires.0, c.requires.1, one_there (omega (arith, c.first-p.ensures, low)) c.one.ensures, rest_there F ne c.first-p.ensures c.rest.ensures)

pub returns-then-not-each_agrees : goal.returns-then-not-each_agrees
returns-then-not-each_agrees c =
    let F = apart_at c.behind-left.ensures c.loop-k.invariant in
    let ne = some_there c.args.row c.loop-k.k c.behind-left.ensures c.loop-k-test.true in
    apart_twice F ne c.first-p.ensures c.rest.ensures c.one.ensures c.each_agrees.ensures (c.if-not-each_agrees.true)

pub loop-k-preserved : goal.loop-k-preserved
loop-k-preserved c =
    let F = apart_at c.behind-left.ensures c.loop-k.invariant in
    let ne = some_there c.args.row c.loop-k.k c.behind-left.ensures c.loop-k-test.true in
    apart_at (next_at c.args.row c.loop-k.k c.behind-left.ensures ∙ sym c.rest.ensures) (apart_more F ne c.first-p.ensures c.rest.ensures c.one.ensures c.each_agrees.ensures (c.if-not-each_agrees.false))

pub returns : goal.returns
returns c = apart_end c.loop-k.invariant (sub-eq-zero_of_le c.loop-k-test.false)
