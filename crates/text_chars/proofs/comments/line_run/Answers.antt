use native.Mathlib.Omega.{arith}
use borrow.Author.Tests.{eq-eqb, ne_eqb}
use Rattle.text_chars.specs.Gaps.{in_line}
use Rattle.text_chars.proofs.Loops.{run_on, run_stops, run_over}
use Rattle.text_chars.proofs.comments.line_run.Goals as goal

pub returns-then-bytes-at-eq10 : goal.returns-then-bytes-at-eq10
unfolding in_line
returns-then-bytes-at-eq10 c = let e = run_stops in_line c.args.bytes.now c.loop-at.at c.loop-at-test.true (rw (eq-eqb _ _ c.if-bytes-at-eq10.true)) in omega (arith, c.loop-at.invariant.1)

pub loop-at-preserved : goal.loop-at-preserved
unfolding in_line
loop-at-preserved c = let e = run_on in_line c.args.bytes.now c.loop-at.at c.loop-at-test.true (rw (ne_eqb _ _ c.if-bytes-at-eq10.false)) in (omega arith, omega (arith, c.loop-at.invariant.1))

pub returns : goal.returns
returns c =
    let e = run_over in_line c.args.bytes.now c.loop-at.at c.loop-at-test.false in
    omega (arith, c.loop-at.invariant.0, c.loop-at.invariant.1, c.saturating_sub.ensures)
