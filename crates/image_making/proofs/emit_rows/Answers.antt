use borrow.Author.Rules.{rules}
use Prim.Native.Nat.{◌-◌}
use mathlib.Core.Path.{◌≡◌}
use native.Mathlib.Omega.{arith}
use Rattle.image_making.proofs.RowsDone.{Done, next_ready, next_past, next_done}
use Rattle.image_making.proofs.Limits.{none_done}
use Rattle.image_making.proofs.emit_rows.Goals as goal

pub loop-i-init : goal.loop-i-init
loop-i-init c =
    let s = c.args in
    none_done s.text.now s.spelled.now s.makings.now s.sheet.now s.tables s.n c.requires.0 s.draft.now c.requires.1.1.1

pub emit_one-requires : goal.emit_one-requires
emit_one-requires c =
    let s = c.args in
    let p = c.requires in
    ((p.0.whole, (p.1.0, (omega (arith, c.loop-i-test.true, p.1.1.0), c.loop-i.invariant.long))), next_ready s.text.now s.spelled.now s.makings.now s.sheet.now s.tables s.n p.0 p.1.1.0 c.loop-i.i c.loop-i.counts c.loop-i.draft c.loop-i.invariant c.loop-i-test.true)

pub shape_of-draft-in_err-counts : goal.shape_of-draft-in_err-counts
shape_of-draft-in_err-counts c = omega (arith, c.emit_one.auto, c.loop-i.invariant.long, c.requires.1.1.1)

pub returns-in_err-counts : goal.returns-in_err-counts
returns-in_err-counts c = rw c.from_residual.ensures (let s = c.args in
    let p = c.requires in
    next_past s.text.now s.spelled.now s.makings.now s.sheet.now s.tables s.n p.0 p.1.1.0 c.loop-i.i c.loop-i.counts c.loop-i.draft c.loop-i.invariant c.loop-i-test.true (rw c.in_err-counts.was at c.emit_one.ensures))

pub loop-i-preserved : goal.loop-i-preserved
loop-i-preserved c =
    let s = c.args in
    let p = c.requires in
    next_done s.text.now s.spelled.now s.makings.now s.sheet.now s.tables s.n p.0 p.1.1.0 c.loop-i.i c.loop-i.counts c.loop-i.draft c.loop-i.invariant c.loop-i-test.true c.in_ok-counts.counts _ (omega (arith, c.emit_one.auto, c.loop-i.invariant.long)) (rw c.in_ok-counts.was at c.emit_one.ensures)

pub shape_of-draft : goal.shape_of-draft
shape_of-draft c = omega (arith, c.loop-i.invariant.long, c.requires.1.1.1)

pub returns : goal.returns
returns c =
    let s = c.args in
    let all : c.loop-i.i ≡ s.n = omega (arith, c.loop-i-test.false, c.loop-i.invariant.up_to) in
    rw all at c.loop-i.invariant.emitted
