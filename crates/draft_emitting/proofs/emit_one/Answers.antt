use borrow.Author.Rules.{rules}
use Prim.Native.Nat.{◌≤◌}
use mathlib.Core.List.{[]}
use native.Mathlib.Omega.{arith}
use Rattle.node_rows.specs.Makings.{making_row_at}
use Rattle.draft_makings.proofs.RowKinds.{leaf_same, node_same, joined_same}
use Rattle.draft_makings.proofs.Ways.{read_ready, read_stepped}
use Rattle.draft_emitting.proofs.emit_one.Goals as goal

pub put_leaf-requires : goal.put_leaf-requires
put_leaf-requires c =
    let s = c.args in
    let p = c.requires in
    let row = c.making_at-row.result in
    ((p.0.1.1.1, c.if-row-lt5.true), read_ready s.tables s.c s.text.now s.names.now s.text.now [] row (making_row_at s.makings.now s.i) c.making_at-row.ensures (leaf_same s.text.now s.names.now [] row c.if-row-lt5.true) p.1)

pub returns-then-row-lt5 : goal.returns-then-row-lt5
returns-then-row-lt5 c =
    let s = c.args in
    read_stepped s.sheet.now s.text.now s.names.now s.tables s.draft.now s.c c.making_at-row.result (making_row_at s.makings.now s.i) c.put_leaf.result _ c.making_at-row.ensures (c.put_leaf.ensures s.sheet.now s.names.now c.requires.0.0)

pub put_node-requires : goal.put_node-requires
put_node-requires c =
    let s = c.args in
    let p = c.requires in
    let row = c.making_at-row.result in
    let low : 5 ≤ row.kind = omega (arith, c.if-row-lt5.false) in
    ((p.0.0, (p.0.1.1.1, (low, c.if-row-lt8.true))), read_ready s.tables s.c s.text.now s.names.now [] s.names.now row (making_row_at s.makings.now s.i) c.making_at-row.ensures (node_same s.text.now [] s.names.now row low c.if-row-lt8.true) p.1)

pub returns-then-row-lt8 : goal.returns-then-row-lt8
returns-then-row-lt8 c =
    let s = c.args in
    read_stepped s.sheet.now s.text.now s.names.now s.tables s.draft.now s.c c.making_at-row.result (making_row_at s.makings.now s.i) c.put_node.result _ c.making_at-row.ensures (c.put_node.ensures s.text.now)

pub put_joined-requires : goal.put_joined-requires
put_joined-requires c =
    let s = c.args in
    let p = c.requires in
    let row = c.making_at-row.result in
    let low : 8 ≤ row.kind = omega (arith, c.if-row-lt8.false) in
    ((p.0.1.1.1, low), read_ready s.tables s.c s.text.now s.names.now [] [] row (making_row_at s.makings.now s.i) c.making_at-row.ensures (joined_same s.text.now [] s.names.now [] row low) p.1)

pub returns : goal.returns
returns c =
    let s = c.args in
    read_stepped s.sheet.now s.text.now s.names.now s.tables s.draft.now s.c c.making_at-row.result (making_row_at s.makings.now s.i) c.put_joined.result _ c.making_at-row.ensures (c.put_joined.ensures s.sheet.now s.text.now s.names.now c.requires.0.0)
