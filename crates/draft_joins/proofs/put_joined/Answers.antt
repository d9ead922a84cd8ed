use borrow.Author.Rules.{rules}
use Prim.Native.Nat.{◌<◌}
use mathlib.Core.Path.{refl}
use mathlib.Core.List.{[]}
use native.Mathlib.Omega.{arith}
use Rattle.pattern_typing.specs.Making.{list_made, slice_made, field_made, pattern_row}
use Rattle.node_rows.specs.Nodes.{number_in}
use Rattle.draft_stack.specs.Stack.{words_each, words_taken, may_have_parts}
use Rattle.draft_makings.proofs.RowKinds.{kind_list, kind_slice, kind_field}
use Rattle.draft_makings.proofs.Ways.{ready_is, parts_within, row_stepped, one_part, field_step, list_taken}
use Rattle.draft_joins.proofs.put_joined.Goals as goal

pub list_words-many-requires : goal.list_words-many-requires
list_words-many-requires c =
    let s = c.args in
    let p = c.requires in
    let m = s.row in
    let ready = ready_is s.tables s.c [] [] m _ (kind_list [] [] m c.if-row-eq8.true) p.1 in
    omega (arith, list_taken s.tables s.c (pattern_row m.a m.ty m.derefs 0 0 m.b m.c) m.parts ready, p.1.high)

pub put_list-requires : goal.put_list-requires
put_list-requires c =
    let s = c.args in
    let p = c.requires in
    let m = s.row in
    let ready = ready_is s.tables s.c [] [] m _ (kind_list [] [] m c.if-row-eq8.true) p.1 in
    (p.0.0, (p.1.room, (p.1.high, omega (arith, list_taken s.tables s.c (pattern_row m.a m.ty m.derefs 0 0 m.b m.c) m.parts ready, c.list_words-many.ensures))))

pub returns-then-row-eq8 : goal.returns-then-row-eq8
unfolding words_taken words_each
returns-then-row-eq8 c =
    let s = c.args in
    let m = s.row in
    λ sheet text names whole. row_stepped sheet text names s.tables s.draft.now s.c m (list_made (pattern_row m.a m.ty m.derefs 0 0 m.b m.c)) (kind_list text names m c.if-row-eq8.true) c.put_list.result _ whole (c.put_list.ensures c.list_words-many.ensures)

pub put_slice-requires : goal.put_slice-requires
unfolding words_each may_have_parts
put_slice-requires c =
    let s = c.args in
    let p = c.requires in
    let is = kind_slice [] [] s.row c.if-row-eq9.true in
    (p.0.0, (p.1.room, (p.1.high, (parts_within s.tables s.c [] [] s.row _ is refl p.1, (ready_is s.tables s.c [] [] s.row _ is p.1).may))))

pub returns-then-row-eq9 : goal.returns-then-row-eq9
returns-then-row-eq9 c =
    let s = c.args in
    let m = s.row in
    λ sheet text names whole. row_stepped sheet text names s.tables s.draft.now s.c m (slice_made m.ty m.derefs (number_in m.a)) (kind_slice text names m c.if-row-eq9.true) c.put_slice.result _ whole c.put_slice.ensures

pub put_field-requires : goal.put_field-requires
unfolding words_each
put_field-requires c =
    let s = c.args in
    let p = c.requires in
    let h : 9 < s.row.kind = omega (arith, p.0.1, c.if-row-eq8.false, c.if-row-eq9.false) in
    let is = kind_field [] [] s.row h in
    (p.0.0, (p.1.room, (p.1.high, omega (arith, one_part s.tables s.c s.row.a s.row.parts (ready_is s.tables s.c [] [] s.row _ is p.1), parts_within s.tables s.c [] [] s.row _ is refl p.1))))

pub returns : goal.returns
returns c =
    let s = c.args in
    let p = c.requires in
    let m = s.row in
    let h : 9 < m.kind = omega (arith, p.0.1, c.if-row-eq8.false, c.if-row-eq9.false) in
    let one = one_part s.tables s.c m.a m.parts (ready_is s.tables s.c [] [] m _ (kind_field [] [] m h) p.1) in
    λ sheet text names whole. row_stepped sheet text names s.tables s.draft.now s.c m (field_made m.a) (kind_field text names m h) c.put_field.result _ whole (field_step s.tables s.draft.now s.c m.a m.parts c.put_field.result _ one c.put_field.ensures)
