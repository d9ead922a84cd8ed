use borrow.Author.Rules.{rules}
use mathlib.Core.Path.{◌≡◌, refl}
use mathlib.Core.List.{[]}
use native.Mathlib.Omega.{arith}
use lib.Dec.{eqb}
use Rattle.pattern_typing.specs.Making.{range_made, reference_made}
use Rattle.draft_stack.specs.Stack.{words_each, may_have_parts}
use Rattle.draft_binds.specs.Binds.{bind_of}
use Rattle.draft_makings.proofs.RowKinds.{kind_range, kind_bind, kind_reference}
use Rattle.draft_makings.proofs.Ways.{ready_is, parts_within, node_stepped, row_stepped}
use Rattle.draft_emitting.proofs.put_node.Goals as goal

pub put_range-requires : goal.put_range-requires
unfolding words_each may_have_parts
put_range-requires c =
    let s = c.args in
    let p = c.requires in
    let is = kind_range [] s.names.now s.row c.if-row-eq5.true in
    (p.0.1.0, (p.1.room, (p.1.high, (parts_within s.tables s.c [] s.names.now s.row _ is refl p.1, (ready_is s.tables s.c [] s.names.now s.row _ is p.1).may))))

pub returns-then-row-eq5 : goal.returns-then-row-eq5
returns-then-row-eq5 c =
    let s = c.args in
    let m = s.row in
    λ text. row_stepped s.sheet.now text s.names.now s.tables s.draft.now s.c m (range_made m.ty m.derefs (eqb m.a 1) (eqb m.b 1) (eqb m.c 1)) (kind_range text s.names.now m c.if-row-eq5.true) c.put_range.result _ c.requires.0.0 c.put_range.ensures

pub put_bind-requires : goal.put_bind-requires
unfolding words_each
put_bind-requires c =
    let s = c.args in
    let p = c.requires in
    (p.0.0, (p.0.1.0, (p.1.room, (p.1.high, parts_within s.tables s.c [] s.names.now s.row _ (kind_bind [] s.names.now s.row c.if-row-eq6.true) refl p.1))))

pub returns-then-row-eq6 : goal.returns-then-row-eq6
returns-then-row-eq6 c =
    let s = c.args in
    λ text. node_stepped s.sheet.now text s.names.now s.tables s.draft.now s.c s.row (bind_of s.names.now s.row) (kind_bind text s.names.now s.row c.if-row-eq6.true) c.put_bind.result _ c.put_bind.ensures

pub put_reference-requires : goal.put_reference-requires
unfolding words_each
put_reference-requires c =
    let s = c.args in
    let p = c.requires in
    let is : s.row.kind ≡ 7 = omega (arith, p.0.1.1, c.if-row-eq5.false, c.if-row-eq6.false) in
    (p.0.1.0, (p.1.room, (p.1.high, parts_within s.tables s.c [] s.names.now s.row _ (kind_reference [] s.names.now s.row is) refl p.1)))

pub returns : goal.returns
returns c =
    let s = c.args in
    let is : s.row.kind ≡ 7 = omega (arith, c.requires.0.1.1, c.if-row-eq5.false, c.if-row-eq6.false) in
    λ text. row_stepped s.sheet.now text s.names.now s.tables s.draft.now s.c s.row (reference_made s.row.ty) (kind_reference text s.names.now s.row is) c.put_reference.result _ c.requires.0.0 c.put_reference.ensures
