use Rattle.std.specs.Prelude.{Some}
use borrow.Author.Rules.{rules}
use mathlib.Core.Path.{◌≡◌, refl}
use mathlib.Core.List.{[]}
use native.Mathlib.Omega.{arith}
use Rattle.pattern_typing.specs.Making.{not_made, row_made, literal_made, operand_made, operand_named, pattern_row}
use Rattle.node_rows.specs.Nodes.{literal_in}
use Rattle.draft_stack.specs.Stack.{words_each}
use Rattle.draft_makings.proofs.RowKinds.{kind_none, kind_row, kind_literal, kind_operand, kind_constant}
use Rattle.draft_leaves.proofs.Leaves.{none_stepped}
use Rattle.draft_makings.proofs.Ways.{parts_within, row_stepped, literal_fits_lem}
use Rattle.draft_leaves.proofs.put_leaf.Goals as goal

pub overflow_sub-c : goal.overflow_sub-c
unfolding words_each
overflow_sub-c c =
    let s = c.args in
    omega (arith, parts_within s.tables s.c s.text.now [] s.row not_made (kind_none s.text.now [] s.row c.if-row-eq0.true) refl c.requires.1)

pub returns-then-row-eq0 : goal.returns-then-row-eq0
unfolding words_each
returns-then-row-eq0 c =
    let s = c.args in
    let p = c.requires in
    let enough = parts_within s.tables s.c s.text.now [] s.row not_made (kind_none s.text.now [] s.row c.if-row-eq0.true) refl p.1 in
    λ sheet names whole. row_stepped sheet s.text.now names s.tables s.draft.now s.c s.row not_made (kind_none s.text.now names s.row c.if-row-eq0.true) (Some c.at_height.result) s.draft.now whole
    (λ other _. none_stepped s.tables s.draft.now p.0.0 s.c p.1.room s.row.parts enough other c.at_height.result c.at_height.ensures)

pub put_row-requires : goal.put_row-requires
unfolding words_each
put_row-requires c =
    let s = c.args in
    let p = c.requires in
    (p.0.0, (p.1.room, (p.1.high, parts_within s.tables s.c s.text.now [] s.row _ (kind_row s.text.now [] s.row c.if-row-eq1.true) refl p.1)))

pub returns-then-row-eq1 : goal.returns-then-row-eq1
returns-then-row-eq1 c =
    let s = c.args in
    let m = s.row in
    λ sheet names whole. row_stepped sheet s.text.now names s.tables s.draft.now s.c m (row_made (pattern_row m.a m.ty m.derefs m.b m.c 0 0)) (kind_row s.text.now names m c.if-row-eq1.true) c.put_row.result _ whole c.put_row.ensures

pub put_constant-requires : goal.put_constant-requires
unfolding words_each
put_constant-requires c =
    let s = c.args in
    let p = c.requires in
    (p.0.0, (p.1.room, (p.1.high, parts_within s.tables s.c s.text.now [] s.row _ (kind_constant s.text.now [] s.row c.if-row-eq4.true) refl p.1)))

pub returns-then-row-eq4 : goal.returns-then-row-eq4
returns-then-row-eq4 c =
    let s = c.args in
    λ sheet names whole. row_stepped sheet s.text.now names s.tables s.draft.now s.c s.row (operand_named s.row.a) (kind_constant s.text.now names s.row c.if-row-eq4.true) c.put_constant.result _ whole c.put_constant.ensures

pub literal_bytes-operand-requires : goal.literal_bytes-operand-requires
literal_bytes-operand-requires c =
    let s = c.args in
    let p = c.requires in
    literal_fits_lem s.tables s.c s.text.now [] s.row p.0.1 c.if-row-eq0.false c.if-row-eq1.false c.if-row-eq4.false p.1

pub put_literal-requires : goal.put_literal-requires
unfolding words_each
put_literal-requires c =
    let s = c.args in
    let p = c.requires in
    let v = c.literal_bytes-operand.ensures in
    (p.0.0, (p.1.room, (p.1.high, (parts_within s.tables s.c s.text.now [] s.row _ (kind_literal s.text.now [] s.row c.if-row-eq2.true) refl p.1, (v.few, v.long)))))

pub returns-then-row-eq2 : goal.returns-then-row-eq2
returns-then-row-eq2 c =
    let s = c.args in
    let m = s.row in
    let v = literal_in s.text.now m.a m.from m.to in
    λ sheet names whole. row_stepped sheet s.text.now names s.tables s.draft.now s.c m (literal_made m.ty m.derefs v) (kind_literal s.text.now names m c.if-row-eq2.true) c.put_literal.result _ whole (c.put_literal.ensures v c.literal_bytes-operand.ensures)

pub put_operand-requires : goal.put_operand-requires
unfolding words_each
put_operand-requires c =
    let s = c.args in
    let p = c.requires in
    let v = c.literal_bytes-operand.ensures in
    let is : s.row.kind ≡ 3 = omega (arith, p.0.1, c.if-row-eq0.false, c.if-row-eq1.false, c.if-row-eq4.false, c.if-row-eq2.false) in
    (p.0.0, (p.1.room, (p.1.high, (parts_within s.tables s.c s.text.now [] s.row _ (kind_operand s.text.now [] s.row is) refl p.1, (v.few, v.long)))))

pub returns : goal.returns
returns c =
    let s = c.args in
    let m = s.row in
    let v = literal_in s.text.now m.a m.from m.to in
    let is : m.kind ≡ 3 = omega (arith, c.requires.0.1, c.if-row-eq0.false, c.if-row-eq1.false, c.if-row-eq4.false, c.if-row-eq2.false) in
    λ sheet names whole. row_stepped sheet s.text.now names s.tables s.draft.now s.c m (operand_made v) (kind_operand s.text.now names m is) c.put_operand.result _ whole (c.put_operand.ensures v c.literal_bytes-operand.ensures)
