use borrow.Author.Rules.{rules}
use mathlib.Core.Path.{sym}
use native.Mathlib.Omega.{arith}
use Rattle.draft_operands.proofs.Adding.{words_within, room_behind_lem, past_words, past_bytes, operand_held}
use Rattle.draft_operands.proofs.add_operand.Goals as goal

pub returns-then-tables-c-gt2048 : goal.returns-then-tables-c-gt2048
returns-then-tables-c-gt2048 c =
    let s = c.args in
    (tt, λ v is sheet whole. past_words s.tables s.draft.now c.requires.0 s.c c.requires.1.0 s.operand v is sheet whole c.if-tables-c-gt2048.true)

pub returns-then-from-operand-gt16384 : goal.returns-then-from-operand-gt16384
returns-then-from-operand-gt16384 c =
    let s = c.args in
    (tt, λ v is sheet whole. past_bytes s.tables s.draft.now c.requires.0 s.c c.requires.1.0 s.operand v is sheet whole c.if-from-operand-gt16384.true)

pub slice_bounds-push_bytes-end : goal.slice_bounds-push_bytes-end
slice_bounds-push_bytes-end c = sym c.requires.1.1.1

pub push_bytes-requires : goal.push_bytes-requires
push_bytes-requires c =
    let s = c.args in
    ((omega (arith, c.push_words-listed.auto, c.requires.0), omega (arith, c.requires.1.1.0, c.requires.1.1.1)), words_within s.tables s.c c.push_words-listed.result c.requires.1.0 c.push_words-listed.ensures.0 s.operand.count (omega (arith, c.if-tables-c-gt2048.false)) (omega (arith, c.if-from-operand-gt16384.false)))

pub returns : goal.returns
returns c =
    let s = c.args in
    (room_behind_lem s.tables s.c c.push_words-listed.result c.push_bytes.result s.operand.count c.requires.1.0 (omega (arith, c.if-tables-c-gt2048.false)) (omega (arith, c.if-from-operand-gt16384.false)) c.push_words-listed.ensures.0 c.push_bytes.ensures.0, λ v is sheet whole. operand_held s.tables s.draft.now c.requires.0 s.c c.requires.1.0 s.operand v is sheet whole c.push_words-listed.result c.push_bytes.result _ _ (omega (arith, c.if-tables-c-gt2048.false)) (omega (arith, c.if-from-operand-gt16384.false)) c.push_words-listed.ensures.0 c.push_words-listed.ensures.1 c.push_bytes.ensures.0 c.push_bytes.ensures.1)
