use borrow.Author.Rules.{rules}
use native.Mathlib.Omega.{arith}
use Rattle.pattern_syntax.specs.Reduced.{bytes_from}
use Rattle.node_rows.specs.Makings.{bound_at_in}
use Rattle.draft_bind_rows.proofs.Rows.{bind_past, bound_low, bind_stepped}
use Rattle.draft_bind_rows.proofs.put_bind.Goals as goal

pub returns-in_err-number : goal.returns-in_err-number
returns-in_err-number c = rw c.from_residual.ensures (let s = c.args in
    let p = c.requires in
    bind_past s.names.now s.sheet.now s.tables s.draft.now p.1.0 s.c p.1.1.0 s.row.parts p.1.1.1.1 s.row.ty s.row.a s.row.b (bytes_from s.names.now s.row.from s.row.to) (bound_at_in s.row) (rw c.in_err-number.was at c.with_binding.ensures))

pub put_pattern-requires : goal.put_pattern-requires
put_pattern-requires c =
    let s = c.args in
    let p = c.requires in
    (omega (arith, c.with_binding.auto, p.1.0), bound_low s.names.now s.sheet.now s.tables s.draft.now p.1.0 s.c p.1.1.0 s.row.parts p.1.1.1.1 s.row.ty s.row.a s.row.b (bytes_from s.names.now s.row.from s.row.to) (bound_at_in s.row) c.in_ok-number.number c.first_word-sub.result c.in_ok-number.bound _ (rw c.in_ok-number.was at c.with_binding.ensures) c.at_height.result c.at_height.ensures p.1.1.1.0)

pub returns : goal.returns
returns c =
    let s = c.args in
    let p = c.requires in
    bind_stepped s.names.now s.sheet.now s.tables s.draft.now p.1.0 s.c p.1.1.0 s.row.parts p.1.1.1.1 s.row.ty s.row.a s.row.b (bytes_from s.names.now s.row.from s.row.to) (bound_at_in s.row) c.in_ok-number.number c.first_word-sub.result c.in_ok-number.bound _ (rw c.in_ok-number.was at c.with_binding.ensures) c.at_height.result c.at_height.ensures c.put_pattern.result _ c.first_word-sub.ensures (c.put_pattern.ensures s.sheet.now p.0)
