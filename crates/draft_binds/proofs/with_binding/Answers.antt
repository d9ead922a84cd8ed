use Rattle.std.specs.Prelude.{Some}
use borrow.Author.Rules.{rules}
use native.Mathlib.Omega.{arith}
use Rattle.pattern_syntax.specs.Reduced.{bytes_from}
use Rattle.pattern_images.specs.Emitting.{new_binding}
use Rattle.node_rows.specs.Makings.{bound_at_in}
use Rattle.draft_tables.specs.Layout.{drafted}
use Rattle.draft_tables.proofs.Counted.{room_within}
use Rattle.draft_tables.proofs.Chaining.{same_height}
use Rattle.draft_bindings.specs.Bindings.{bound_at_of}
use Rattle.draft_binds.proofs.Naming.{held_for}
use Rattle.draft_binds.proofs.Binding.{found_at, found_none, found_below, bound_already, bound_past, bound_anew}
use Rattle.draft_binds.proofs.with_binding.Goals as goal

pub overflow_add-result : goal.overflow_add-result
overflow_add-result c =
    let s = c.args in
    omega (arith, c.requires.1.1.bindings, found_below s.names.now s.draft.now s.c (bytes_from s.names.now s.row.from s.row.to) c.in-Some.b (found_at s.names.now s.draft.now s.c (bytes_from s.names.now s.row.from s.row.to) c.binding_of.result c.in-Some.b c.in-Some.is c.binding_of.ensures))

pub returns-in-Some : goal.returns-in-Some
returns-in-Some c =
    let s = c.args in
    bound_already s.names.now s.draft.now s.c (bytes_from s.names.now s.row.from s.row.to) s.sheet.now s.tables c.requires.0 c.requires.1.1 s.row.a (bound_at_in s.row) c.in-Some.b (found_at s.names.now s.draft.now s.c (bytes_from s.names.now s.row.from s.row.to) c.binding_of.result c.in-Some.b c.in-Some.is c.binding_of.ensures)

pub returns-in_err-bound : goal.returns-in_err-bound
unfolding bound_at_of bound_at_in
returns-in_err-bound c =
    let s = c.args in
    rw c.from_residual.ensures (bound_past s.names.now s.draft.now s.c (bytes_from s.names.now s.row.from s.row.to) s.sheet.now s.tables c.requires.0 c.requires.1.1 s.row.a (bound_at_in s.row) (found_none s.names.now s.draft.now s.c (bytes_from s.names.now s.row.from s.row.to) c.binding_of.result c.in_default.is c.binding_of.ensures) ((rw c.in_err-bound.was at c.new_binding.ensures) s.names.now))

pub overflow_add-result-2 : goal.overflow_add-result-2
overflow_add-result-2 c = omega (arith, c.requires.1.1.bindings)

pub returns : goal.returns
unfolding bound_at_of bound_at_in
returns c =
    let s = c.args in
    let p = c.requires in
    let at = bound_at_in s.row in
    let held = rw c.in_ok-bound.was at c.new_binding.ensures in
    bound_anew s.names.now s.draft.now s.c (bytes_from s.names.now s.row.from s.row.to) s.sheet.now s.tables p.0 p.1.1 s.row.a at (found_none s.names.now s.draft.now s.c (bytes_from s.names.now s.row.from s.row.to) c.binding_of.result c.in_default.is c.binding_of.ensures) c.in_ok-bound.bound _
    (same_height s.tables s.draft.now s.c (λ names d. new_binding s.sheet.now s.row.a (bytes_from names s.row.from s.row.to) at d) c.in_ok-bound.bound _ p.1.0 (omega (arith, c.new_binding.auto, p.1.0)) (room_within s.tables s.c p.1.1) held)
    (held_for s.names.now s.tables s.draft.now s.c (λ names s'. drafted (new_binding s.sheet.now s.row.a (bytes_from names s.row.from s.row.to) at) s') c.in_ok-bound.bound _ held)
