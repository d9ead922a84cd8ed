use borrow.Author.Rules.{rules}
use native.Mathlib.Omega.{arith}
use native.Mathlib.Nat.{le_refl}
use Rattle.body_tables.specs.Layout.{body_of}
use Rattle.body_scopes.proofs.Closing.{start_below, until_refused, until_drops}
use Rattle.body_scopes.proofs.drop_until_scope.Goals as goal

pub returns-then-counts-i : goal.returns-then-counts-i
returns-then-counts-i c = until_refused _ _ _ _ _ c.if-counts-i.true

pub emit_drop_and_storage_dead_for_scope-requires : goal.emit_drop_and_storage_dead_for_scope-requires
emit_drop_and_storage_dead_for_scope-requires c =
    let first = c in
    let args = c.args in
    record { whole = c.requires.whole.0; locals_bound = (c.requires.whole.1, c.requires.whole.4, start_below (body_of args.body.now).scopes args.counts args.i _ c.requires.entries_named.1 c.scope_start-start.ensures, le_refl args.counts.entries, c.requires.whole.3, c.requires.entries_named.0) }

pub returns : goal.returns
returns c =
    let first = c in
    let args = c.args in
    until_drops _ _ _ _ _ _ c.if-counts-i.false c.scope_start-start.ensures (start_below (body_of args.body.now).scopes args.counts args.i _ c.requires.entries_named.1 c.scope_start-start.ensures) c.emit_drop_and_storage_dead_for_scope.ensures
