use Rattle.refusals.proofs.Passing.{passed}
use Rattle.std.specs.Prelude.{Ok, Err}
use borrow.Author.Rules.{rules}
use Prim.Native.Nat.{◌-◌}
use native.Mathlib.Omega.{arith}
use native.Mathlib.Nat.{le_refl}
use Rattle.body_scopes.proofs.Closing.{no_pop, pop_refused, pop_drops, scope_same}
use Rattle.body_scopes.proofs.pop_and_drop.Goals as goal

pub returns-then-counts-eq0 : goal.returns-then-counts-eq0
returns-then-counts-eq0 c = no_pop _ _ _ _ c.if-counts-eq0.true

pub emit_drop_and_storage_dead_for_scope-requires : goal.emit_drop_and_storage_dead_for_scope-requires
emit_drop_and_storage_dead_for_scope-requires c =
    let first = c in
    let counts = c.args.counts in
    let named = c.requires.entries_named.1 (counts.scopes - 1) (omega (arith, c.if-counts-eq0.false)) in
    record { whole = c.requires.whole.0; locals_bound = (c.requires.whole.1, c.requires.whole.4, omega (arith, named, c.scope_word-start.ensures), le_refl counts.entries, c.requires.whole.3, c.requires.entries_named.0) }

pub pop_scope-requires : goal.pop_scope-requires
pop_scope-requires c =
    let first = c in
    let emitted = c.emit_drop_and_storage_dead_for_scope.ensures in
    let L = rw c.in_ok-c1.was at emitted.left in
    (omega (arith, L.4, c.if-counts-eq0.false), omega (arith, L.4, c.requires.whole.2), omega (arith, L.5, c.requires.whole.3), λ i h. omega (arith, scope_same emitted.beside i, c.requires.entries_named.1 i (omega (arith, L.4)), L.5))

pub returns-in_err-c1 : goal.returns-in_err-c1
returns-in_err-c1 c = rw (passed _ _ c.from_residual.ensures.1) (let first = c in
    let named = c.requires.entries_named.1 (c.args.counts.scopes - 1) (omega (arith, c.if-counts-eq0.false)) in
    pop_refused _ _ _ _ _ (omega (arith, c.if-counts-eq0.false)) c.scope_word-start.ensures (omega (arith, named, c.scope_word-start.ensures)) (rw c.in_err-c1.was at c.emit_drop_and_storage_dead_for_scope.ensures))

pub returns : goal.returns
returns c =
    let first = c in
    let named = c.requires.entries_named.1 (c.args.counts.scopes - 1) (omega (arith, c.if-counts-eq0.false)) in
    pop_drops _ _ _ _ _ (omega (arith, c.if-counts-eq0.false)) c.scope_word-start.ensures (omega (arith, named, c.scope_word-start.ensures)) (rw c.in_ok-c1.was at c.emit_drop_and_storage_dead_for_scope.ensures) c.pop_scope.ensures
