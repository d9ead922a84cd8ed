-- Each leaf answers what the step's definition gives, by what its contract says of the body. Assumes nothing.
use mathlib.Core.Path.{◌≡◌, refl, sym, subst}
use mathlib.Core.List.{List}
use mathlib.Core.Option.{some}
use Prim.Native.Nat.{ℕ, ◌*◌, ◌<◌}
use lib.ListN.{length}
use Rattle.refusals.specs.Refusals.{done}
use Rattle.row_tables.specs.Rows.{stored}
use Rattle.place.specs.declared.LocalId.{LocalId}
use Rattle.mir.specs.declared.BasicBlockId.{BasicBlockId}
use Rattle.mir.specs.declared.Counts.{Counts}
use Rattle.mir.specs.declared.blocks.Terminator.{Terminator}
use Rattle.mir.specs.Results.{NewLocal}
use Rattle.mir.specs.Results.{Counted}
use Rattle.mir.specs.Blocks.{term_row, new_block, block_width}
use Rattle.mir.specs.Statements.{new_statement, statements_after, statement_width}
use Rattle.mir.specs.Locals.{new_local, locals_after}
use Rattle.mir.specs.Results.{NewBlock}
use Rattle.mir.specs.Scopes.{new_scope, scopes_after, new_entry, entries_after}
use Rattle.state.specs.State.{Body, decode}
use Rattle.state.specs.Steps.{set_terminator, try_block, try_statement, try_local, try_scope, try_entry}
use Rattle.state.specs.Promises.{Ready, Answers}
use Rattle.state.proofs.Calls.{counted_counts, counted_result, block_counts, block_result, local_counts, local_result, new_block_answers, push_statement_answers, new_local_answers, push_scope_answers, push_entry_answers, set_answers}
use Rattle.body_tables.specs.Layout.{with_blocks, with_statements, with_locals, with_scopes, with_entries}

-- the body b, and its counts c
module _ (b : Body) (c : Counts) where
  -- `new_basic_block`
  pub block_made : (current : ℕ) {r : NewBlock} → r ≡ new_block c → Ready b c → Answers b c current b (block_counts r) (block_result r b) (try_block (decode b c))
  block_made current is R = new_block_answers b.blocks b.statements b.locals b.scopes b.entries c current is R

  -- `new_local`
  pub local_made : (current word : ℕ) {r : NewLocal} {b₁ : Body} → r ≡ new_local c → b₁ ≡ with_locals b (locals_after c b.locals word) → Ready b c →
      Answers b c current b₁ (local_counts r) (local_result r b₁) (try_local (decode b c) word)
  local_made current word {r = r} is after R =
      subst (λ x. Answers b c current x (local_counts r) (local_result r x) (try_local (decode b c) word)) (sym after)
      (new_local_answers b.blocks b.statements b.locals b.scopes b.entries c current word is refl R)

  -- `push_scope`
  pub scope_made : (current : ℕ) {r : Counted} {b₁ : Body} → r ≡ new_scope c → b₁ ≡ with_scopes b (scopes_after c b.scopes) → Ready b c →
      Answers b c current b₁ (counted_counts r) (counted_result r b₁) (try_scope (decode b c))
  scope_made current {r = r} is after R =
      subst (λ x. Answers b c current x (counted_counts r) (counted_result r x) (try_scope (decode b c))) (sym after)
      (push_scope_answers b.blocks b.statements b.locals b.scopes b.entries c current is refl R)

  -- `push_entry`
  pub entry_made : (current : ℕ) (l : LocalId) {r : Counted} {b₁ : Body} → r ≡ new_entry c → b₁ ≡ with_entries b (entries_after c b.entries l.0) → Ready b c →
      Answers b c current b₁ (counted_counts r) (counted_result r b₁) (try_entry (decode b c) l)
  entry_made current l {r = r} is after R =
      subst (λ x. Answers b c current x (counted_counts r) (counted_result r x) (try_entry (decode b c) l)) (sym after)
      (push_entry_answers b.blocks b.statements b.locals b.scopes b.entries c current l is refl R)

  -- each leaf that pushes a statement
  pub statement_made : (current : ℕ) (row : List ℕ) {r : Counted} {b₁ : Body} → length row ≡ statement_width → r ≡ new_statement c → b₁ ≡ with_statements b (statements_after c b.statements row) → Ready b c →
      Answers b c current b₁ (counted_counts r) (counted_result r b₁) (try_statement (decode b c) row)
  statement_made current row {r = r} long is after R =
      subst (λ x. Answers b c current x (counted_counts r) (counted_result r x) (try_statement (decode b c) row)) (sym after)
      (push_statement_answers b.blocks b.statements b.locals b.scopes b.entries c current row long is refl R)

  -- `set_terminator`, and `set_goto`
  pub terminator_set : (k : BasicBlockId) (t : Terminator) {b₁ : Body} → b₁ ≡ with_blocks b (stored b.blocks (block_width * k.0) (term_row t)) → k.0 < c.blocks → Ready b c →
      Answers b c k.0 b₁ (some c) (done (decode b₁ c)) (done (set_terminator (decode b c) k t))
  terminator_set k t after h R =
      subst (λ x. Answers b c k.0 x (some c) (done (decode x c)) (done (set_terminator (decode b c) k t))) (sym after)
      (set_answers b.blocks b.statements b.locals b.scopes b.entries c k t refl h R)
