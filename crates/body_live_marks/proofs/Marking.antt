-- Live marks, by the ways through the code. Assumes nothing.
use Rattle.std.specs.Prelude.{Some, None, Ok, Err}
use mathlib.Core.Path.{◌≡◌, refl, ap, subst}
use mathlib.Core.Logic.{inl}
use mathlib.Core.Bool.{Bool, true, false, cond}
use mathlib.Core.List.{List}
use Prim.Native.Nat.{ℕ}
use borrow.Author.Tests.{eq-eqb, ne_eqb}
use lib.ListN.{take}
use Rattle.refusals.specs.declared.MirLowerError.{MirLowerError}
use Rattle.refusals.specs.Refusals.{done, stopped, and_then}
use Rattle.image.specs.Lists.{member}
use Rattle.place.specs.declared.LocalId.{LocalId}
use Rattle.mir.specs.declared.BasicBlockId.{BasicBlockId}
use Rattle.mir.specs.declared.Counts.{Counts}
use Rattle.mir.specs.Results.{Counted}
use Rattle.mir.specs.Rvalues.{live_row}
use Rattle.mir.specs.Statements.{new_statement, statements_after}
use Rattle.mir.specs.Scopes.{new_entry, entries_after}
use Rattle.state.specs.State.{Body, decode}
use Rattle.state.specs.Steps.{try_statement}
use Rattle.state.specs.Promises.{Ready, Answers, stepped_counts, stepped_result}
use Rattle.state.specs.Results.{Stepped}
use Rattle.state.proofs.RowLengths.{live_length}
use Rattle.state.proofs.Answering.{scope_count, then, stops, no_step, refuses}
use Rattle.state.proofs.Calls.{counted_counts, counted_result}
use Rattle.lower_spec.specs.Temps.{is_held, record_unless, mark_live, push_storage_live_for_local, binding_local, push_storage_live}
use Rattle.body_tables.specs.Layout.{with_statements, with_entries}
use Rattle.body_tables.specs.Promises.{Adds}
use Rattle.body_tables.proofs.Building.{entry_made, statement_made}

-- `record_unless`: the answer, and the body with the entry or without it
record_answers : (b₀ : Body) (c : Counts) (current : ℕ) (l : LocalId) (held : Bool) {r : Counted} {b : Body} → r ≡ cond held (Some c) (new_entry c) →
    b ≡ cond held b₀ (with_entries b₀ (entries_after c b₀.entries l.0)) → Ready b₀ c →
    Answers b₀ c current b (counted_counts r) (counted_result r b) (record_unless held (decode b₀ c) l)
record_answers b₀ c current l true is after R = rw (is, after) (no_step (decode b₀ c) R)
record_answers b₀ c current l false is after R = entry_made b₀ c current l is after R

-- b₀ is the body at entry
module _ (b₀ : Body) (c : Counts) (l : LocalId) (block : BasicBlockId) (held : Bool) where
  abbrev Live : Stepped → Body → Type 0
  Live = Adds (λ st. mark_live held st l block) c b₀

  -- there is no scope
  pub live_no_scope : c.scopes ≡ 0 → Live (Err MirLowerError.NoScope) b₀
  unfolding mark_live
  live_no_scope h current R = refuses MirLowerError.NoScope (rw (scope_count b₀ c R, eq-eqb c.scopes 0 h) refl)

  module _ (scoped : c.scopes ≡ 0 → ⊥) where
    -- there is no room for the entry
    pub live_no_entry : {b : Body} → None ≡ cond held (Some c) (new_entry c) → b ≡ cond held b₀ (with_entries b₀ (entries_after c b₀.entries l.0)) →
        Live (Err MirLowerError.Limit) b
    unfolding mark_live
    live_no_entry is after current R =
        rw (scope_count b₀ c R, ne_eqb c.scopes 0 scoped) (stops (λ st₁. try_statement st₁ (live_row block l)) (record_answers b₀ c current l held is after R))

    module _ {c₁ : Counts} {b₁ b : Body} (is : Some c₁ ≡ cond held (Some c) (new_entry c)) (after : b₁ ≡ cond held b₀ (with_entries b₀ (entries_after c b₀.entries l.0)))
        (stored : b ≡ with_statements b₁ (statements_after c₁ b₁.statements (live_row block l))) where
      -- the entry, where one is made, and then the statement or no room for it
      live_entry : {r : Counted} → r ≡ new_statement c₁ → (current : ℕ) → Ready b₀ c → Answers b₀ c current b (counted_counts r) (counted_result r b) (mark_live held (decode b₀ c) l block)
      unfolding mark_live
      live_entry pushed current R =
          let first = record_answers b₀ c current l held is after R in
          rw (scope_count b₀ c R, ne_eqb c.scopes 0 scoped)
          (then (λ st₁. try_statement st₁ (live_row block l)) first (inl refl) (statement_made b₁ c₁ current (live_row block l) (live_length block l) pushed stored first.goes.0))

      -- there is no room for the statement
      pub live_no_statement : None ≡ new_statement c₁ → Live (Err MirLowerError.Limit) b
      live_no_statement full = live_entry full

      -- both are made
      pub live_marked : {c₂ : Counts} → Some c₂ ≡ new_statement c₁ → Live (Ok c₂) b
      live_marked pushed = live_entry pushed

-- `push_storage_live_for_local`: a mark of a local that is held where the entries say so
pub mark_looked : (b₀ : Body) (c : Counts) (l : LocalId) (block : BasicBlockId) (held : Bool) (r : Stepped) {b : Body} → held ≡ member l.0 (take c.entries b₀.entries) →
    Adds (λ st. mark_live held st l block) c b₀ r b → Adds (λ st. push_storage_live_for_local st l block) c b₀ r b
unfolding is_held decode
mark_looked b₀ c l block held r {b = b} is M current R =
    subst (λ (h : Bool). Answers b₀ c current b (stepped_counts r) (stepped_result r b) (mark_live h (decode b₀ c) l block)) is (M current R)

-- `push_storage_live`
module _ (b₀ : Body) (c : Counts) (bindings : List ℕ) (k : ℕ) (block : BasicBlockId) where
  -- the binding has no local
  pub binding_refused : {e : MirLowerError} → stopped e ≡ binding_local bindings k → Adds (λ st. push_storage_live st bindings k block) c b₀ (Err e) b₀
  unfolding push_storage_live
  binding_refused {e = e} h current R = refuses e (ap (λ r. and_then r (λ l. push_storage_live_for_local (decode b₀ c) l block)) h)

  -- the binding's local is marked
  pub binding_marked : {l : LocalId} {b : Body} (r : Stepped) → done l ≡ binding_local bindings k → Adds (λ st. push_storage_live_for_local st l block) c b₀ r b →
      Adds (λ st. push_storage_live st bindings k block) c b₀ r b
  unfolding push_storage_live
  binding_marked r h M current R = rw (← h) (M current R)
