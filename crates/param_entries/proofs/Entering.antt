-- A parameter's local, by the ways through the code. Assumes nothing.
use Rattle.std.specs.Prelude.{Some, None, Ok, Err}
use Prim.Native.Nat.{ℕ}
use mathlib.Core.Path.{◌≡◌, refl, subst, ◌∙◌}
use mathlib.Core.Bool.{cond}
use mathlib.Core.Logic.{inl}
use mathlib.Core.Option.{Option}
use borrow.Author.Tests.{eq-eqb, ne_eqb}
use lib.Dec.{eqb}
use lib.ListN.{length}
use Rattle.refusals.specs.declared.MirLowerError.{MirLowerError}
use Rattle.refusals.specs.Refusals.{Result, stopped, and_then}
use Rattle.place.specs.declared.LocalId.{LocalId}
use Rattle.mir.specs.declared.Counts.{Counts}
use Rattle.mir.specs.Results.{Counted}
use Rattle.mir.specs.Locals.{new_local, locals_after}
use Rattle.mir.specs.Scopes.{new_entry, entries_after}
use Rattle.state.specs.Results.{Stepped}
use Rattle.state.specs.State.{Body, State, decode}
use Rattle.state.specs.Steps.{next_local, try_local, try_entry}
use Rattle.state.specs.Promises.{Ready, Answers}
use Rattle.state.proofs.Answering.{scope_count, next_local_lem, then, stops, refuses}
use Rattle.state.proofs.Calls.{counted_counts, counted_result, local_number}
use Rattle.params_spec.specs.Params.{param_local}
use Rattle.body_tables.specs.Layout.{with_locals, with_entries}
use Rattle.body_tables.specs.Promises.{Adds}
use Rattle.body_tables.proofs.Building.{local_made, entry_made}

-- the local m as an entry, where there is a scope
abbrev entered : LocalId → State → Result State
entered m st = cond (eqb (length st.scopes) 0) (stopped MirLowerError.NoScope) (try_entry st m)

-- b₀ is the body at entry
module _ (b₀ : Body) (c : Counts) (ty : ℕ) where
  abbrev Entered : Stepped → Body → Type 0
  Entered = Adds (λ st. param_local st ty) c b₀

  -- there is no room for the local
  pub local_full : {b : Body} → None ≡ new_local c → b ≡ with_locals b₀ (locals_after c b₀.locals ty) → Entered (Err MirLowerError.Limit) b
  unfolding param_local
  local_full full after current R = stops (entered (next_local (decode b₀ c))) (local_made b₀ c current ty full after R)

  module _ {c₁ : Counts} {n : LocalId} {b₁ : Body} (is : Some (c₁, n) ≡ new_local c) (after : b₁ ≡ with_locals b₀ (locals_after c b₀.locals ty)) where
    -- the local is made, and what follows it goes by its number
    made : {b : Body} {c₂ : Option Counts} {given : Result State} (current : ℕ) → Ready b₀ c → (Ready b₁ c₁ → Answers b₁ c₁ current b c₂ given (entered n (decode b₁ c₁))) →
        Answers b₀ c current b c₂ given (param_local (decode b₀ c) ty)
    unfolding param_local
    made {b = b} {c₂ = c₂} {given = given} current R S =
        let first = local_made b₀ c current ty is after R in
        subst (λ (m : LocalId). Answers b₀ c current b c₂ given (and_then (try_local (decode b₀ c) ty) (entered m))) (local_number c is ∙ next_local_lem b₀ c R)
        (then (entered n) first (inl refl) (S first.goes.0))

    -- there is no scope
    pub local_unscoped : c₁.scopes ≡ 0 → Entered (Err MirLowerError.NoScope) b₁
    local_unscoped none current R = made current R (λ R₁. refuses MirLowerError.NoScope (rw (scope_count b₁ c₁ R₁, eq-eqb c₁.scopes 0 none) refl))

    module _ (scoped : c₁.scopes ≡ 0 → ⊥) {b : Body} (stored : b ≡ with_entries b₁ (entries_after c₁ b₁.entries n.0)) where
      -- the entry, or no room for it
      entry : {r : Counted} → r ≡ new_entry c₁ → (current : ℕ) → Ready b₀ c → Answers b₀ c current b (counted_counts r) (counted_result r b) (param_local (decode b₀ c) ty)
      entry pushed current R = made current R (λ R₁. rw (scope_count b₁ c₁ R₁, ne_eqb c₁.scopes 0 scoped) (entry_made b₁ c₁ current n pushed stored R₁))

      -- there is no room for the entry
      pub local_unentered : None ≡ new_entry c₁ → Entered (Err MirLowerError.Limit) b
      local_unentered full = entry full

      -- both are made
      pub local_entered : {c₂ : Counts} → Some c₂ ≡ new_entry c₁ → Entered (Ok c₂) b
      local_entered pushed = entry pushed
