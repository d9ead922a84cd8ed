-- Temporaries, by the ways through the code. Assumes nothing.
use Rattle.std.specs.Prelude.{Some, None, Ok, Err}
use mathlib.Core.Path.{◌≡◌, refl, subst, ◌∙◌}
use mathlib.Core.Bool.{true, false}
use mathlib.Core.Logic.{inl}
use mathlib.Core.List.{List}
use Prim.Native.Nat.{ℕ, ◌≤◌, ◌<◌}
use borrow.Author.Tests.{lt-ltb, le-ltb}
use lib.Dec.{eqb}
use Rattle.refusals.specs.declared.MirLowerError.{MirLowerError}
use Rattle.refusals.specs.Refusals.{and_then}
use Rattle.image.specs.declared.rows.TypeRow.{TypeRow}
use Rattle.image.specs.Tables.{type_count}
use Rattle.image.specs.Rows.{type_at}
use Rattle.place.specs.declared.LocalId.{LocalId}
use Rattle.mir.specs.declared.BasicBlockId.{BasicBlockId}
use Rattle.mir.specs.declared.Counts.{Counts}
use Rattle.mir.specs.Locals.{new_local, locals_after}
use Rattle.state.specs.State.{Body, decode}
use Rattle.state.specs.Steps.{next_local, try_local}
use Rattle.state.specs.Promises.{Ready, Answers, stepped_counts, stepped_result}
use Rattle.state.specs.Results.{Stepped}
use Rattle.state.proofs.Answering.{next_local_lem, then, stops, refuses}
use Rattle.state.proofs.Calls.{local_number}
use Rattle.lower_spec.specs.Results.{NewTemp}
use Rattle.lower_spec.specs.Temps.{is_slice, temp, mark_live}
use Rattle.body_tables.specs.Layout.{with_locals}
use Rattle.body_tables.specs.Promises.{Adds}
use Rattle.body_temps.specs.Promises.{Makes}
use Rattle.body_tables.proofs.Building.{local_made}

-- `is_slice`, n being the count of the types
module _ (image : List ℕ) (word n : ℕ) (count : n ≡ type_count image) where
  -- a word behind the type table is no slice's
  pub no_type_lem : n ≤ word → false ≡ is_slice image word
  unfolding is_slice
  no_type_lem h = rw (← count, le-ltb word n h) refl

  -- a word of the type table is, where the kind is 9
  pub slice_kind : {row : TypeRow} → word < n → row ≡ type_at image word → eqb row.kind 9 ≡ is_slice image word
  unfolding is_slice
  slice_kind h at = rw (← count, lt-ltb word n h, at) refl

-- b₀ is the body at entry
module _ (image : List ℕ) (b₀ : Body) (c : Counts) (word : ℕ) (block : BasicBlockId) where
  abbrev Temp : NewTemp → Body → Type 0
  Temp = Makes (λ st. temp image st word block) c b₀

  -- a slice is refused
  pub temp_slice : is_slice image word ≡ true → Temp (Err MirLowerError.UnsizedTemporary) b₀
  unfolding temp
  temp_slice slice = record { answers = λ current R. refuses MirLowerError.UnsizedTemporary (rw slice refl); number = tt }

  module _ (sized : is_slice image word ≡ false) where
    -- there is no room for the local
    pub temp_no_local : {b : Body} → None ≡ new_local c → b ≡ with_locals b₀ (locals_after c b₀.locals word) → Temp (Err MirLowerError.Limit) b
    unfolding temp
    temp_no_local full after = record {
      answers = λ current R. rw sized (stops (λ st₁. mark_live false st₁ (next_local (decode b₀ c)) block) (local_made b₀ c current word full after R));
      number = tt;
    }

    module _ {c₁ : Counts} {n : LocalId} {b₁ b : Body} (is : Some (c₁, n) ≡ new_local c) (after : b₁ ≡ with_locals b₀ (locals_after c b₀.locals word)) where
      -- the local, and then what its mark gives
      temp_marked : (r : Stepped) → Adds (λ st. mark_live false st n block) c₁ b₁ r b → (current : ℕ) → Ready b₀ c →
          Answers b₀ c current b (stepped_counts r) (stepped_result r b) (temp image (decode b₀ c) word block)
      unfolding temp
      temp_marked r M current R =
          let first = local_made b₀ c current word is after R in
          rw sized
          (subst
          (λ (m : LocalId). Answers b₀ c current b (stepped_counts r) (stepped_result r b) (and_then (try_local (decode b₀ c) word) (λ st₁. mark_live false st₁ m block)))
          (local_number c is ∙ next_local_lem b₀ c R)
          (then (λ st₁. mark_live false st₁ n block) first (inl refl) (M current first.goes.0)))

      -- the mark is refused
      pub temp_stopped : {err : MirLowerError} → Adds (λ st. mark_live false st n block) c₁ b₁ (Err err) b → Temp (Err err) b
      temp_stopped {err = err} M = record { answers = temp_marked (Err err) M; number = tt }

      -- both are made
      pub temp_made : {c₂ : Counts} → Adds (λ st. mark_live false st n block) c₁ b₁ (Ok c₂) b → Temp (Ok (c₂, n)) b
      temp_made {c₂ = c₂} M = record { answers = temp_marked (Ok c₂) M; number = local_number c is }
