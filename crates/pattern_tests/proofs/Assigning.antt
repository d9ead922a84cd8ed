-- A local is made, something is assigned to it, and the walk goes on: by the ways through the code. Assumes nothing.
use Rattle.std.specs.Prelude.{Some, None, Ok, Err}
use mathlib.Core.Path.{◌≡◌, refl, ap, ◌∙◌}
use mathlib.Core.Logic.{inl}
use mathlib.Core.Option.{some}
use mathlib.Core.List.{List}
use Prim.Native.Nat.{ℕ, ◌≤◌}
use lib.ListN.{length}
use Rattle.refusals.specs.declared.MirLowerError.{MirLowerError}
use Rattle.refusals.specs.Refusals.{Result}
use Rattle.image.specs.declared.PatId.{PatId}
use Rattle.place.specs.declared.LocalId.{LocalId}
use Rattle.mir.specs.declared.BasicBlockId.{BasicBlockId}
use Rattle.mir.specs.declared.Counts.{Counts}
use Rattle.mir.specs.Results.{Counted}
use Rattle.mir.specs.Statements.{new_statement, statements_after, statement_width}
use Rattle.state.specs.State.{Body, State, decode}
use Rattle.state.specs.Steps.{next_local, try_statement}
use Rattle.state.specs.Promises.{Ready, Goes, Answers}
use Rattle.state.proofs.Answering.{next_local_lem, grown_trans}
use Rattle.state.proofs.Calls.{counted_counts, counted_result}
use Rattle.lower_spec.specs.Results.{OptBlock}
use Rattle.body_tables.specs.Layout.{with_statements}
use Rattle.body_tables.proofs.Building.{statement_made}
use Rattle.body_temps.specs.Promises.{Makes}
use Rattle.pattern_matching.specs.Walking.{Ctx, Out, Walk, step, with_state}
use Rattle.pattern_walk_spec.specs.Results.{Lowered}
use Rattle.pattern_walk_spec.specs.Answers.{Begins, ctx_of, Lowers}
use Rattle.pattern_walk_spec.proofs.Following.{step_then, step_stops, answers_by, begins_grown, onward_grown, onward_by}

-- b₀ is the body at entry, b₁ the one with the local, b₂ the one with the assignment
module _ {make : State → Result State} {c c₁ c₂ : Counts} {b₀ b₁ b₂ : Body} {n : LocalId} (row : List ℕ) (M : Makes make c b₀ (Ok (c₁, n)) b₁) (long : length row ≡ statement_width)
    (after : b₂ ≡ with_statements b₁ (statements_after c₁ b₁.statements row)) (is : Some c₂ ≡ new_statement c₁) (P : Ready b₀ c) where
  -- the assignment is there
  assigned : Goes c (some c₂) b₂
  assigned =
      let F = M.answers 0 P in
      let S = statement_made b₁ c₁ 0 row long is after F.goes.0 in
      (S.goes.0, grown_trans F.goes.1 S.goes.1)

  -- and the next part may begin
  pub assign_goes : {current : BasicBlockId} {els : OptBlock} → Begins c current els → Ready b₂ c₂ × Begins c₂ current els
  assign_goes h = let G = assigned in (G.0, begins_grown G.1 h)

  -- or the switch
  pub assign_fits : {current : BasicBlockId} {els : OptBlock} → Begins c current els → (c₂.blocks ≤ 512) × Begins c₂ current els
  assign_fits h = let G = assign_goes h in (G.0.block_count_lem, G.1)

-- b₀ is the body at entry; the walk goes on by what follows the assignment to a local
module _ (b₀ : Body) (p : PatId) (els : OptBlock) (row : LocalId → List ℕ) (follows : LocalId → Ctx → Walk Out) where
  abbrev behind : Ctx → LocalId → State → Walk Out
  behind ctx n st = step p.0 (try_statement st (row n)) (λ st₂. follows n (with_state ctx st₂))

  abbrev Assigns : (State → Result State) → Counts → BasicBlockId → Lowered → Body → Type 0
  Assigns make c current = Lowers (λ ctx. step p.0 (make ctx.state) (behind ctx (next_local ctx.state))) c current els b₀

  -- there is no local
  pub assign_no_local : {make : State → Result State} {c : Counts} {current : BasicBlockId} {b : Body} {err : MirLowerError} →
      Makes make c b₀ (Err err) b → Assigns make c current (Err (err, p)) b
  assign_no_local {c = c} {current = current} M =
      record {
        answers = λ visits R. let ctx = ctx_of b₀ c visits in step_stops p.0 (behind ctx (next_local ctx.state)) (M.answers current.0 R);
        onward = tt;
      }

  -- there is one: b₁ is the body then
  module _ {make : State → Result State} {c c₁ : Counts} {b₁ : Body} {n : LocalId} (M : Makes make c b₀ (Ok (c₁, n)) b₁) where
    -- its number is the one that the definition has
    numbered : (visits : List ℕ) → Ready b₀ c → (ctx : Ctx) → ctx ≡ ctx_of b₀ c visits →
        step p.0 (make ctx.state) (behind ctx n) ≡ step p.0 (make ctx.state) (behind ctx (next_local ctx.state))
    numbered visits R ctx is = rw is (ap (λ (m : LocalId). step p.0 (make (decode b₀ c)) (behind (ctx_of b₀ c visits) m)) (M.number ∙ next_local_lem b₀ c R))

    module _ {current : BasicBlockId} {b₂ : Body} (long : length (row n) ≡ statement_width) (after : b₂ ≡ with_statements b₁ (statements_after c₁ b₁.statements (row n))) where
      -- the statement
      statement : {r : Counted} → r ≡ new_statement c₁ → Ready b₀ c → Answers b₁ c₁ current.0 b₂ (counted_counts r) (counted_result r b₂) (try_statement (decode b₁ c₁) (row n))
      statement is R = statement_made b₁ c₁ current.0 (row n) long is after (M.answers current.0 R).goes.0

      -- there is no room for the statement
      pub assign_full : None ≡ new_statement c₁ → Assigns make c current (Err (MirLowerError.Limit, p)) b₂
      assign_full full =
          record {
            answers = λ visits R.
                let ctx = ctx_of b₀ c visits in
                answers_by (numbered visits R ctx refl)
                (step_then p.0 (behind ctx n) (M.answers current.0 R) (inl refl) (step_stops p.0 (λ st₂. follows n (with_state ctx st₂)) (statement full R)));
            onward = tt;
          }

      -- the walk goes on
      pub assign_then : {c₂ : Counts} {r : Lowered} {b : Body} → Some c₂ ≡ new_statement c₁ → Ready b₀ c → Begins c current els → Lowers (follows n) c₂ current els b₂ r b → Assigns make c current r b
      assign_then {r = r} is P h L =
          let G = assigned (row n) M long after is P in
          record {
            answers = λ visits R.
                let ctx = ctx_of b₀ c visits in
                let S = statement is R in
                answers_by (numbered visits R ctx refl)
                (step_then p.0 (behind ctx n) (M.answers current.0 R) (inl refl) (step_then p.0 (λ st₂. follows n (with_state ctx st₂)) S (inl refl) (L.answers visits S.goes.0)));
            onward = onward_by r G.1 (onward_grown G.1 h) L.onward;
          }
