-- The end of a comparison, by the ways through the code: a new local of type bool, what is assigned to it, and where the block goes on. Assumes nothing.
use Rattle.std.specs.Prelude.{Some, None, Ok, Err}
use mathlib.Core.Path.{◌≡◌, refl, ap, ◌∙◌}
use mathlib.Core.Logic.{inl}
use mathlib.Core.List.{List}
use Prim.Native.Nat.{ℕ, ◌*◌, ◌<◌}
use native.Mathlib.Nat.{le_trans}
use lib.ListN.{length}
use Rattle.refusals.specs.declared.MirLowerError.{MirLowerError}
use Rattle.refusals.specs.Refusals.{Result, done, and_then}
use Rattle.row_tables.specs.Rows.{stored}
use Rattle.place.specs.declared.LocalId.{LocalId}
use Rattle.place.specs.declared.Place.{Place}
use Rattle.mir.specs.declared.BasicBlockId.{BasicBlockId}
use Rattle.mir.specs.declared.Counts.{Counts}
use Rattle.mir.specs.Results.{Counted}
use Rattle.mir.specs.declared.blocks.Terminator.{Terminator}
use Rattle.mir.specs.declared.rvalues.BinOp.{BinOp}
use Rattle.mir.specs.declared.rvalues.Left.{Left}
use Rattle.mir.specs.Blocks.{term_row, block_width}
use Rattle.mir.specs.Rvalues.{binary_row}
use Rattle.mir.specs.Statements.{new_statement, statements_after}
use Rattle.state.specs.State.{Body, State, decode}
use Rattle.state.specs.Steps.{next_local, try_statement}
use Rattle.state.specs.Promises.{Ready, Answers}
use Rattle.state.specs.Results.{Stepped}
use Rattle.state.proofs.RowLengths.{binary_length}
use Rattle.state.proofs.Answering.{next_local_lem, then, stops}
use Rattle.state.proofs.Calls.{counted_counts, counted_result}
use Rattle.lower_spec.specs.Temps.{temp}
use Rattle.body_tables.specs.Layout.{with_blocks, with_statements}
use Rattle.body_tables.proofs.Building.{statement_made, terminator_set}
use Rattle.body_temps.specs.Promises.{Makes}
use Rattle.pattern_matching.specs.Tests.{if_true}
use Rattle.pattern_walk_spec.proofs.Following.{answers_by}
use Rattle.pattern_switching.specs.Switching.{compare_step, Steps}

-- b₀ is the body at entry
module _ (image : List ℕ) (b₀ : Body) (c : Counts) (op : BinOp) (left : Left) (place : Place) (current on other : BasicBlockId) where
  abbrev Compares : Stepped → Body → Type 0
  Compares = Steps (λ st. compare_step image op left place st current on other) c current b₀

  abbrev ends : LocalId → State → Result State
  ends n st = done (if_true st current n on other)

  abbrev assigns : LocalId → State → Result State
  assigns n st = and_then (try_statement st (binary_row current n op left place)) (ends n)

  -- there is no local
  pub compare_no_temp : {err : MirLowerError} {b : Body} → Makes (λ st. temp image st 256 current) c b₀ (Err err) b → Compares (Err err) b
  unfolding compare_step
  compare_no_temp M R = stops (assigns (next_local (decode b₀ c))) (M.answers current.0 R)

  -- there is one: b₁ is the body then
  module _ {c₁ : Counts} {n : LocalId} {b₁ b₂ : Body} (long : length place.elems ≡ 16) (M : Makes (λ st. temp image st 256 current) c b₀ (Ok (c₁, n)) b₁)
      (after : b₂ ≡ with_statements b₁ (statements_after c₁ b₁.statements (binary_row current n op left place))) where
    module _ (R : Ready b₀ c) where
      -- the statement
      statement : {r : Counted} → r ≡ new_statement c₁ → Answers b₁ c₁ current.0 b₂ (counted_counts r) (counted_result r b₂) (try_statement (decode b₁ c₁) (binary_row current n op left place))
      statement is = statement_made b₁ c₁ current.0 (binary_row current n op left place) (binary_length current n op left place long) is after (M.answers current.0 R).goes.0

      -- the local's number is the one that the definition has
      numbered : and_then (temp image (decode b₀ c) 256 current) (assigns n) ≡ compare_step image op left place (decode b₀ c) current on other
      unfolding compare_step
      numbered = ap (λ (m : LocalId). and_then (temp image (decode b₀ c) 256 current) (assigns m)) (M.number ∙ next_local_lem b₀ c R)

    -- there is no room for the statement
    pub compare_full : None ≡ new_statement c₁ → Compares (Err MirLowerError.Limit) b₂
    compare_full full R = answers_by (numbered R) (then (assigns n) (M.answers current.0 R) (inl refl) (stops (ends n) (statement R full)))

    -- the block goes on by the local
    pub compare_ends : {c₂ : Counts} {b₃ : Body} → Some c₂ ≡ new_statement c₁ → b₃ ≡ with_blocks b₂ (stored b₂.blocks (block_width * current.0) (term_row (Terminator.Switch n 1 0 on other))) → current.0 < c.blocks →
        Compares (Ok c₂) b₃
    compare_ends {c₂ = c₂} is set h R =
        let F = M.answers current.0 R in
        let S = statement R is in
        answers_by (numbered R)
        (then (assigns n) F (inl refl)
        (then (ends n) S (inl refl)
        (terminator_set b₂ c₂ current (Terminator.Switch n 1 0 on other) set (le_trans h (le_trans F.goes.1.blocks S.goes.1.blocks)) S.goes.0)))
