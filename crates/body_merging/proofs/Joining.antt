-- Two ways into one block, by the ways through the code. Assumes nothing.
use Rattle.std.specs.Prelude.{Some, None, Ok, Err}
use mathlib.Core.Path.{◌≡◌, refl, ap, ◌∙◌}
use mathlib.Core.Option.{some}
use Prim.Native.Nat.{ℕ, ◌*◌, ◌<◌}
use native.Mathlib.Nat.{le_trans}
use native.Mathlib.Omega.{arith}
use Rattle.refusals.specs.declared.MirLowerError.{MirLowerError}
use Rattle.refusals.specs.Refusals.{Result, done, and_then}
use Rattle.row_tables.specs.Rows.{stored}
use Rattle.mir.specs.declared.BasicBlockId.{BasicBlockId}
use Rattle.mir.specs.declared.Counts.{Counts}
use Rattle.mir.specs.declared.blocks.Terminator.{Terminator}
use Rattle.mir.specs.Blocks.{term_row, new_block, block_width}
use Rattle.state.specs.State.{State, Body, decode}
use Rattle.state.specs.Steps.{try_block, next_block}
use Rattle.state.specs.Promises.{Ready, Answers}
use Rattle.state.proofs.Answering.{grown_refl, next_block_lem, stops}
use Rattle.state.proofs.Calls.{block_number}
use Rattle.lower_spec.specs.Results.{OptBlock}
use Rattle.lower_spec.specs.Merging.{set_goto, merge_blocks, merged_at}
use Rattle.body_tables.specs.Layout.{with_blocks}
use Rattle.body_merging.specs.Promises.{Merges}
use Rattle.body_tables.proofs.Building.{block_made, terminator_set}

-- b₀ is the body at entry
module _ (c : Counts) (b₀ : Body) where
  -- there is no first block
  pub merge_none : (y : OptBlock) → Merges c None y b₀ (Ok (c, y)) b₀
  unfolding merge_blocks merged_at
  merge_none y = record { says = λ R. refl; goes = λ R. (R, grown_refl c); number = refl; untouched = λ h. refl }

  -- there is no second block
  pub merge_one : (a : BasicBlockId) → Merges c (Some a) None b₀ (Ok (c, Some a)) b₀
  unfolding merge_blocks merged_at
  merge_one a = record { says = λ R. refl; goes = λ R. (R, grown_refl c); number = refl; untouched = λ h. refl }

  module _ (a b : BasicBlockId) where
    -- there is no room for a block
    pub merge_full : None ≡ new_block c → Merges c (Some a) (Some b) b₀ (Err MirLowerError.Limit) b₀
    unfolding merge_blocks
    merge_full full = record {
      says = λ R. (stops (λ st₁. done (set_goto (set_goto st₁ a (next_block (decode b₀ c))) b (next_block (decode b₀ c)))) (block_made b₀ c 0 full R)).says;
      goes = λ R. tt;
      number = tt;
      untouched = λ h. refl;
    }

    module _ {c₁ : Counts} {m : BasicBlockId} {b₁ b₂ : Body} (a-there : a.0 < c.blocks) (b_there : b.0 < c.blocks) (is : Some (c₁, m) ≡ new_block c)
        (first : b₁ ≡ with_blocks b₀ (stored b₀.blocks (block_width * a.0) (term_row (Terminator.Goto m)))) (second : b₂ ≡ with_blocks b₁ (stored b₁.blocks (block_width * b.0) (term_row (Terminator.Goto m)))) where
      module _ (R : Ready b₀ c) where
        -- the new block
        made : Answers b₀ c 0 b₀ (some c₁) (done (decode b₀ c₁)) (try_block (decode b₀ c))
        made = block_made b₀ c 0 is R

        -- the first goes on there
        set_first : Answers b₀ c₁ a.0 b₁ (some c₁) (done (decode b₁ c₁)) (done (set_goto (decode b₀ c₁) a m))
        set_first = terminator_set b₀ c₁ a (Terminator.Goto m) first (le_trans a-there made.goes.1.blocks) made.goes.0

        -- and so does the second, which may be the same
        set_second : Answers b₁ c₁ b.0 b₂ (some c₁) (done (decode b₂ c₁)) (done (set_goto (decode b₁ c₁) b m))
        set_second = terminator_set b₁ c₁ b (Terminator.Goto m) second (le_trans b_there made.goes.1.blocks) set_first.goes.0

        -- together they are what the definition gives
        two_says : done (decode b₂ c₁) ≡ merge_blocks (decode b₀ c) (Some a) (Some b)
        unfolding merge_blocks
        two_says =
            set_second.says
            ∙ ap (λ (r : Result State). and_then r (λ st. done (set_goto st b m))) set_first.says
            ∙ ap (λ (r : Result State). and_then r (λ st₁. done (set_goto (set_goto st₁ a m) b m))) made.says
            ∙ ap (λ (k : BasicBlockId). and_then (try_block (decode b₀ c)) (λ st₁. done (set_goto (set_goto st₁ a k) b k))) (block_number c is ∙ next_block_lem b₀ c)

      -- both go on at a new block
      pub merge_new : Merges c (Some a) (Some b) b₀ (Ok (c₁, Some m)) b₂
      unfolding merged_at
      merge_new = record {
        says = two_says;
        goes = λ R. ((set_second R).goes.0, (made R).goes.1);
        number = ap Some (block_number c is);
        untouched = λ h. absurd (let z : ◌≡◌ {A = ℕ} 0 1 = cc in omega arith);
      }
