-- The steps of `pattern_match` and of `pattern_match_assignment`: what they ask for, and what they give. Assumes nothing.
use Rattle.std.specs.Prelude.{Ok, Err}
use Prim.Native.Nat.{ℕ, ◌*◌, ◌<◌}
use mathlib.Core.Path.{◌≡◌}
use mathlib.Core.List.{List}
use native.Mathlib.Omega.{arith}
use lib.ListN.{length}
use Rattle.refusals.specs.declared.MirLowerError.{MirLowerError}
use Rattle.row_tables.specs.Rows.{zeros, row_at, stored, cleared}
use Rattle.image.specs.declared.PatId.{PatId}
use Rattle.image.specs.declared.Tables.{Tables}
use Rattle.image.specs.Tables.{pattern_count}
use Rattle.place.specs.declared.Place.{Place}
use Rattle.mir.specs.declared.BasicBlockId.{BasicBlockId}
use Rattle.mir.specs.declared.Counts.{Counts}
use Rattle.state.specs.State.{Body, decode, encode}
use Rattle.mir.specs.Blocks.{block_width, block_words}
use Rattle.body_tables.specs.Layout.{with_blocks}
use Rattle.lower_spec.specs.Results.{OptBlock}
use Rattle.body_calls_spec.specs.Sizes.{Taken}
use Rattle.body_calls_spec.proofs.Clearing.{Cleared}
use Rattle.body_calls_spec.proofs.Prologue.{taken_sized}
use Rattle.pattern_matching.specs.Walking.{Ctx, Out, Walk}
use Rattle.pattern_walk_spec.specs.Answers.{Walks}
use Rattle.pattern_walk_spec.specs.Calls.{by_walk, start_ctx, Visits}
use Rattle.pattern_walk_laws.specs.Walk.{Walkable}
use Rattle.handed.proofs.Handing.{Handed, pattern_there, bindings_sized, start_there, else_there, root_there, elems_within}
use Rattle.pattern_calls_spec.specs.Calls.{named_in, match_way, match_ctx}
use Rattle.pattern_calls_spec.proofs.Starting.{visits_cleared, cleared_now, placed_of}
use Rattle.pattern_calls_spec.proofs.Stepping.{walk_accepted, walk_refused}
use Rattle.body_calls_spec.specs.declared.PatternCallError.{PatternCallError}

-- image, body and numbers were looked at
module _ {image : List ℕ} {tables : Tables} {b : Body} {c : Counts} (bindings : List ℕ) (p : ℕ) (current : BasicBlockId) (els : OptBlock) (place : Place) (T : Taken image tables b c) (H : Handed (named_in image) bindings b.blocks c p current els place) where
  -- the block where the walk starts is there
  starts : current.0 < c.blocks
  starts = start_there (named_in image) bindings b.blocks c p current els place H

  -- its row may be read
  pub row_asked : current.0 < 512
  row_asked = omega (arith, starts, (taken_sized image b c T).block_count_lem)

  -- b₁ is the body after zeros were written above the counts
  module _ {b₁ : Body} (blank : b₁ ≡ encode (decode b c)) where
    ready_body : Cleared b c b₁
    ready_body = cleared_now T blank

    -- the pattern is there, and a walk may start
    pub walk_asked : Walkable image tables bindings b₁ c current els place × (p < pattern_count image)
    walk_asked = (
      record {
        image_valid = T.valid_image;
        whole = T.whole;
        locals_of_bindings = bindings_sized (named_in image) bindings b.blocks c p current els place H;
        ready = ready_body.ready;
        begins = record { start = starts; else = else_there (named_in image) bindings b.blocks c p current els place H };
        placed = placed_of b₁ place T ready_body
            (root_there (named_in image) bindings b.blocks c p current els place H)
            (elems_within (named_in image) bindings b.blocks c p current els place H);
      },
      pattern_there (named_in image) bindings b.blocks c p current els place H,
    )

    -- v₁ lies in the visits' table after zeros were written there
    module _ (visits : List ℕ) {v₁ : List ℕ} (sized : length visits ≡ 512) (unseen : v₁ ≡ cleared visits 0) where
      -- no pattern is visited yet
      no_visit : v₁ ≡ zeros 512
      no_visit = visits_cleared visits sized unseen

      -- the walk gives `defined`
      module _ (defined : Ctx → Walk Out) {b₂ : Body} {v₂ : List ℕ} where
        -- and is accepted
        pub matched : {c' : Counts} {then : BasicBlockId} {els' : OptBlock} → Walks defined c current els b₁ v₁ (Ok (c', then, els')) b₂ v₂ →
            Visits match_way match_ctx b visits c (by_walk (defined (start_ctx b c))) (Ok (c', then, els')) b₂ v₂
        matched W = walk_accepted defined ready_body no_visit W

        -- or refused: the row of the block is put back, and zeros are written again
        pub not_matched : {err : MirLowerError} {q : PatId} {row v₄ : List ℕ} {b₃ b₄ : Body} → Walks defined c current els b₁ v₁ (Err (err, q)) b₂ v₂ →
            length b₂.blocks ≡ block_words → length v₂ ≡ 512 → row ≡ row_at block_width b.blocks current.0 →
            b₃ ≡ with_blocks b₂ (stored b₂.blocks (block_width * current.0) row) → b₄ ≡ encode (decode b₃ c) → v₄ ≡ cleared v₂ 0 →
            Visits match_way match_ctx b visits c (by_walk (defined (start_ctx b c))) (Err (PatternCallError.Refused err q)) b₄ v₄
        not_matched W long seen is_row back is unseen₄ = walk_refused defined ready_body no_visit (taken_sized image b c T) W starts long is_row back is (visits_cleared v₂ seen unseen₄)
