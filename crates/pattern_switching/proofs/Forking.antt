-- The switch on a local, by the ways through the code. Assumes nothing.
use Rattle.std.specs.Prelude.{Some, None, Ok, Err}
use mathlib.Core.Path.{◌≡◌}
use Prim.Native.Nat.{ℕ, ◌*◌}
use native.Mathlib.Nat.{le_trans}
use Rattle.refusals.specs.declared.MirLowerError.{MirLowerError}
use Rattle.refusals.specs.Refusals.{Result, done}
use Rattle.image.specs.declared.PatId.{PatId}
use Rattle.row_tables.specs.Rows.{stored}
use Rattle.place.specs.declared.LocalId.{LocalId}
use Rattle.mir.specs.declared.BasicBlockId.{BasicBlockId}
use Rattle.mir.specs.declared.Counts.{Counts}
use Rattle.mir.specs.declared.blocks.Terminator.{Terminator}
use Rattle.mir.specs.Blocks.{term_row, new_block, block_width}
use Rattle.state.specs.State.{Body, State}
use Rattle.state.specs.Steps.{set_terminator}
use Rattle.state.proofs.Answering.{grown_refl}
use Rattle.body_tables.specs.Layout.{with_blocks}
use Rattle.body_tables.proofs.Building.{terminator_set}
use Rattle.lower_spec.specs.Results.{OptBlock}
use Rattle.pattern_walk_spec.specs.Results.{Lowered}
use Rattle.pattern_walk_spec.specs.Answers.{Begins, Lowers}
use Rattle.pattern_walk_spec.proofs.Following.{block_onward}
use Rattle.pattern_switching.specs.Switching.{else_made, then_switch}
use Rattle.pattern_switching.proofs.Branching.{then_full, then_else_full, then_else_ends, else_onward}

-- b₀ is the body at entry
module _ (b₀ : Body) (c : Counts) (p : PatId) (l : LocalId) (low high : ℕ) (current : BasicBlockId) (els : OptBlock) where
  abbrev Switched : Lowered → Body → Type 0
  Switched = Lowers (λ ctx. then_switch p.0 l low high ctx current els) c current els b₀

  abbrev ends : State → BasicBlockId → BasicBlockId → Result State
  ends st on other = done (set_terminator st current (Terminator.Switch l low high on other))

  -- there is no room for the block that goes on
  pub switch_full : None ≡ new_block c → Switched (Err (MirLowerError.Limit, p)) b₀
  unfolding then_switch
  switch_full full = then_full p ends els b₀ c current full

  module _ {c₁ : Counts} {on : BasicBlockId} (is : Some (c₁, on) ≡ new_block c) where
    -- nor for an else
    pub switch_else_full : None ≡ else_made c₁ els → Switched (Err (MirLowerError.Limit, p)) b₀
    unfolding then_switch
    switch_else_full full = then_else_full p ends els b₀ c current is full

    -- both are made
    pub switch_ends : {c₂ : Counts} {other : BasicBlockId} {b₁ : Body} → Some (c₂, other) ≡ else_made c₁ els →
        b₁ ≡ with_blocks b₀ (stored b₀.blocks (block_width * current.0) (term_row (Terminator.Switch l low high on other))) → Begins c current els → Switched (Ok (c₂, on, Some other)) b₁
    unfolding then_switch
    switch_ends {c₂ = c₂} {other = other} made set h =
        let new = block_onward c is h in
        let new₂ = else_onward c₁ els made new.1.begins in
        then_else_ends p ends els b₀ c current is made (Ok c₂) h (grown_refl c₂)
        (λ R. terminator_set b₀ c₂ current (Terminator.Switch l low high on other) set (le_trans h.start (le_trans new.0.blocks new₂.0.blocks)) R)
