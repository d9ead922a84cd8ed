-- The end of alternatives that all can fail, by the ways through the code. Assumes nothing.
use Rattle.std.specs.Prelude.{Some, None, Ok, Err}
use mathlib.Core.Path.{◌≡◌, refl, ap, ◌∙◌}
use mathlib.Core.Logic.{inl}
use mathlib.Core.Bool.{true, false}
use Prim.Native.Nat.{◌*◌, ◌<◌}
use native.Mathlib.Nat.{le_trans}
use Rattle.refusals.specs.declared.MirLowerError.{MirLowerError}
use Rattle.image.specs.declared.PatId.{PatId}
use Rattle.row_tables.specs.Rows.{stored}
use Rattle.mir.specs.declared.BasicBlockId.{BasicBlockId}
use Rattle.mir.specs.declared.Counts.{Counts}
use Rattle.mir.specs.declared.blocks.Terminator.{Terminator}
use Rattle.mir.specs.Blocks.{term_row, block_width}
use Rattle.state.specs.State.{Body, State, decode}
use Rattle.state.specs.Steps.{set_terminator}
use Rattle.body_tables.specs.Layout.{with_blocks}
use Rattle.body_tables.proofs.Building.{terminator_set}
use Rattle.lower_spec.specs.Results.{OptBlock}
use Rattle.lower_spec.specs.Merging.{set_goto}
use Rattle.pattern_matching.specs.declared.MatchingMode.{MatchingMode}
use Rattle.pattern_matching.specs.Modes.{is_check}
use Rattle.pattern_matching.specs.Walking.{Ctx, Out, Walk, step, out, with_state, else_state, else_block}
use Rattle.pattern_matching.specs.Patterns.{alternatives_end}
use Rattle.pattern_nodes.specs.Modes.{alternatives_left}
use Rattle.pattern_switching.specs.Switching.{else_made}
use Rattle.pattern_switching.proofs.Cutting.{in_check_lem, not_in_check}
use Rattle.pattern_switching.proofs.Branching.{else_answers, else_number, else_onward}
use Rattle.pattern_walk_spec.specs.Results.{Lowered}
use Rattle.pattern_walk_spec.specs.Answers.{Begins, ctx_of, Ends}
use Rattle.pattern_walk_spec.proofs.Following.{step_then, step_stops, stays, answers_by, onward_refl}

-- b₀ is the body at entry
module _ (b₀ : Body) (c : Counts) (mode : MatchingMode) (p : PatId) (left join : BasicBlockId) (els : OptBlock) where
  abbrev Ended : Lowered → Body → Type 0
  Ended = Ends (λ ctx. alternatives_left p.0 mode ctx left join els) c left join els b₀

  -- at the else, which is `other`
  abbrev at_else : Ctx → BasicBlockId → State → Walk Out
  at_else ctx other st = out (with_state ctx (set_goto st left other)) join (Some other)

  abbrev elsewhere : Ctx → BasicBlockId → Walk Out
  elsewhere ctx other = step p.0 (else_state ctx.state els) (at_else ctx other)

  -- or nowhere
  abbrev nowhere : Ctx → Walk Out
  nowhere ctx = out (with_state ctx (set_terminator ctx.state left Terminator.Unreachable)) join els

  checked : (ctx : Ctx) → is_check mode ≡ true → elsewhere ctx (else_block ctx.state els) ≡ alternatives_left p.0 mode ctx left join els
  unfolding alternatives_end
  checked ctx check = in_check_lem mode (elsewhere ctx (else_block ctx.state els)) (nowhere ctx) check

  unchecked : (ctx : Ctx) → is_check mode ≡ false → nowhere ctx ≡ alternatives_left p.0 mode ctx left join els
  unfolding alternatives_end
  unchecked ctx beyond = not_in_check mode (elsewhere ctx (else_block ctx.state els)) (nowhere ctx) beyond

  -- beyond Check the last mismatch cannot be reached
  pub end_nowhere : {b₁ : Body} → is_check mode ≡ false → b₁ ≡ with_blocks b₀ (stored b₀.blocks (block_width * left.0) (term_row Terminator.Unreachable)) → Begins c left els → join.0 < c.blocks → Ended (Ok (c, join, els)) b₁
  end_nowhere beyond set h there =
      record {
        answers = λ visits R.
            let ctx = ctx_of b₀ c visits in
            let F = terminator_set b₀ c left Terminator.Unreachable set h.start R in
            answers_by (unchecked ctx beyond) (step_then p.0 (λ st. out (with_state ctx st) join els) F (inl refl) (stays _ F.goes.0));
        onward = record { at = refl; own_else = (onward_refl h).own_else; begins = record { start = there; else = h.else } };
      }

  module _ (check : is_check mode ≡ true) where
    -- there is no room for an else
    pub end_full : None ≡ else_made c els → Ended (Err (MirLowerError.Limit, p)) b₀
    end_full full =
        record {
          answers = λ visits R.
              let ctx = ctx_of b₀ c visits in
              answers_by (checked ctx check) (step_stops p.0 (at_else ctx (else_block (decode b₀ c) els)) (else_answers b₀ c left.0 els full R));
          onward = tt;
        }

    -- the last mismatch goes on at the else
    pub end_elsewhere : {c₁ : Counts} {other : BasicBlockId} {b₁ : Body} → Some (c₁, other) ≡ else_made c els → b₁ ≡ with_blocks b₀ (stored b₀.blocks (block_width * left.0) (term_row (Terminator.Goto other))) → Begins c left els →
        join.0 < c.blocks → Ended (Ok (c₁, join, Some other)) b₁
    end_elsewhere {c₁ = c₁} {other = other} made set h there =
        let new = else_onward c els made h in
        record {
          answers = λ visits R.
              let ctx = ctx_of b₀ c visits in
              let F = else_answers b₀ c left.0 els made R in
              let S = terminator_set b₀ c₁ left (Terminator.Goto other) set new.1.begins.start F.goes.0 in
              answers_by (ap (elsewhere ctx) (else_number c els made b₀) ∙ checked ctx check)
              (step_then p.0 (at_else ctx other) F (inl refl)
              (step_then p.0 (λ st. out (with_state ctx st) join (Some other)) S (inl refl) (stays _ S.goes.0)));
          onward = record { at = refl; own_else = new.1.own_else; begins = record { start = le_trans there new.0.blocks; else = new.1.begins.else } };
        }
