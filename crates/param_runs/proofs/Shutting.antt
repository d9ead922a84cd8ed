-- A parameter does not fail: where its else becomes Unreachable, of the new blocks its then alone is open. Assumes nothing.
use Rattle.std.specs.Prelude.{Some, None}
use Prim.Native.Nat.{ℕ, ◌<◌}
use native.Mathlib.Decide.{ℕ_discrete}
use native.Mathlib.Omega.{arith}
use mathlib.Core.Path.{◌≡◌, sym, subst, ◌∙◌}
use mathlib.Core.Logic.{◌≢◌}
use Rattle.mir.specs.declared.BasicBlockId.{BasicBlockId}
use Rattle.mir.specs.declared.blocks.Terminator.{Terminator}
use Rattle.state.specs.State.{State}
use Rattle.state.specs.Steps.{set_terminator}
use Rattle.lower_spec.specs.Results.{OptBlock}
use Rattle.views.specs.Growing.{Closed}
use Rattle.pattern_matching.specs.Walking.{Ctx, Out}
use Rattle.params_spec.specs.Params.{shut_else}
use Rattle.growth.specs.Opened.{count, terminator, ElseReady, From, ElseLeft, Leaves}
use Rattle.growth.proofs.States.{count_terminator, closes, terminator_other}
use Rattle.growth.proofs.Working.{worked_seq, worked_terminator, lines_below}
use Rattle.growth.proofs.Leaving.{some_block}

-- a walk's result whose else is shut
abbrev pub shut_out : Out → Out
shut_out r = record { ctx = shut_else r.ctx r.else; then = r.then; else = None }

module _ {st : State} {c : BasicBlockId} (ctx : Ctx) (then : BasicBlockId) where
  -- by the else that there is
  by_else : (els : OptBlock) → Leaves st c None (record { ctx = ctx; then = then; else = els }) → Leaves st c None (record { ctx = shut_else ctx els; then = then; else = None })
  unfolding shut_else
  by_else None q = q
  by_else (Some e) q =
      record {
        worked = worked_seq q.worked (λ i. absurd (omega (arith, new.0))) (worked_terminator st₁ e Terminator.Unreachable);
        then = q.then;
        ready =
            record {
              inside = omega (arith, q.ready.inside, same);
              opened = terminator_other st₁ e Terminator.Unreachable then.0 (λ k. apart.1 (sym k)) ∙ q.ready.opened;
              else = tt;
              lines = lines_below (worked_terminator st₁ e Terminator.Unreachable) q.ready.lines;
            };
        else = tt;
        closed = λ b i f n m. go b i f n (ℕ_discrete b e.0);
      }
    where
      st₁ : State
      st₁ = ctx.state

      st₂ : State
      st₂ = set_terminator st₁ e Terminator.Unreachable

      same : count st₂ ≡ count st₁
      same = count_terminator st₁ e Terminator.Unreachable

      new : ElseLeft st None st₁ (Some e)
      new = q.else

      apart : ElseReady st₁ then (Some e)
      apart = q.ready.else

      go : (b : ℕ) → b < count st₂ → From st c.0 b → b ≢ then.0 → Dec (b ≡ e.0) → Closed (terminator st₂ b)
      go b i f n (yes is) = closes st₁ e b Terminator.Unreachable apart.0 tt is
      go b i f n (no m) =
          subst Closed (sym (terminator_other st₁ e Terminator.Unreachable b m)) (q.closed b (omega (arith, same)) f n (λ k. m (sym (some_block k))))

-- what a walk leaves whose else is shut
pub leaves_shut : {st : State} {c : BasicBlockId} (r : Out) → Leaves st c None r → Leaves st c None (shut_out r)
leaves_shut r q = by_else r.ctx r.then r.else q
