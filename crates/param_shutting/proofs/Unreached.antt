-- An else that cannot be reached: a walk, and then its else is shut. Assumes nothing.
use Rattle.std.specs.Prelude.{Some, None, Ok, Err}
use Prim.Native.Nat.{ℕ, ◌<◌}
use mathlib.Core.Path.{◌≡◌, refl, ap}
use mathlib.Core.Logic.{inl, inr}
use mathlib.Core.Option.{some}
use mathlib.Core.List.{List}
use native.Mathlib.Nat.{le_trans}
use native.Mathlib.Omega.{arith}
use Rattle.refusals.specs.declared.MirLowerError.{MirLowerError}
use Rattle.image.specs.declared.PatId.{PatId}
use Rattle.mir.specs.declared.BasicBlockId.{BasicBlockId}
use Rattle.mir.specs.declared.Counts.{Counts}
use Rattle.mir.specs.declared.blocks.Terminator.{Terminator}
use Rattle.state.specs.State.{Body, State, decode}
use Rattle.state.specs.Steps.{set_terminator}
use Rattle.state.specs.Promises.{Ready, Own, Answers}
use Rattle.state.proofs.Answering.{kept_trans}
use Rattle.lower_spec.specs.Results.{OptBlock}
use Rattle.pattern_matching.specs.Walking.{Ctx, Out, Walk, out}
use Rattle.pattern_walk_spec.specs.Results.{Lowered}
use Rattle.pattern_walk_spec.specs.Answers.{ctx_of, walk_of, OwnElse, Walks}
use Rattle.pattern_walk_spec.proofs.Following.{goes_on_lem, next_then}
use Rattle.pattern_walk_spec.proofs.Sequences.{lowers_skips, lowers_walks, walks_stops, walks_then}
use Rattle.params_spec.specs.Params.{shut_else, shut}
use Rattle.param_shutting.specs.Shutting.{shut_answer, shut_by, shut_body, Shuttable}
use Rattle.body_tables.proofs.Building.{terminator_set}

-- what follows the walk
abbrev shutting : Out → Walk Out
shutting r = out (shut_else r.ctx r.else) r.then None

-- with no else a new one is a new block
new_else : (c : Counts) (current : ℕ) (b : BasicBlockId) → OwnElse c None (Some b) → Own c current b.0
new_else c current b (inl e) = absurd (let z : ◌≡◌ {A = ℕ} 0 1 = cc in omega arith)
new_else c current b (inr new) = inr new

-- the else m of an answer is shut: t is the body before, and t₁ after
module _ (c : Counts) (then m : BasicBlockId) (t : Body) {t₁ : Body} (after : t₁ ≡ shut_by (Some m) t) (there : m.0 < c.blocks) where
  else_shut : (visits : List ℕ) → Ready t c →
      Answers t c m.0 t₁ (some c) (walk_of (Ok (c, then, None)) t₁ visits) (shutting (record { ctx = ctx_of t c visits; then = then; else = Some m }))
  unfolding shut_else
  else_shut visits R =
      let E = terminator_set t c m Terminator.Unreachable after there R in
      let same : decode t₁ c ≡ set_terminator (decode t c) m Terminator.Unreachable = cc E.says in
      record { says = ap (λ (st : State). out (record { state = st; visits = visits }) then None) same; goes = E.goes; kept = E.kept }

module _ {defined : Ctx → Walk Out} {c : Counts} {current : BasicBlockId} {t₀ : Body} {v₀ v : List ℕ} (P : Ready t₀ c) where
  -- the walk is refused
  shut_refused : {e : MirLowerError} {p : PatId} {t : Body} → Walks defined c current None t₀ v₀ (Err (e, p)) t v →
      Walks (λ ctx. shut (defined ctx)) c current None t₀ v₀ (Err (e, p)) t v
  unfolding shut
  shut_refused W = walks_stops shutting W

  -- it has no else
  shut_none : {c₁ : Counts} {then : BasicBlockId} {t : Body} → Walks defined c current None t₀ v₀ (Ok (c₁, then, None)) t v →
      Walks (λ ctx. shut (defined ctx)) c current None t₀ v₀ (Ok (c₁, then, None)) t v
  unfolding shut shut_else
  shut_none W = walks_then W P shutting (lowers_walks v (lowers_skips (λ ctx. refl) W.onward.begins))

  -- it has one
  shut_some : {c₁ : Counts} {then m : BasicBlockId} {t t₁ : Body} → Walks defined c current None t₀ v₀ (Ok (c₁, then, Some m)) t v →
      t₁ ≡ shut_by (Some m) t → Walks (λ ctx. shut (defined ctx)) c current None t₀ v₀ (Ok (c₁, then, None)) t₁ v
  unfolding shut
  shut_some {c₁ = c₁} {then = then} {m = m} {t = t} {t₁ = t₁} W after =
      let there = W.onward.begins.else in
      let own = new_else c current.0 m W.onward.own_else in
      record {
        answers = λ visits R H.
            let F = W.answers visits R H in
            record {
              visits' = F.visits';
              holds = F.holds;
              answers = next_then shutting F.answers own (else_shut c₁ then m t after there F.visits' F.answers.goes.0);
            };
        leaves = λ Q.
            let L = W.leaves Q in
            let S = else_shut c₁ then m t after there v L.0.0 in
            (goes_on_lem t₁ (some c₁) L.0.1 S.goes, kept_trans L.1 L.0.1 own S.kept);
        onward = record { own = W.onward.own; own_else = tt; begins = record { start = W.onward.begins.start; else = tt } };
      }

  -- any answer x: r is the one that is handed on, and t₁ is the body then
  pub shut_walks : (x : Lowered) {r : Lowered} {t t₁ : Body} → Walks defined c current None t₀ v₀ x t v → r ≡ shut_answer x → t₁ ≡ shut_body x t →
      Walks (λ ctx. shut (defined ctx)) c current None t₀ v₀ r t₁ v
  shut_walks (Err (err, p)) W is after = rw (is, after) (shut_refused W)
  shut_walks (Ok (c₁, then, None)) W is after = rw (is, after) (shut_none W)
  shut_walks (Ok (c₁, then, Some m)) W is after = rw is (shut_some W after)

  -- the else of an answer has a row
  pub shuttable_of : (x : Lowered) {els : OptBlock} {t : Body} → Walks defined c current els t₀ v₀ x t v → Shuttable x
  shuttable_of (Err (err, p)) W = tt
  shuttable_of (Ok (c₁, then, None)) W = tt
  shuttable_of (Ok (c₁, then, Some b)) W = le_trans W.onward.begins.else (W.leaves P).0.0.block_count_lem
