-- Parts of a walk follow one another: what the first promises, and what the second does from there. Assumes nothing.
use Rattle.std.specs.Prelude.{Ok, Err}
use mathlib.Core.Path.{◌≡◌, sym, ap, ◌∙◌}
use mathlib.Core.List.{List, []}
use Prim.Native.Nat.{ℕ}
use native.Mathlib.Nat.{le_trans}
use lib.ListN.{get_or}
use lib.Seq.{get_or-take}
use Rattle.refusals.specs.declared.MirLowerError.{MirLowerError}
use Rattle.image.specs.declared.PatId.{PatId}
use Rattle.place.specs.declared.Place.{Place}
use Rattle.mir.specs.declared.BasicBlockId.{BasicBlockId}
use Rattle.mir.specs.declared.Counts.{Counts}
use Rattle.state.specs.Promises.{Ready, Grown}
use Rattle.state.proofs.Answering.{kept_trans}
use Rattle.lower_spec.specs.Results.{OptBlock}
use Rattle.pattern_matching.specs.Walking.{Ctx, Out, Walk, refused, next, out}
use Rattle.pattern_walk_spec.specs.Results.{Lowered}
use Rattle.pattern_walk_spec.specs.Answers.{Begins, Placed, lowered_counts, Leaves, Lowers, Walks}
use Rattle.pattern_walk_spec.proofs.Following.{goes_on_lem, stays, refuses, answers_by, next_then, next_stops, onward_refl, onward_by}
use Rattle.state.specs.State.{Body}

module _ {defined : Ctx → Walk Out} {c : Counts} {current : BasicBlockId} {els : OptBlock} {t₀ : Body} where
  -- a part that does nothing
  pub lowers_skips : ((ctx : Ctx) → out ctx current els ≡ defined ctx) → Begins c current els → Lowers defined c current els t₀ (Ok (c, current, els)) t₀
  lowers_skips same h = record { answers = λ visits R. answers_by (same _) (stays _ R); onward = onward_refl h }

  -- a part that refuses before anything is done
  pub lowers_refuses : {e : MirLowerError} {p : PatId} → ((ctx : Ctx) → refused e p.0 ≡ defined ctx) → Lowers defined c current els t₀ (Err (e, p)) t₀
  lowers_refuses same = record { answers = λ visits R. refuses (same _); onward = tt }

module _ {defined : Ctx → Walk Out} {c : Counts} {current : BasicBlockId} {els : OptBlock} {t₀ t : Body} where
  -- what a step that visits no pattern leaves in the tables
  pub lowers_leaves : {r : Lowered} → Lowers defined c current els t₀ r t → Ready t₀ c → Leaves c current t₀ r t
  lowers_leaves L P = let F = L.answers [] P in (F.goes, F.kept)

  -- where it goes on, the next part may begin
  pub lowers_goes : {c₁ : Counts} {then : BasicBlockId} {els₁ : OptBlock} → Lowers defined c current els t₀ (Ok (c₁, then, els₁)) t → Ready t₀ c →
      Ready t c₁ × Begins c₁ then els₁
  lowers_goes L P = ((lowers_leaves L P).0.0, L.onward.begins)

  -- it leaves the visits' table, which holds v
  pub lowers_walks : {r : Lowered} (v : List ℕ) → Lowers defined c current els t₀ r t → Walks defined c current els t₀ v r t v
  lowers_walks v L =
      record {
        answers = λ visits R H. record { visits' = visits; holds = H; answers = L.answers visits R };
        leaves = lowers_leaves L;
        onward = L.onward;
      }

  -- the same by another definition
  pub lowers_by : {defined₁ : Ctx → Walk Out} {r : Lowered} → ((ctx : Ctx) → defined ctx ≡ defined₁ ctx) → Lowers defined c current els t₀ r t → Lowers defined₁ c current els t₀ r t
  lowers_by same L = record { answers = λ visits R. answers_by (same _) (L.answers visits R); onward = L.onward }

  pub walks_by : {defined₁ : Ctx → Walk Out} {r : Lowered} {v₀ v : List ℕ} → ((ctx : Ctx) → defined ctx ≡ defined₁ ctx) → Walks defined c current els t₀ v₀ r t v → Walks defined₁ c current els t₀ v₀ r t v
  walks_by same W =
      record {
        answers = λ visits R H. let F = W.answers visits R H in record { visits' = F.visits'; holds = F.holds; answers = answers_by (same _) F.answers };
        leaves = W.leaves;
        onward = W.onward;
      }

  -- a first part that refuses
  pub lowers_stops : {e : MirLowerError} {p : PatId} (k : Out → Walk Out) → Lowers defined c current els t₀ (Err (e, p)) t →
      Lowers (λ ctx. next (defined ctx) k) c current els t₀ (Err (e, p)) t
  lowers_stops k L = record { answers = λ visits R. next_stops k (L.answers visits R); onward = tt }

  pub walks_stops : {e : MirLowerError} {p : PatId} {v₀ v : List ℕ} (k : Out → Walk Out) → Walks defined c current els t₀ v₀ (Err (e, p)) t v →
      Walks (λ ctx. next (defined ctx) k) c current els t₀ v₀ (Err (e, p)) t v
  walks_stops k W =
      record {
        answers = λ visits R H. let F = W.answers visits R H in record { visits' = F.visits'; holds = F.holds; answers = next_stops k F.answers };
        leaves = W.leaves;
        onward = tt;
      }

  module _ {c₁ : Counts} {then : BasicBlockId} {els₁ : OptBlock} {v₀ v : List ℕ} (W : Walks defined c current els t₀ v₀ (Ok (c₁, then, els₁)) t v) (P : Ready t₀ c) where
    -- where a part goes on, the tables are primed, nothing was taken away, and a place is where it was
    pub ready_after : Ready t c₁
    ready_after = (W.leaves P).0.0

    pub grown_after : Grown c c₁
    grown_after = (W.leaves P).0.1

    pub placed_after : {image : List ℕ} {place : Place} → Placed image t₀ c place → Placed image t c₁ place
    placed_after {image = image} {place = place} h =
        let root = place.local.0 in
        let same : get_or t₀.locals root 0 ≡ get_or t.locals root 0 =
        sym (get_or-take c.locals t₀.locals root 0 h.root)
        ∙ sym (ap (λ (l : List ℕ). get_or l root 0) (W.leaves P).1.locals)
        ∙ get_or-take c.locals t.locals root 0 h.root
        in
        record { root = le_trans h.root grown_after.locals; named = rw same at h.named; within = h.within }

    -- and the next part may begin
    pub walks_goes : Ready t c₁ × Begins c₁ then els₁
    walks_goes = (ready_after, W.onward.begins)

    -- a second part from there
    pub walks_then : {r : Lowered} {t₂ : Body} {v₂ : List ℕ} (k : Out → Walk Out) → Walks (λ ctx. k (record { ctx = ctx; then = then; else = els₁ })) c₁ then els₁ t v r t₂ v₂ →
        Walks (λ ctx. next (defined ctx) k) c current els t₀ v₀ r t₂ v₂
    walks_then {r = r} {t₂ = t₂} k S =
        record {
          answers = λ visits R H.
              let F = W.answers visits R H in
              let G = S.answers F.visits' F.answers.goes.0 F.holds in
              record { visits' = G.visits'; holds = G.holds; answers = next_then k F.answers W.onward.own G.answers };
          leaves = λ Q. (goes_on_lem t₂ (lowered_counts r) (W.leaves Q).0.1 (S.leaves (W.leaves Q).0.0).0, kept_trans (W.leaves Q).1 (W.leaves Q).0.1 W.onward.own (S.leaves (W.leaves Q).0.0).1);
          onward = onward_by r grown_after W.onward S.onward;
        }

  -- the same where neither part visits a pattern
  pub lowers_then : {c₁ : Counts} {then : BasicBlockId} {els₁ : OptBlock} {r : Lowered} {t₂ : Body} (k : Out → Walk Out) → Ready t₀ c →
      Lowers defined c current els t₀ (Ok (c₁, then, els₁)) t → Lowers (λ ctx. k (record { ctx = ctx; then = then; else = els₁ })) c₁ then els₁ t r t₂ →
      Lowers (λ ctx. next (defined ctx) k) c current els t₀ r t₂
  lowers_then {r = r} k P L S =
      record {
        answers = λ visits R. let F = L.answers visits R in next_then k F L.onward.own (S.answers visits F.goes.0);
        onward = onward_by r (lowers_leaves L P).0.1 L.onward S.onward;
      }
