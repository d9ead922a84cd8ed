-- `alt`: an alternative is tested, and beyond Check walked again; a law for each way through it. Assumes nothing.
use Rattle.std.specs.Prelude.{None, Ok, Err}
use mathlib.Core.Path.{◌≡◌, refl, sym, ap}
use mathlib.Core.Bool.{true, false, true≢false, false≢true}
use mathlib.Core.List.{List}
use Prim.Native.Nat.{ℕ}
use Rattle.refusals.specs.declared.MirLowerError.{MirLowerError}
use Rattle.image.specs.declared.PatId.{PatId}
use Rattle.place.specs.declared.Place.{Place}
use Rattle.mir.specs.declared.BasicBlockId.{BasicBlockId}
use Rattle.mir.specs.declared.Counts.{Counts}
use Rattle.lower_spec.specs.Results.{OptBlock}
use Rattle.pattern_matching.specs.declared.MatchingMode.{MatchingMode}
use Rattle.pattern_matching.specs.Modes.{is_check}
use Rattle.pattern_matching.specs.Walking.{Ctx, Out, Walk, ok, Lowering, next, out, in_check}
use Rattle.pattern_matching.specs.Patterns.{alternative}
use Rattle.pattern_walk_spec.specs.Results.{Lowered}
use Rattle.pattern_walk_spec.specs.Answers.{Begins, Walks}
use Rattle.pattern_walk_spec.proofs.Following.{onward_grown}
use Rattle.pattern_walk_spec.proofs.Sequences.{walks_by, walks_stops, walks_then, ready_after, grown_after}
use Rattle.pattern_walk_laws.proofs.Looking.{walks_skips}
use Rattle.state.specs.State.{Body}
use Rattle.state.specs.Promises.{Ready}

-- in Check
pub in_check_lem : (mode : MatchingMode) (test skip : Walk Out) → is_check mode ≡ true → in_check mode test skip ≡ test
unfolding is_check
in_check_lem MatchingMode.Check test skip e = refl
in_check_lem MatchingMode.Bind test skip e = absurd (false≢true e)
in_check_lem MatchingMode.Assign test skip e = absurd (false≢true e)

-- and beyond it
beyond_check : (mode : MatchingMode) (test skip : Walk Out) → is_check mode ≡ false → in_check mode test skip ≡ skip
unfolding is_check
beyond_check MatchingMode.Check test skip e = absurd (true≢false e)
beyond_check MatchingMode.Bind test skip e = refl
beyond_check MatchingMode.Assign test skip e = refl

-- a part without an else, whose place another else takes
with_else_lem : {defined : Ctx → Walk Out} {c c₁ : Counts} {current then : BasicBlockId} {x : OptBlock} {t t₁ : Body} {v v₁ : List ℕ} (other : OptBlock) → Begins c current other → Ready t c →
    Walks defined c current None t v (Ok (c₁, then, x)) t₁ v₁ →
    Walks (λ ctx. next (defined ctx) (λ b. out b.ctx b.then other)) c current other t v (Ok (c₁, then, other)) t₁ v₁
with_else_lem other B P W = record {
  answers = λ visits R H.
      let F = W.answers visits R H in
      record {
        visits' = F.visits';
        holds = F.holds;
        answers = record { says = ap (λ (r : Walk Out). next r (λ b. out b.ctx b.then other)) F.answers.says; goes = F.answers.goes; kept = F.answers.kept };
      };
  leaves = W.leaves;
  onward =
      let same = onward_grown (grown_after W P) B in
      record { own = W.onward.own; own_else = same.own_else; begins = record { start = W.onward.begins.start; else = same.begins.else } };
}

module _ (alt : Lowering) (mode : MatchingMode) (c : Counts) (current : BasicBlockId) (place : Place) (t : Body) (v : List ℕ) where
  -- what it promises
  abbrev Tried : Lowered → Body → List ℕ → Type 0
  Tried = Walks (λ ctx. alternative alt mode ctx current place) c current None t v

  -- behind the test
  abbrev behind_check : Out → Walk Out
  behind_check r = in_check mode (ok r) (next (alt mode r.ctx r.then None place) (λ b. out b.ctx b.then r.else))

  -- the test is refused
  pub alternative_stops : {x : MirLowerError} {at : PatId} {t₁ : Body} {v₁ : List ℕ} →
      Walks (λ ctx. alt MatchingMode.Check ctx current None place) c current None t v (Err (x, at)) t₁ v₁ → Tried (Err (x, at)) t₁ v₁
  alternative_stops W = walks_stops behind_check W

  module _ (P : Ready t c) {c₁ : Counts} {then : BasicBlockId} {other : OptBlock} {t₁ : Body} {v₁ : List ℕ}
      (W : Walks (λ ctx. alt MatchingMode.Check ctx current None place) c current None t v (Ok (c₁, then, other)) t₁ v₁) where
    -- in Check there is nothing more to do
    pub alternative_tested : is_check mode ≡ true → Tried (Ok (c₁, then, other)) t₁ v₁
    alternative_tested e = walks_then W P behind_check (walks_skips (λ ctx. sym (in_check_lem mode _ _ e)) W.onward.begins)

    -- it is walked again, and refused
    pub alternative_again_stops : {x : MirLowerError} {at : PatId} {t₂ : Body} {v₂ : List ℕ} → is_check mode ≡ false →
        Walks (λ ctx. alt mode ctx then None place) c₁ then None t₁ v₁ (Err (x, at)) t₂ v₂ → Tried (Err (x, at)) t₂ v₂
    alternative_again_stops e S =
        let B = walks_stops (λ b. out b.ctx b.then other) S in
        walks_then W P behind_check (walks_by (λ ctx. sym (beyond_check mode _ _ e)) (record { answers = B.answers; leaves = B.leaves; onward = tt }))

    -- and goes on, with the else of the test
    pub alternative_again : {c₂ : Counts} {last : BasicBlockId} {x : OptBlock} {t₂ : Body} {v₂ : List ℕ} → is_check mode ≡ false →
        Walks (λ ctx. alt mode ctx then None place) c₁ then None t₁ v₁ (Ok (c₂, last, x)) t₂ v₂ → Tried (Ok (c₂, last, other)) t₂ v₂
    alternative_again e S = walks_then W P behind_check (walks_by (λ ctx. sym (beyond_check mode _ _ e)) (with_else_lem other W.onward.begins (ready_after W P) S))
