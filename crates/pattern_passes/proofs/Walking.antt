-- `pattern_match` walks the pattern in Check, and then in Bind. Assumes nothing.
use Rattle.std.specs.Prelude.{Ok, Err}
use mathlib.Core.List.{List}
use Prim.Native.Nat.{ℕ}
use Rattle.refusals.specs.declared.MirLowerError.{MirLowerError}
use Rattle.image.specs.declared.PatId.{PatId}
use Rattle.image.specs.Tree.{Pat}
use Rattle.place.specs.declared.Place.{Place}
use Rattle.mir.specs.declared.BasicBlockId.{BasicBlockId}
use Rattle.mir.specs.declared.Counts.{Counts}
use Rattle.lower_spec.specs.Results.{OptBlock}
use Rattle.pattern_matching.specs.declared.MatchingMode.{MatchingMode}
use Rattle.pattern_matching.specs.Walking.{Ctx, Out, Walk}
use Rattle.pattern_matching.specs.Patterns.{pattern_match_inner, pattern_match}
use Rattle.pattern_walk_spec.specs.Results.{Lowered}
use Rattle.pattern_walk_spec.specs.Answers.{Walks}
use Rattle.pattern_walk_spec.proofs.Sequences.{walks_stops, walks_then}
use Rattle.state.specs.State.{Body}
use Rattle.state.specs.Promises.{Ready}

module _ (image bindings : List ℕ) (pat : Pat) (place : Place) where
  -- the walk in a mode
  abbrev pub in_mode : MatchingMode → BasicBlockId → OptBlock → Ctx → Walk Out
  in_mode mode at other ctx = pattern_match_inner image bindings pat mode ctx at other place

  -- the walk in Bind, from where the walk in Check goes on
  abbrev pub binds : Out → Walk Out
  binds r = in_mode MatchingMode.Bind r.then r.else r.ctx

  module _ {c : Counts} {current : BasicBlockId} {els : OptBlock} {t₀ : Body} {v₀ : List ℕ} where
    -- the walk in Check refuses
    pub check_refuses : {e : MirLowerError} {q : PatId} {t : Body} {v : List ℕ} → Walks (in_mode MatchingMode.Check current els) c current els t₀ v₀ (Err (e, q)) t v →
        Walks (λ ctx. pattern_match image bindings pat ctx current els place) c current els t₀ v₀ (Err (e, q)) t v
    unfolding pattern_match
    check_refuses W = walks_stops binds W

    -- the walk in Bind follows it
    pub bind_follows : {c₁ : Counts} {then : BasicBlockId} {els₁ : OptBlock} {t : Body} {v : List ℕ} {r : Lowered} {t₂ : Body} {v₂ : List ℕ} → Ready t₀ c →
        Walks (in_mode MatchingMode.Check current els) c current els t₀ v₀ (Ok (c₁, then, els₁)) t v → Walks (in_mode MatchingMode.Bind then els₁) c₁ then els₁ t v r t₂ v₂ →
        Walks (λ ctx. pattern_match image bindings pat ctx current els place) c current els t₀ v₀ r t₂ v₂
    unfolding pattern_match
    bind_follows P W S = walks_then W P binds S
