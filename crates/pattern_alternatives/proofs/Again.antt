-- An alternative that was tested is walked again beyond Check, and keeps the else of its test. Assumes nothing.
use Rattle.std.specs.Prelude.{None, Ok, Err}
use mathlib.Core.Path.{◌≡◌, sym, subst}
use mathlib.Core.Bool.{false}
use mathlib.Core.List.{List}
use Prim.Native.Nat.{ℕ}
use Rattle.place.specs.declared.Place.{Place}
use Rattle.mir.specs.declared.BasicBlockId.{BasicBlockId}
use Rattle.mir.specs.declared.Counts.{Counts}
use Rattle.lower_spec.specs.Results.{OptBlock}
use Rattle.pattern_matching.specs.declared.MatchingMode.{MatchingMode}
use Rattle.pattern_matching.specs.Modes.{is_check}
use Rattle.pattern_matching.specs.Walking.{Lowering}
use Rattle.pattern_matching.specs.Patterns.{alternative}
use Rattle.pattern_walk_spec.specs.Results.{Lowered}
use Rattle.pattern_walk_spec.specs.Answers.{Walks}
use Rattle.pattern_walk_laws.proofs.Trying.{alternative_again_stops, alternative_again}
use Rattle.pattern_alternatives.specs.Alternatives.{with_else}
use Rattle.state.specs.State.{Body}
use Rattle.state.specs.Promises.{Ready}

module _ (alt : Lowering) (mode : MatchingMode) (c : Counts) (current : BasicBlockId) (place : Place) (t : Body) (v : List ℕ) (P : Ready t c) {c₁ : Counts} {then : BasicBlockId} {other : OptBlock} {t₁ : Body} {v₁ : List ℕ} (W : Walks (λ ctx. alt MatchingMode.Check ctx current None place) c current None t v (Ok (c₁, then, other)) t₁ v₁) where
  -- what it promises
  abbrev Tried : Lowered → Body → List ℕ → Type 0
  Tried = Walks (λ ctx. alternative alt mode ctx current place) c current None t v

  by_answer : (r : Lowered) {t₂ : Body} {v₂ : List ℕ} → is_check mode ≡ false → Walks (λ ctx. alt mode ctx then None place) c₁ then None t₁ v₁ r t₂ v₂ → Tried (with_else r other) t₂ v₂
  unfolding with_else
  by_answer (Err (x, at)) e S = alternative_again_stops alt mode c current place t v P W e S
  by_answer (Ok (c₂, last, els)) e S = alternative_again alt mode c current place t v P W e S

  -- `with_else`
  pub again_ends : {r r' : Lowered} {t₂ : Body} {v₂ : List ℕ} → is_check mode ≡ false → Walks (λ ctx. alt mode ctx then None place) c₁ then None t₁ v₁ r t₂ v₂ → r' ≡ with_else r other → Tried r' t₂ v₂
  again_ends {r = r} {t₂ = t₂} {v₂ = v₂} e S is = subst (λ (x : Lowered). Tried x t₂ v₂) (sym is) (by_answer r e S)
