-- A walk in Check tests, and `compare` is cut where the code is cut. Assumes nothing.
use Rattle.std.specs.Prelude.{Some}
use mathlib.Core.Path.{◌≡◌, refl, ◌∙◌}
use mathlib.Core.Bool.{true, false, true≢false, false≢true}
use mathlib.Core.List.{List}
use Prim.Native.Nat.{ℕ}
use Rattle.refusals.specs.Refusals.{done, and_then}
use Rattle.place.specs.declared.Place.{Place}
use Rattle.mir.specs.declared.BasicBlockId.{BasicBlockId}
use Rattle.mir.specs.declared.rvalues.BinOp.{BinOp}
use Rattle.mir.specs.declared.rvalues.Left.{Left}
use Rattle.mir.specs.Rvalues.{binary_row}
use Rattle.state.specs.State.{State}
use Rattle.state.specs.Steps.{next_local, try_statement}
use Rattle.lower_spec.specs.Temps.{temp}
use Rattle.pattern_matching.specs.declared.MatchingMode.{MatchingMode}
use Rattle.pattern_matching.specs.Modes.{is_check}
use Rattle.pattern_matching.specs.Walking.{Ctx, Out, Walk, step, out, with_state, in_check}
use Rattle.pattern_matching.specs.Tests.{bool_word, if_true, compare}
use Rattle.pattern_walk_spec.proofs.Following.{step_two}
use Rattle.pattern_switching.specs.Switching.{compare_step}

-- a walk in Check tests, and another leaves it
pub in_check_lem : (mode : MatchingMode) (test skip : Walk Out) → is_check mode ≡ true → test ≡ in_check mode test skip
unfolding is_check
in_check_lem MatchingMode.Check test skip e = refl
in_check_lem MatchingMode.Bind test skip e = absurd (false≢true e)
in_check_lem MatchingMode.Assign test skip e = absurd (false≢true e)

pub not_in_check : (mode : MatchingMode) (test skip : Walk Out) → is_check mode ≡ false → skip ≡ in_check mode test skip
unfolding is_check
not_in_check MatchingMode.Check test skip e = absurd (true≢false e)
not_in_check MatchingMode.Bind test skip e = refl
not_in_check MatchingMode.Assign test skip e = refl

-- `compare` is a step on the state, and then the end
pub compare_cut : (image : List ℕ) (p : ℕ) (op : BinOp) (left : Left) (place : Place) (ctx : Ctx) (st : State) (current on other : BasicBlockId) →
    step p (compare_step image op left place st current on other) (λ st'. out (with_state ctx st') on (Some other)) ≡ compare image p op left place ctx st current on other
unfolding compare compare_step
compare_cut image p op left place ctx st current on other =
    step_two p (temp image st bool_word current) (λ st₁. and_then (try_statement st₁ (binary_row current (next_local st) op left place)) (λ st₂. done (if_true st₂ current (next_local st) on other))) (λ st'. out (with_state ctx st') on (Some other))
    ∙ (λ i. step p (temp image st bool_word current) (λ st₁. step_two p (try_statement st₁ (binary_row current (next_local st) op left place)) (λ st₂. done (if_true st₂ current (next_local st) on other)) (λ st'. out (with_state ctx st') on (Some other)) i))
