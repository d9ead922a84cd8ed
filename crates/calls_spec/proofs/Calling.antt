-- The ways through a call: a rule is broken, something names nothing, or its step is taken. Assumes nothing.
use Prim.Native.Nat.{ℕ}
use mathlib.Core.Path.{◌≡◌, refl, ap}
use mathlib.Core.Bool.{Bool, true, false}
use mathlib.Core.Option.{none, some}
use native.Mathlib.Omega.{arith}
use Rattle.refusals.specs.declared.MirLowerError.{MirLowerError}
use Rattle.refusals.specs.Refusals.{breaks_a_rule, names_nothing, refusal_at, Result, done, stopped}
use Rattle.mir.specs.declared.Counts.{Counts}
use Rattle.state.specs.State.{Body, decode, encode, counts_of}
use Rattle.calls_spec.specs.Calls.{Called, bad_image, bad_call, refused_at, accepted, call, by_step}
use Rattle.calls_spec.specs.Promises.{Way, Holds, Gives}

-- where a call comes to
module _ {A : Type 0} (rules names : Bool) (step : Called A) where
  pub no_rules : rules ≡ false → bad_image ≡ call rules names step
  unfolding call
  no_rules e = rw e

  pub no_names_lem : rules ≡ true → names ≡ false → bad_call ≡ call rules names step
  unfolding call
  no_names_lem e n = rw (e, n)

  pub steps : rules ≡ true → names ≡ true → step ≡ call rules names step
  unfolding call
  steps e n = rw (e, n)

-- numbers 1 and 2 write nothing
module _ {A R : Type 0} (way : Way A R) {b : Body} {c : Counts} where
  pub gives_bad_image : way.numbers (way.answer c bad_image) ≡ some breaks_a_rule → Gives way b c bad_image (way.answer c bad_image) b
  gives_bad_image h = record { reply = refl; refusal = h; tables = refl; holds = tt }

  pub gives_bad_call : way.numbers (way.answer c bad_call) ≡ some names_nothing → Gives way b c bad_call (way.answer c bad_call) b
  gives_bad_call h = record { reply = refl; refusal = h; tables = refl; holds = tt }

  -- a refused step leaves what was found, and zeros above
  pub gives_refused : (e : MirLowerError) (p : ℕ) {r : R} {b₂ : Body} → r ≡ way.answer c (refused_at e p) → way.numbers r ≡ some (refusal_at e p) → b₂ ≡ encode (decode b c) →
      Holds b₂ c (decode b c) → Gives way b c (refused_at e p) r b₂
  gives_refused e p is numbers tables held = record { reply = is; refusal = numbers; tables = tables; holds = held }

  -- an accepted one leaves its state, and zeros above
  pub gives_accepted : (a : A) {r : R} {b₂ : Body} → r ≡ way.answer c (accepted a) → way.numbers r ≡ none → b₂ ≡ encode (way.state_of a) →
      Holds b₂ (counts_of (way.state_of a)) (way.state_of a) → Gives way b c (accepted a) r b₂
  gives_accepted a is numbers tables held = record { reply = is; refusal = numbers; tables = tables; holds = held }

-- a call that is accepted: the rules are kept, all that is handed in names something, and its step is accepted
pub came : {A : Type 0} (rules names : Bool) (step : Called A) (a : A) → call rules names step ≡ accepted a → (rules ≡ true) × (names ≡ true) × (step ≡ accepted a)
unfolding call
came true true step a e = (refl, refl, e)
came true false step a e = absurd (let z : ◌≡◌ {A = ℕ} 0 1 = cc in omega arith)
came false names step a e = absurd (let z : ◌≡◌ {A = ℕ} 0 1 = cc in omega arith)

-- a step about no pattern that is accepted
pub step_ok : {A : Type 0} (r : Result A) (a : A) → by_step r ≡ accepted a → r ≡ done a
step_ok {A} (done x) a e = let same : x ≡ a = cc in ap (λ (y : A). done y) same
step_ok (stopped e) a q = absurd (let z : ◌≡◌ {A = ℕ} 0 1 = cc in omega arith)
