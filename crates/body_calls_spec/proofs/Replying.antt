-- The answers of a call: one that comes to no step, one whose step is accepted, and one whose step is refused. Assumes nothing.
use Rattle.std.specs.Prelude.{Result, Ok, Err}
use Prim.Native.Nat.{ℕ}
use mathlib.Core.Path.{◌≡◌, sym, ap, subst, ◌∙◌}
use mathlib.Core.Bool.{Bool, true, false, ◌&&◌}
use mathlib.Core.Option.{none, some}
use mathlib.Core.List.{List}
use Rattle.refusals.specs.declared.MirLowerError.{MirLowerError}
use Rattle.refusals.specs.Refusals.{breaks_a_rule, names_nothing, refusal_at}
use Rattle.image.specs.declared.Tables.{Tables}
use Rattle.image.specs.Valid.{valid}
use Rattle.image.proofs.Bools.{and_true, and_false_left, and_false_right}
use Rattle.mir.specs.declared.Counts.{Counts}
use Rattle.state.specs.State.{Body, decode, encode, counts_of}
use Rattle.state.specs.Promises.{Ready}
use Rattle.calls_spec.specs.Calls.{Called, bad_image, bad_call, refused_at, accepted}
use Rattle.calls_spec.specs.Promises.{Way, Gives}
use Rattle.calls_spec.proofs.Calling.{no_rules, no_names_lem, steps, gives_bad_image, gives_bad_call, gives_refused, gives_accepted}
use Rattle.body_calls_spec.specs.Calls.{body_taken, body_call, opened_of}
use Rattle.body_calls_spec.specs.declared.Unopened.{Unopened}
use Rattle.body_calls_spec.specs.Sizes.{Sized}
use Rattle.body_calls_spec.proofs.Clearing.{clears, held, counted}
use Rattle.body_calls_spec.proofs.Prologue.{not_valid, not_taken, looked}

-- a call whose own numbers are `names`, and whose step gives `step`
module _ {A R : Type 0} {way : Way A R} {b : Body} {c : Counts} (image : List ℕ) (names : Bool) (step : Called A) where
  -- what is promised of one that comes to this
  by : {given : Called A} {r : R} {b₁ : Body} → given ≡ body_call image b c names step → Gives way b c given r b₁ →
      Gives way b c (body_call image b c names step) r b₁
  by {r = r} {b₁ = b₁} e G = subst (λ x. Gives way b c x r b₁) e G

  -- the image breaks a rule
  bad_image_lem : (Err Unopened.BadImage) ≡ opened_of image b c → way.numbers (way.answer c bad_image) ≡ some breaks_a_rule →
      Gives way b c (body_call image b c names step) (way.answer c bad_image) b
  bad_image_lem e h = by (no_rules (valid image) (body_taken image b c && names) step (not_valid image b c e)) (gives_bad_image way h)

  -- the body names nothing
  bad_body : (Err Unopened.BadCall) ≡ opened_of image b c → way.numbers (way.answer c bad_call) ≡ some names_nothing →
      Gives way b c (body_call image b c names step) (way.answer c bad_call) b
  bad_body e h = let n = not_taken image b c e in by (no_names_lem (valid image) (body_taken image b c && names) step n.0 (and_false_left (body_taken image b c) names n.1)) (gives_bad_call way h)

  -- a number of the call names nothing
  pub bad_number : {tables : Tables} → Ok tables ≡ opened_of image b c → names ≡ false → way.numbers (way.answer c bad_call) ≡ some names_nothing →
      Gives way b c (body_call image b c names step) (way.answer c bad_call) b
  bad_number e n h =
      let T = looked image b c e in
      by (no_names_lem (valid image) (body_taken image b c && names) step T.valid_image (and_false_right (body_taken image b c) names n)) (gives_bad_call way h)

  -- the step is taken
  pub goes_on_lem : {tables : Tables} {r : R} {b₁ : Body} → Ok tables ≡ opened_of image b c → names ≡ true → Gives way b c step r b₁ →
      Gives way b c (body_call image b c names step) r b₁
  goes_on_lem e n G = let T = looked image b c e in by (steps (valid image) (body_taken image b c && names) step T.valid_image (and_true (body_taken image b c) names T.body n)) G

-- a call that comes to no step, since image or body is not taken: its error is `of` what was not
module _ {A T E : Type 0} {way : Way A (Result T E)} {b : Body} {c : Counts} (image : List ℕ) (names : Bool) (step : Called A) (of : Unopened → E) where
  pub not_opened : (why : Unopened) → Err why ≡ opened_of image b c → way.answer c bad_image ≡ Err (of Unopened.BadImage) → way.answer c bad_call ≡ Err (of Unopened.BadCall) →
      way.numbers (Err (of Unopened.BadImage)) ≡ some breaks_a_rule → way.numbers (Err (of Unopened.BadCall)) ≡ some names_nothing →
      Gives way b c (body_call image b c names step) (Err (of why)) b
  not_opened Unopened.BadImage e image_says call_says image_number call_number =
      subst (λ r. Gives way b c (body_call image b c names step) r b) image_says (bad_image_lem image names step e (ap way.numbers image_says ∙ image_number))
  not_opened Unopened.BadCall e image_says call_says image_number call_number =
      subst (λ r. Gives way b c (body_call image b c names step) r b) call_says (bad_body image names step e (ap way.numbers call_says ∙ call_number))

-- the tables b were found with the counts c, and b₂ are those at exit
module _ {A R : Type 0} {way : Way A R} {b : Body} {c : Counts} {reply : R} {b₂ : Body} where
  -- a step is accepted, and leaves tables that are ready
  pub accepts : (c' : Counts) (a : A) {d : Called A} → accepted a ≡ d → decode b₂ c' ≡ way.state_of a → Ready b₂ c' → reply ≡ way.answer c (accepted a) →
      way.numbers reply ≡ none → Gives way b c d reply b₂
  accepts c' a says state ready is numbers =
      let same : counts_of (way.state_of a) ≡ c' = ap counts_of (sym state) ∙ counted b₂ c' ready in
      subst (λ x. Gives way b c x reply b₂) says
      (gives_accepted way a is numbers (held b₂ c' ready ∙ ap encode state) (record { reads = ap (decode b₂) same ∙ state; ready = subst (λ k. Ready b₂ k) (sym same) ready }))

  -- a step is refused, and leaves what was found
  pub refuses : (e : MirLowerError) (p : ℕ) {d : Called A} → Sized b c → refused_at e p ≡ d → b₂ ≡ encode (decode b c) → reply ≡ way.answer c (refused_at e p) →
      way.numbers reply ≡ some (refusal_at e p) → Gives way b c d reply b₂
  refuses e p S says tables is numbers =
      let C = clears S tables in
      subst (λ x. Gives way b c x reply b₂) says
      (gives_refused way e p is numbers tables (record { reads = C.same; ready = C.ready }))
