-- Before a call's own step: what `open` and the test of what the call is handed answer. Assumes nothing.
use Rattle.std.specs.Prelude.{Ok, Err}
use Prim.Native.Nat.{ℕ}
use mathlib.Core.Path.{◌≡◌, refl, sym, ap, ◌∙◌}
use mathlib.Core.Bool.{Bool, true, false, ◌&&◌}
use mathlib.Core.List.{List}
use Rattle.image.specs.declared.Tables.{Tables}
use Rattle.image.specs.Tables.{Whole}
use Rattle.image.specs.Valid.{valid}
use Rattle.image.proofs.Bools.{and_true, and_false_left, and_false_right}
use Rattle.place.specs.declared.Place.{Place}
use Rattle.mir.specs.declared.BasicBlockId.{BasicBlockId}
use Rattle.mir.specs.declared.Counts.{Counts}
use Rattle.state.specs.State.{Body}
use Rattle.lower_spec.specs.Results.{OptBlock}
use Rattle.calls_spec.specs.Calls.{Called, bad_call}
use Rattle.calls_spec.proofs.Calling.{no_rules, no_names_lem, steps, gives_bad_image, gives_bad_call}
use Rattle.body_calls_spec.specs.Calls.{body_taken, body_call, opened_of}
use Rattle.body_calls_spec.proofs.Prologue.{not_valid, not_taken, looked}
use Rattle.body_calls_spec.specs.Unopened.{pattern_call_error}
use Rattle.pattern_matching.specs.Walking.{Out}
use Rattle.pattern_walk_spec.specs.Calls.{Visits}
use Rattle.handed.specs.Handed.{Named, match_holds, self_holds}
use Rattle.body_handed.specs.Naming.{named_by}
use Rattle.pattern_calls_spec.specs.Results.{MatchCall}
use Rattle.pattern_calls_spec.specs.Calls.{named_in, match_way, match_ctx}
use Rattle.pattern_calls_spec.proofs.Stepping.{visits_by}
use Rattle.body_calls_spec.specs.declared.Unopened.{Unopened}
use Rattle.body_calls_spec.specs.declared.PatternCallError.{PatternCallError}

-- what the tables have is what the image has
named_same : {image : List ℕ} {tables : Tables} → Whole image tables → named_by tables ≡ named_in image
named_same W = λ i. record { variants = W.variant_count_lem i; patterns = W.pattern_count_lem i; bindings = W.binding_count_lem i }

-- the test of what the call is handed, by the tables
pub handed_by : {image : List ℕ} {tables : Tables} (bindings blocks : List ℕ) (c : Counts) (p : ℕ) (current : BasicBlockId) (els : OptBlock) (place : Place) {r : Bool} →
    Whole image tables → r ≡ match_holds (named_by tables) bindings blocks c p current els place → match_holds (named_in image) bindings blocks c p current els place ≡ r
handed_by bindings blocks c p current els place W is =
    sym (is ∙ ap (λ (n : Named). match_holds n bindings blocks c p current els place) (named_same W))

pub self_by : {image : List ℕ} {tables : Tables} (bindings blocks : List ℕ) (c : Counts) (binding : ℕ) (current : BasicBlockId) (l : ℕ) {r : Bool} →
    Whole image tables → r ≡ self_holds (named_by tables) bindings blocks c binding current l → self_holds (named_in image) bindings blocks c binding current l ≡ r
self_by bindings blocks c binding current l W is =
    sym (is ∙ ap (λ (n : Named). self_holds n bindings blocks c binding current l) (named_same W))

-- A call that visits patterns: `names` says whether what it is handed names something, and `step` is what its walk gives. Numbers 1 and 2 write nothing in the visits' table v.
module _ (image : List ℕ) (b : Body) (c : Counts) (names : Bool) (step : Called Out) {v : List ℕ} where
  visits_bad_image : (Err Unopened.BadImage) ≡ opened_of image b c → Visits match_way match_ctx b v c (body_call image b c names step) (Err PatternCallError.BadImage) b v
  visits_bad_image e =
      visits_by (no_rules (valid image) (body_taken image b c && names) step (not_valid image b c e)) (record { gives = gives_bad_image match_way refl; visits = refl })

  -- what refuses a call by its body or its numbers
  not_called : bad_call ≡ body_call image b c names step → Visits match_way match_ctx b v c (body_call image b c names step) (Err PatternCallError.BadCall) b v
  not_called is = visits_by is (record { gives = gives_bad_call match_way refl; visits = refl })

  visits_bad_body : (Err Unopened.BadCall) ≡ opened_of image b c → Visits match_way match_ctx b v c (body_call image b c names step) (Err PatternCallError.BadCall) b v
  visits_bad_body e =
      let n = not_taken image b c e in
      not_called (no_names_lem (valid image) (body_taken image b c && names) step n.0 (and_false_left (body_taken image b c) names n.1))

  pub visits_not_opened : (why : Unopened) → Err why ≡ opened_of image b c → Visits match_way match_ctx b v c (body_call image b c names step) (Err (pattern_call_error why)) b v
  visits_not_opened Unopened.BadImage e = visits_bad_image e
  visits_not_opened Unopened.BadCall e = visits_bad_body e

  pub visits_bad_number : {tables : Tables} → Ok tables ≡ opened_of image b c → names ≡ false → Visits match_way match_ctx b v c (body_call image b c names step) (Err PatternCallError.BadCall) b v
  visits_bad_number e n =
      let T = looked image b c e in
      not_called (no_names_lem (valid image) (body_taken image b c && names) step T.valid_image (and_false_right (body_taken image b c) names n))

  pub visits_goes_on : {tables : Tables} {r : MatchCall} {b₁ : Body} {v₁ : List ℕ} → Ok tables ≡ opened_of image b c → names ≡ true → Visits match_way match_ctx b v c step r b₁ v₁ →
      Visits match_way match_ctx b v c (body_call image b c names step) r b₁ v₁
  visits_goes_on e n G =
      let T = looked image b c e in
      visits_by (steps (valid image) (body_taken image b c && names) step T.valid_image (and_true (body_taken image b c) names T.body n)) G
