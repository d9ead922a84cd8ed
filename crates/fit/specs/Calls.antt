-- The public fit test: every image and every number is taken, or refused by document 01's number. Assumes nothing: these are definitions.
use Rattle.std.specs.Prelude.{ℕ, ◌≡◌, Bool, true, false, cond, List}
use Rattle.std.proofs.Math.Option.{Option, none, some}
use Rattle.refusals.specs.Refusals.{Refusal, breaks_a_rule, names_nothing}
use Rattle.image.specs.Tables.{type_count, pattern_count, binding_count}
use Rattle.image.specs.Tree.{tree}
use Rattle.image.specs.Valid.{valid}
use Rattle.meaning.specs.Fit.{fits}
use Rattle.fit_handed.specs.Handed.{handed}
use Rattle.fit.specs.declared.FitCall.{FitCall}

-- what a call gives: the image breaks a rule, a number of the call names nothing, or "a yes or no tells the fit"
pub data Called : Type 0 where
  bad_image : Called
  bad_call : Called
  tested : Bool → Called

-- "1 is tried before 2"
unfoldable pub fit_call : List ℕ → List ℕ → ℕ → ℕ → ℕ → Called
fit_call image bindings root t p =
    cond (valid image)
    (cond (handed (binding_count image) (pattern_count image) (type_count image) bindings p t) (tested (fits image bindings root t (tree image p))) bad_call)
    bad_image

-- the answer
abbrev pub answer : Called → FitCall
answer bad_image = FitCall.BadImage
answer bad_call = FitCall.BadCall
answer (tested true) = FitCall.Fits
answer (tested false) = FitCall.DoesNot

-- document 01's three numbers, of an answer and of what is defined
abbrev pub numbers : FitCall → Option Refusal
numbers FitCall.Fits = none
numbers FitCall.DoesNot = none
numbers FitCall.BadCall = some names_nothing
numbers FitCall.BadImage = some breaks_a_rule

abbrev pub refusal_of : Called → Option Refusal
refusal_of bad_image = some breaks_a_rule
refusal_of bad_call = some names_nothing
refusal_of (tested b) = none

-- the call's promise: its answer r and the three numbers of a refusal are those that the definition gives
pub record Gives (defined : Called) (r : FitCall) : Type 0 where
  pub reply : r ≡ answer defined
  pub refusal : numbers r ≡ refusal_of defined
