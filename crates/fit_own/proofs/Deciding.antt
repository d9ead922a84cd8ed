-- The walk's answer decides whether something refused is reached, where the pattern's types fit. Assumes nothing.
use Prim.Native.Nat.{ℕ}
use mathlib.Core.Path.{◌≡◌, refl, sym, ap, ◌∙◌}
use mathlib.Core.Bool.{Bool, true, false}
use mathlib.Core.Option.{some}
use mathlib.Core.List.{List}
use Rattle.image.specs.Tree.{tree}
use Rattle.image.specs.Valid.{valid}
use Rattle.meaning.specs.Fit.{nothing_refused}
use Rattle.fit_own.specs.declared.Reached.{Reached}
use Rattle.fit_own.specs.Failing.{fails_by}
use Rattle.fit_own.specs.Taking.{taken_by, FitsSomewhere}
use Rattle.fit_own.specs.Answers.{reached_as, reached_by}
use Rattle.fit_own.proofs.OwnTypes.{head_there}
use Rattle.fit_own.proofs.Alternatives.{same}

-- nothing is refused
abbrev pub is_taken : Reached → Bool
is_taken Reached.Refused = false
is_taken Reached.Sure = true
is_taken Reached.CanFail = true

taken_as : (t f : Bool) → is_taken (reached_as t f) ≡ t
unfolding reached_as
taken_as true true = refl
taken_as true false = refl
taken_as false f = refl

-- `nothing_refused`
pub decided : (image bindings : List ℕ) (p : ℕ) → valid image ≡ true → FitsSomewhere image p → {r : Reached} → r ≡ reached_by image bindings (tree image p) → (is : Reached) → r ≡ is → is_taken is ≡ nothing_refused image bindings (tree image p)
decided image bindings p holds somewhere found is e =
    let pat = tree image p in
    let here = head_there image bindings holds pat somewhere.place somewhere.named somewhere.fits in
    ap is_taken (sym e ∙ found) ∙ taken_as (taken_by image bindings pat) (fails_by image pat) ∙ same image bindings holds pat (some somewhere.place) here somewhere.fits
