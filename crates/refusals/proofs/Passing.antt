-- What a `?` hands out where the error is not converted.
use Rattle.std.proofs.Common.{◌≡◌, ap, ◌∙◌, Ok, Err, Some, None}
use Rattle.std.specs.Prelude.{Option, Result, IsErrAnd, ok_or}

-- the error as it is
pub passed : {T E : Type 0} (r : Result T E) (e : E) → IsErrAnd r (λ y. y ≡ e) → r ≡ Err e
passed (Ok t) e h = absurd h
passed (Err y) e h = ap Err h

-- the error that stands for none
pub passed_none : {T A E : Type 0} (r : Result T E) (o : Option A) (l e : E) → IsErrAnd r (λ y. y ≡ e) → o ≡ None → Err e ≡ ok_or o l → r ≡ Err l
passed_none r None l e h none value = let same : e ≡ l = cc in passed r e h ∙ ap Err same
passed_none r (Some a) l e h none value = absurd (let wrong : ⊥ = cc in wrong)
