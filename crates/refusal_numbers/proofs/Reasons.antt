-- What has no reason. Assumes nothing.
use mathlib.Core.Path.{◌≡◌, refl}
use mathlib.Core.List.{[], ◌∷◌}
use types.Run.{OneOf, miss}
use denote.Enum.Declared as Declared
use Rattle.refusals.specs.declared.MirLowerError.{MirLowerError}
use Rattle.refusals.specs.Refusals.{reason_of}
use Rattle.refusals.specs.contracts.MirLowerError as mir-lower-error

pub no_reason : (e : MirLowerError) → OneOf (0 ∷ 2 ∷ 3 ∷ 4 ∷ 5 ∷ 6 ∷ 7 ∷ 8 ∷ 9 ∷ 10 ∷ 11 ∷ []) (Declared.tag_of mir-lower-error.the_type e) → 0 ≡ reason_of e
unfolding reason_of
no_reason MirLowerError.IncompletePattern h = refl
no_reason (MirLowerError.TypeError reason) h = absurd (miss (0 ∷ 2 ∷ 3 ∷ 4 ∷ 5 ∷ 6 ∷ 7 ∷ 8 ∷ 9 ∷ 10 ∷ 11 ∷ []) 1 tt h)
no_reason MirLowerError.UnresolvedField h = refl
no_reason MirLowerError.NotSupported h = refl
no_reason MirLowerError.Ellipsis h = refl
no_reason MirLowerError.UnsizedTemporary h = refl
no_reason MirLowerError.InaccessibleLocal h = refl
no_reason MirLowerError.Expr h = refl
no_reason MirLowerError.Limit h = refl
no_reason MirLowerError.PlaceType h = refl
no_reason MirLowerError.UnresolvedName h = refl
no_reason MirLowerError.NoScope h = refl
