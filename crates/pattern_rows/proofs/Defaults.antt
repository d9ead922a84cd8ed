-- What a default arm answers, for each kind that it stands for. Assumes nothing.
use mathlib.Core.Path.{◌≡◌, refl}
use mathlib.Core.List.{[], ◌∷◌}
use types.Run.{OneOf, miss}
use denote.Enum.Declared as Declared
use Rattle.image.specs.declared.kinds.PatKind.{PatKind}
use Rattle.image.specs.contracts.kinds.PatKind as pat-kind
use Rattle.pattern_rows.specs.declared.CompoundKind.{CompoundKind}
use Rattle.pattern_rows.specs.Rows.{compound_kind}

pub other_is_variant : (kind : PatKind) → OneOf (0 ∷ 1 ∷ 2 ∷ 3 ∷ 6 ∷ 7 ∷ 9 ∷ 10 ∷ 12 ∷ 14 ∷ 15 ∷ 16 ∷ 17 ∷ []) (Declared.tag_of pat-kind.the_type kind) → CompoundKind.Variant ≡ compound_kind kind
unfolding compound_kind
other_is_variant PatKind.Missing h = refl
other_is_variant PatKind.Rest h = refl
other_is_variant PatKind.NotNull h = refl
other_is_variant PatKind.Wild h = refl
other_is_variant PatKind.Tuple h = absurd (miss (0 ∷ 1 ∷ 2 ∷ 3 ∷ 6 ∷ 7 ∷ 9 ∷ 10 ∷ 12 ∷ 14 ∷ 15 ∷ 16 ∷ 17 ∷ []) 4 tt h)
other_is_variant PatKind.Or h = absurd (miss (0 ∷ 1 ∷ 2 ∷ 3 ∷ 6 ∷ 7 ∷ 9 ∷ 10 ∷ 12 ∷ 14 ∷ 15 ∷ 16 ∷ 17 ∷ []) 5 tt h)
other_is_variant PatKind.Record h = refl
other_is_variant PatKind.Range h = refl
other_is_variant PatKind.Slice h = absurd (miss (0 ∷ 1 ∷ 2 ∷ 3 ∷ 6 ∷ 7 ∷ 9 ∷ 10 ∷ 12 ∷ 14 ∷ 15 ∷ 16 ∷ 17 ∷ []) 8 tt h)
other_is_variant PatKind.Path h = refl
other_is_variant PatKind.Lit h = refl
other_is_variant PatKind.Bind h = absurd (miss (0 ∷ 1 ∷ 2 ∷ 3 ∷ 6 ∷ 7 ∷ 9 ∷ 10 ∷ 12 ∷ 14 ∷ 15 ∷ 16 ∷ 17 ∷ []) 11 tt h)
other_is_variant PatKind.TupleStruct h = refl
other_is_variant PatKind.Ref h = absurd (miss (0 ∷ 1 ∷ 2 ∷ 3 ∷ 6 ∷ 7 ∷ 9 ∷ 10 ∷ 12 ∷ 14 ∷ 15 ∷ 16 ∷ 17 ∷ []) 13 tt h)
other_is_variant PatKind.Expr h = refl
other_is_variant PatKind.Box h = refl
other_is_variant PatKind.Deref h = refl
other_is_variant PatKind.Unknown h = refl
