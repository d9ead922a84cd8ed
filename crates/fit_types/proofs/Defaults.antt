-- What a default arm answers, for each kind that it stands for. Assumes nothing.
use Prim.Native.Nat.{ℕ}
use mathlib.Core.Path.{◌≡◌, refl}
use mathlib.Core.Bool.{true}
use mathlib.Core.List.{List, [], ◌∷◌}
use types.Run.{OneOf, miss}
use denote.Enum.Declared as Declared
use Rattle.image.specs.declared.kinds.PatKind.{PatKind}
use Rattle.image.specs.declared.rows.PatRow.{PatRow}
use Rattle.image.specs.contracts.kinds.PatKind as pat-kind
use Rattle.fit_types.specs.Parts.{parts_fit}

-- `parts_fit`
pub no_parts_lem : (kind : PatKind) (image : List ℕ) (row : PatRow) → OneOf (0 ∷ 1 ∷ 2 ∷ 3 ∷ 14 ∷ 15 ∷ 16 ∷ 17 ∷ []) (Declared.tag_of pat-kind.the_type kind) → true ≡ parts_fit image kind row
unfolding parts_fit
no_parts_lem PatKind.Missing image row h = refl
no_parts_lem PatKind.Rest image row h = refl
no_parts_lem PatKind.NotNull image row h = refl
no_parts_lem PatKind.Wild image row h = refl
no_parts_lem PatKind.Tuple image row h = absurd (miss (0 ∷ 1 ∷ 2 ∷ 3 ∷ 14 ∷ 15 ∷ 16 ∷ 17 ∷ []) 4 tt h)
no_parts_lem PatKind.Or image row h = absurd (miss (0 ∷ 1 ∷ 2 ∷ 3 ∷ 14 ∷ 15 ∷ 16 ∷ 17 ∷ []) 5 tt h)
no_parts_lem PatKind.Record image row h = absurd (miss (0 ∷ 1 ∷ 2 ∷ 3 ∷ 14 ∷ 15 ∷ 16 ∷ 17 ∷ []) 6 tt h)
no_parts_lem PatKind.Range image row h = absurd (miss (0 ∷ 1 ∷ 2 ∷ 3 ∷ 14 ∷ 15 ∷ 16 ∷ 17 ∷ []) 7 tt h)
no_parts_lem PatKind.Slice image row h = absurd (miss (0 ∷ 1 ∷ 2 ∷ 3 ∷ 14 ∷ 15 ∷ 16 ∷ 17 ∷ []) 8 tt h)
no_parts_lem PatKind.Path image row h = absurd (miss (0 ∷ 1 ∷ 2 ∷ 3 ∷ 14 ∷ 15 ∷ 16 ∷ 17 ∷ []) 9 tt h)
no_parts_lem PatKind.Lit image row h = absurd (miss (0 ∷ 1 ∷ 2 ∷ 3 ∷ 14 ∷ 15 ∷ 16 ∷ 17 ∷ []) 10 tt h)
no_parts_lem PatKind.Bind image row h = absurd (miss (0 ∷ 1 ∷ 2 ∷ 3 ∷ 14 ∷ 15 ∷ 16 ∷ 17 ∷ []) 11 tt h)
no_parts_lem PatKind.TupleStruct image row h = absurd (miss (0 ∷ 1 ∷ 2 ∷ 3 ∷ 14 ∷ 15 ∷ 16 ∷ 17 ∷ []) 12 tt h)
no_parts_lem PatKind.Ref image row h = absurd (miss (0 ∷ 1 ∷ 2 ∷ 3 ∷ 14 ∷ 15 ∷ 16 ∷ 17 ∷ []) 13 tt h)
no_parts_lem PatKind.Expr image row h = refl
no_parts_lem PatKind.Box image row h = refl
no_parts_lem PatKind.Deref image row h = refl
no_parts_lem PatKind.Unknown image row h = refl
