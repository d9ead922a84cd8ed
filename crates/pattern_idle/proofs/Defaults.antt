-- What a default arm answers, for each kind that it stands for. Assumes nothing.
use Prim.Native.Nat.{ℕ}
use mathlib.Core.Path.{◌≡◌, refl}
use mathlib.Core.Bool.{false}
use mathlib.Core.List.{List, [], ◌∷◌}
use types.Run.{OneOf, miss}
use denote.Enum.Declared as Declared
use Rattle.image.specs.declared.kinds.PatKind.{PatKind}
use Rattle.image.specs.declared.kinds.PathKind.{PathKind}
use Rattle.image.specs.declared.rows.PatRow.{PatRow}
use Rattle.image.specs.contracts.kinds.PatKind as pat-kind
use Rattle.image.specs.contracts.kinds.PathKind as path-kind
use Rattle.pattern_idle.specs.Idle.{idle_in_check, names_constant, idle_beyond_check}

-- `idle_in_check`
pub tests : (kind : PatKind) (b : ℕ) → OneOf (0 ∷ 1 ∷ 2 ∷ 4 ∷ 5 ∷ 6 ∷ 7 ∷ 8 ∷ 9 ∷ 10 ∷ 12 ∷ 13 ∷ 14 ∷ 15 ∷ 16 ∷ 17 ∷ []) (Declared.tag_of pat-kind.the_type kind) → false ≡ idle_in_check kind b
unfolding idle_in_check
tests PatKind.Missing b h = refl
tests PatKind.Rest b h = refl
tests PatKind.NotNull b h = refl
tests PatKind.Wild b h = absurd (miss (0 ∷ 1 ∷ 2 ∷ 4 ∷ 5 ∷ 6 ∷ 7 ∷ 8 ∷ 9 ∷ 10 ∷ 12 ∷ 13 ∷ 14 ∷ 15 ∷ 16 ∷ 17 ∷ []) 3 tt h)
tests PatKind.Tuple b h = refl
tests PatKind.Or b h = refl
tests PatKind.Record b h = refl
tests PatKind.Range b h = refl
tests PatKind.Slice b h = refl
tests PatKind.Path b h = refl
tests PatKind.Lit b h = refl
tests PatKind.Bind b h = absurd (miss (0 ∷ 1 ∷ 2 ∷ 4 ∷ 5 ∷ 6 ∷ 7 ∷ 8 ∷ 9 ∷ 10 ∷ 12 ∷ 13 ∷ 14 ∷ 15 ∷ 16 ∷ 17 ∷ []) 11 tt h)
tests PatKind.TupleStruct b h = refl
tests PatKind.Ref b h = refl
tests PatKind.Expr b h = refl
tests PatKind.Box b h = refl
tests PatKind.Deref b h = refl
tests PatKind.Unknown b h = refl

-- `names_constant`
pub no_constant : (kind : PathKind) → OneOf (0 ∷ 1 ∷ 2 ∷ 4 ∷ 5 ∷ []) (Declared.tag_of path-kind.the_type kind) → false ≡ names_constant kind
unfolding names_constant
no_constant PathKind.Unresolved h = refl
no_constant PathKind.Variant h = refl
no_constant PathKind.Local h = refl
no_constant PathKind.Constant h = absurd (miss (0 ∷ 1 ∷ 2 ∷ 4 ∷ 5 ∷ []) 3 tt h)
no_constant PathKind.Other h = refl
no_constant PathKind.Unknown h = refl

-- `idle_beyond_check`
pub does_more : (kind : PatKind) (image : List ℕ) (row : PatRow) → OneOf (0 ∷ 1 ∷ 2 ∷ 4 ∷ 5 ∷ 6 ∷ 8 ∷ 11 ∷ 12 ∷ 13 ∷ 14 ∷ 15 ∷ 16 ∷ 17 ∷ []) (Declared.tag_of pat-kind.the_type kind) → false ≡ idle_beyond_check kind image row
unfolding idle_beyond_check
does_more PatKind.Missing image row h = refl
does_more PatKind.Rest image row h = refl
does_more PatKind.NotNull image row h = refl
does_more PatKind.Wild image row h = absurd (miss (0 ∷ 1 ∷ 2 ∷ 4 ∷ 5 ∷ 6 ∷ 8 ∷ 11 ∷ 12 ∷ 13 ∷ 14 ∷ 15 ∷ 16 ∷ 17 ∷ []) 3 tt h)
does_more PatKind.Tuple image row h = refl
does_more PatKind.Or image row h = refl
does_more PatKind.Record image row h = refl
does_more PatKind.Range image row h = absurd (miss (0 ∷ 1 ∷ 2 ∷ 4 ∷ 5 ∷ 6 ∷ 8 ∷ 11 ∷ 12 ∷ 13 ∷ 14 ∷ 15 ∷ 16 ∷ 17 ∷ []) 7 tt h)
does_more PatKind.Slice image row h = refl
does_more PatKind.Path image row h = absurd (miss (0 ∷ 1 ∷ 2 ∷ 4 ∷ 5 ∷ 6 ∷ 8 ∷ 11 ∷ 12 ∷ 13 ∷ 14 ∷ 15 ∷ 16 ∷ 17 ∷ []) 9 tt h)
does_more PatKind.Lit image row h = absurd (miss (0 ∷ 1 ∷ 2 ∷ 4 ∷ 5 ∷ 6 ∷ 8 ∷ 11 ∷ 12 ∷ 13 ∷ 14 ∷ 15 ∷ 16 ∷ 17 ∷ []) 10 tt h)
does_more PatKind.Bind image row h = refl
does_more PatKind.TupleStruct image row h = refl
does_more PatKind.Ref image row h = refl
does_more PatKind.Expr image row h = refl
does_more PatKind.Box image row h = refl
does_more PatKind.Deref image row h = refl
does_more PatKind.Unknown image row h = refl
