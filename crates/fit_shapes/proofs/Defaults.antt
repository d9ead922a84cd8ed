-- What a default arm answers, for each kind that it stands for. Assumes nothing.
use Prim.Native.Nat.{ℕ}
use mathlib.Core.Path.{◌≡◌, refl}
use mathlib.Core.Bool.{false}
use mathlib.Core.List.{List, [], ◌∷◌}
use types.Run.{OneOf, miss}
use denote.Enum.Declared as Declared
use Rattle.image.specs.declared.kinds.PatKind.{PatKind}
use Rattle.image.specs.declared.rows.PatRow.{PatRow}
use Rattle.image.specs.Tree.{Head, Pat, sub, node_by}
use Rattle.image.specs.contracts.kinds.PatKind as pat-kind
use Rattle.meaning.specs.Fit.{rest_fits}
use Rattle.fit_shapes.specs.Slices.{rest_kind}

-- `is_rest_kind`
pub no_rest_kind : (kind : PatKind) → OneOf (0 ∷ 2 ∷ 3 ∷ 4 ∷ 5 ∷ 6 ∷ 7 ∷ 8 ∷ 9 ∷ 10 ∷ 11 ∷ 12 ∷ 13 ∷ 14 ∷ 15 ∷ 16 ∷ 17 ∷ []) (Declared.tag_of pat-kind.the_type kind) → false ≡ rest_kind kind
no_rest_kind PatKind.Missing h = refl
no_rest_kind PatKind.Rest h = absurd (miss (0 ∷ 2 ∷ 3 ∷ 4 ∷ 5 ∷ 6 ∷ 7 ∷ 8 ∷ 9 ∷ 10 ∷ 11 ∷ 12 ∷ 13 ∷ 14 ∷ 15 ∷ 16 ∷ 17 ∷ []) 1 tt h)
no_rest_kind PatKind.NotNull h = refl
no_rest_kind PatKind.Wild h = refl
no_rest_kind PatKind.Tuple h = refl
no_rest_kind PatKind.Or h = refl
no_rest_kind PatKind.Record h = refl
no_rest_kind PatKind.Range h = refl
no_rest_kind PatKind.Slice h = refl
no_rest_kind PatKind.Path h = refl
no_rest_kind PatKind.Lit h = refl
no_rest_kind PatKind.Bind h = refl
no_rest_kind PatKind.TupleStruct h = refl
no_rest_kind PatKind.Ref h = refl
no_rest_kind PatKind.Expr h = refl
no_rest_kind PatKind.Box h = refl
no_rest_kind PatKind.Deref h = refl
no_rest_kind PatKind.Unknown h = refl

-- `rest_fits`
pub rest_no_fit : (kind : PatKind) (g : ℕ → Pat) (image : List ℕ) (h : Head) (row : PatRow) → OneOf (0 ∷ 2 ∷ 4 ∷ 5 ∷ 6 ∷ 7 ∷ 8 ∷ 9 ∷ 10 ∷ 12 ∷ 13 ∷ 14 ∷ 15 ∷ 16 ∷ 17 ∷ []) (Declared.tag_of pat-kind.the_type kind) → false ≡ rest_fits (sub (node_by kind g image h row))
unfolding rest_fits node_by
rest_no_fit PatKind.Missing g image h row one = refl
rest_no_fit PatKind.Rest g image h row one = absurd (miss (0 ∷ 2 ∷ 4 ∷ 5 ∷ 6 ∷ 7 ∷ 8 ∷ 9 ∷ 10 ∷ 12 ∷ 13 ∷ 14 ∷ 15 ∷ 16 ∷ 17 ∷ []) 1 tt one)
rest_no_fit PatKind.NotNull g image h row one = refl
rest_no_fit PatKind.Wild g image h row one = absurd (miss (0 ∷ 2 ∷ 4 ∷ 5 ∷ 6 ∷ 7 ∷ 8 ∷ 9 ∷ 10 ∷ 12 ∷ 13 ∷ 14 ∷ 15 ∷ 16 ∷ 17 ∷ []) 3 tt one)
rest_no_fit PatKind.Tuple g image h row one = refl
rest_no_fit PatKind.Or g image h row one = refl
rest_no_fit PatKind.Record g image h row one = refl
rest_no_fit PatKind.Range g image h row one = refl
rest_no_fit PatKind.Slice g image h row one = refl
rest_no_fit PatKind.Path g image h row one = refl
rest_no_fit PatKind.Lit g image h row one = refl
rest_no_fit PatKind.Bind g image h row one = absurd (miss (0 ∷ 2 ∷ 4 ∷ 5 ∷ 6 ∷ 7 ∷ 8 ∷ 9 ∷ 10 ∷ 12 ∷ 13 ∷ 14 ∷ 15 ∷ 16 ∷ 17 ∷ []) 11 tt one)
rest_no_fit PatKind.TupleStruct g image h row one = refl
rest_no_fit PatKind.Ref g image h row one = refl
rest_no_fit PatKind.Expr g image h row one = refl
rest_no_fit PatKind.Box g image h row one = refl
rest_no_fit PatKind.Deref g image h row one = refl
rest_no_fit PatKind.Unknown g image h row one = refl
