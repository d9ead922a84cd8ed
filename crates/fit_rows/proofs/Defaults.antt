-- What a default arm answers, for each kind that it stands for. Assumes nothing.
use Prim.Native.Nat.{ℕ}
use mathlib.Core.Path.{◌≡◌, refl}
use mathlib.Core.List.{List, [], ◌∷◌}
use types.Run.{OneOf, miss}
use denote.Enum.Declared as Declared
use Rattle.image.specs.declared.BindingId.{BindingId}
use Rattle.image.specs.declared.kinds.PatKind.{PatKind}
use Rattle.image.specs.declared.kinds.TypeKind.{TypeKind}
use Rattle.image.specs.declared.rows.PatRow.{PatRow}
use Rattle.image.specs.declared.rows.TypeRow.{TypeRow}
use Rattle.image.specs.contracts.kinds.PatKind as pat-kind
use Rattle.image.specs.contracts.kinds.TypeKind as type-kind
use Rattle.fit_rows.specs.declared.nodes.Own.{Own}
use Rattle.fit_rows.specs.Nodes.{bare, rest_of_type, rest_by_kind, node_by}

-- `rest_of_type`
pub rest_whole : (kind : TypeKind) (row : TypeRow) (b : BindingId) (t items : ℕ) → OneOf (0 ∷ 1 ∷ 2 ∷ 3 ∷ 4 ∷ 5 ∷ 6 ∷ 8 ∷ 9 ∷ []) (Declared.tag_of type-kind.the_type kind) → Own.At b t ≡ rest_of_type kind row b t items
unfolding rest_of_type
rest_whole TypeKind.Integer row b t items h = refl
rest_whole TypeKind.Bool row b t items h = refl
rest_whole TypeKind.Char row b t items h = refl
rest_whole TypeKind.Str row b t items h = refl
rest_whole TypeKind.Tuple row b t items h = refl
rest_whole TypeKind.Adt row b t items h = refl
rest_whole TypeKind.Reference row b t items h = refl
rest_whole TypeKind.Array row b t items h = absurd (miss (0 ∷ 1 ∷ 2 ∷ 3 ∷ 4 ∷ 5 ∷ 6 ∷ 8 ∷ 9 ∷ []) 7 tt h)
rest_whole TypeKind.Slice row b t items h = refl
rest_whole TypeKind.Unknown row b t items h = refl

-- `rest_by_kind`
pub rest_unbound : (kind : PatKind) (image : List ℕ) (a t items : ℕ) → OneOf (0 ∷ 1 ∷ 2 ∷ 3 ∷ 4 ∷ 5 ∷ 6 ∷ 7 ∷ 8 ∷ 9 ∷ 10 ∷ 12 ∷ 13 ∷ 14 ∷ 15 ∷ 16 ∷ 17 ∷ []) (Declared.tag_of pat-kind.the_type kind) → Own.None ≡ rest_by_kind kind image a t items
unfolding rest_by_kind
rest_unbound PatKind.Missing image a t items h = refl
rest_unbound PatKind.Rest image a t items h = refl
rest_unbound PatKind.NotNull image a t items h = refl
rest_unbound PatKind.Wild image a t items h = refl
rest_unbound PatKind.Tuple image a t items h = refl
rest_unbound PatKind.Or image a t items h = refl
rest_unbound PatKind.Record image a t items h = refl
rest_unbound PatKind.Range image a t items h = refl
rest_unbound PatKind.Slice image a t items h = refl
rest_unbound PatKind.Path image a t items h = refl
rest_unbound PatKind.Lit image a t items h = refl
rest_unbound PatKind.Bind image a t items h = absurd (miss (0 ∷ 1 ∷ 2 ∷ 3 ∷ 4 ∷ 5 ∷ 6 ∷ 7 ∷ 8 ∷ 9 ∷ 10 ∷ 12 ∷ 13 ∷ 14 ∷ 15 ∷ 16 ∷ 17 ∷ []) 11 tt h)
rest_unbound PatKind.TupleStruct image a t items h = refl
rest_unbound PatKind.Ref image a t items h = refl
rest_unbound PatKind.Expr image a t items h = refl
rest_unbound PatKind.Box image a t items h = refl
rest_unbound PatKind.Deref image a t items h = refl
rest_unbound PatKind.Unknown image a t items h = refl

-- `node_by`
pub node_bare : (kind : PatKind) (image : List ℕ) (p : ℕ) (row : PatRow) → OneOf (0 ∷ 1 ∷ 2 ∷ 3 ∷ 7 ∷ 9 ∷ 10 ∷ 14 ∷ 15 ∷ 16 ∷ 17 ∷ []) (Declared.tag_of pat-kind.the_type kind) → bare p ≡ node_by kind image p row
unfolding node_by
node_bare PatKind.Missing image p row h = refl
node_bare PatKind.Rest image p row h = refl
node_bare PatKind.NotNull image p row h = refl
node_bare PatKind.Wild image p row h = refl
node_bare PatKind.Tuple image p row h = absurd (miss (0 ∷ 1 ∷ 2 ∷ 3 ∷ 7 ∷ 9 ∷ 10 ∷ 14 ∷ 15 ∷ 16 ∷ 17 ∷ []) 4 tt h)
node_bare PatKind.Or image p row h = absurd (miss (0 ∷ 1 ∷ 2 ∷ 3 ∷ 7 ∷ 9 ∷ 10 ∷ 14 ∷ 15 ∷ 16 ∷ 17 ∷ []) 5 tt h)
node_bare PatKind.Record image p row h = absurd (miss (0 ∷ 1 ∷ 2 ∷ 3 ∷ 7 ∷ 9 ∷ 10 ∷ 14 ∷ 15 ∷ 16 ∷ 17 ∷ []) 6 tt h)
node_bare PatKind.Range image p row h = refl
node_bare PatKind.Slice image p row h = absurd (miss (0 ∷ 1 ∷ 2 ∷ 3 ∷ 7 ∷ 9 ∷ 10 ∷ 14 ∷ 15 ∷ 16 ∷ 17 ∷ []) 8 tt h)
node_bare PatKind.Path image p row h = refl
node_bare PatKind.Lit image p row h = refl
node_bare PatKind.Bind image p row h = absurd (miss (0 ∷ 1 ∷ 2 ∷ 3 ∷ 7 ∷ 9 ∷ 10 ∷ 14 ∷ 15 ∷ 16 ∷ 17 ∷ []) 11 tt h)
node_bare PatKind.TupleStruct image p row h = absurd (miss (0 ∷ 1 ∷ 2 ∷ 3 ∷ 7 ∷ 9 ∷ 10 ∷ 14 ∷ 15 ∷ 16 ∷ 17 ∷ []) 12 tt h)
node_bare PatKind.Ref image p row h = absurd (miss (0 ∷ 1 ∷ 2 ∷ 3 ∷ 7 ∷ 9 ∷ 10 ∷ 14 ∷ 15 ∷ 16 ∷ 17 ∷ []) 13 tt h)
node_bare PatKind.Expr image p row h = refl
node_bare PatKind.Box image p row h = refl
node_bare PatKind.Deref image p row h = refl
node_bare PatKind.Unknown image p row h = refl
