-- What a default arm answers, for each kind that it stands for. Assumes nothing.
use Prim.Native.Nat.{ℕ}
use mathlib.Core.Path.{◌≡◌, refl}
use mathlib.Core.Bool.{true, false}
use mathlib.Core.List.{List, [], ◌∷◌}
use types.Run.{OneOf, miss}
use denote.Enum.Declared as Declared
use Rattle.refusals.specs.declared.MirLowerError.{MirLowerError}
use Rattle.image.specs.declared.kinds.PatKind.{PatKind}
use Rattle.image.specs.declared.kinds.PathKind.{PathKind}
use Rattle.image.specs.declared.rows.PatRow.{PatRow}
use Rattle.image.specs.Tree.{other}
use Rattle.image.specs.contracts.kinds.PatKind as pat-kind
use Rattle.image.specs.contracts.kinds.PathKind as path-kind
use Rattle.pattern_matching.specs.Patterns.{refusing, path_pattern}
use Rattle.pattern_nodes.specs.Leaves.{is_leaf_path, is_leaf, path_leaf, leaf_pattern}

-- `is_leaf`: the kinds that it names, the others, and a path that names no variant
module _ (path : PathKind) where
  pub has_subpatterns : (kind : PatKind) → OneOf (4 ∷ 5 ∷ 6 ∷ 8 ∷ 11 ∷ 12 ∷ 13 ∷ []) (Declared.tag_of pat-kind.the_type kind) → false ≡ is_leaf kind path
  unfolding is_leaf
  has_subpatterns PatKind.Missing h = absurd (miss (4 ∷ 5 ∷ 6 ∷ 8 ∷ 11 ∷ 12 ∷ 13 ∷ []) 0 tt h)
  has_subpatterns PatKind.Rest h = absurd (miss (4 ∷ 5 ∷ 6 ∷ 8 ∷ 11 ∷ 12 ∷ 13 ∷ []) 1 tt h)
  has_subpatterns PatKind.NotNull h = absurd (miss (4 ∷ 5 ∷ 6 ∷ 8 ∷ 11 ∷ 12 ∷ 13 ∷ []) 2 tt h)
  has_subpatterns PatKind.Wild h = absurd (miss (4 ∷ 5 ∷ 6 ∷ 8 ∷ 11 ∷ 12 ∷ 13 ∷ []) 3 tt h)
  has_subpatterns PatKind.Tuple h = refl
  has_subpatterns PatKind.Or h = refl
  has_subpatterns PatKind.Record h = refl
  has_subpatterns PatKind.Range h = absurd (miss (4 ∷ 5 ∷ 6 ∷ 8 ∷ 11 ∷ 12 ∷ 13 ∷ []) 7 tt h)
  has_subpatterns PatKind.Slice h = refl
  has_subpatterns PatKind.Path h = absurd (miss (4 ∷ 5 ∷ 6 ∷ 8 ∷ 11 ∷ 12 ∷ 13 ∷ []) 9 tt h)
  has_subpatterns PatKind.Lit h = absurd (miss (4 ∷ 5 ∷ 6 ∷ 8 ∷ 11 ∷ 12 ∷ 13 ∷ []) 10 tt h)
  has_subpatterns PatKind.Bind h = refl
  has_subpatterns PatKind.TupleStruct h = refl
  has_subpatterns PatKind.Ref h = refl
  has_subpatterns PatKind.Expr h = absurd (miss (4 ∷ 5 ∷ 6 ∷ 8 ∷ 11 ∷ 12 ∷ 13 ∷ []) 14 tt h)
  has_subpatterns PatKind.Box h = absurd (miss (4 ∷ 5 ∷ 6 ∷ 8 ∷ 11 ∷ 12 ∷ 13 ∷ []) 15 tt h)
  has_subpatterns PatKind.Deref h = absurd (miss (4 ∷ 5 ∷ 6 ∷ 8 ∷ 11 ∷ 12 ∷ 13 ∷ []) 16 tt h)
  has_subpatterns PatKind.Unknown h = absurd (miss (4 ∷ 5 ∷ 6 ∷ 8 ∷ 11 ∷ 12 ∷ 13 ∷ []) 17 tt h)

  pub has_none : (kind : PatKind) → OneOf (0 ∷ 1 ∷ 2 ∷ 3 ∷ 7 ∷ 10 ∷ 14 ∷ 15 ∷ 16 ∷ 17 ∷ []) (Declared.tag_of pat-kind.the_type kind) → true ≡ is_leaf kind path
  unfolding is_leaf
  has_none PatKind.Missing h = refl
  has_none PatKind.Rest h = refl
  has_none PatKind.NotNull h = refl
  has_none PatKind.Wild h = refl
  has_none PatKind.Tuple h = absurd (miss (0 ∷ 1 ∷ 2 ∷ 3 ∷ 7 ∷ 10 ∷ 14 ∷ 15 ∷ 16 ∷ 17 ∷ []) 4 tt h)
  has_none PatKind.Or h = absurd (miss (0 ∷ 1 ∷ 2 ∷ 3 ∷ 7 ∷ 10 ∷ 14 ∷ 15 ∷ 16 ∷ 17 ∷ []) 5 tt h)
  has_none PatKind.Record h = absurd (miss (0 ∷ 1 ∷ 2 ∷ 3 ∷ 7 ∷ 10 ∷ 14 ∷ 15 ∷ 16 ∷ 17 ∷ []) 6 tt h)
  has_none PatKind.Range h = refl
  has_none PatKind.Slice h = absurd (miss (0 ∷ 1 ∷ 2 ∷ 3 ∷ 7 ∷ 10 ∷ 14 ∷ 15 ∷ 16 ∷ 17 ∷ []) 8 tt h)
  has_none PatKind.Path h = absurd (miss (0 ∷ 1 ∷ 2 ∷ 3 ∷ 7 ∷ 10 ∷ 14 ∷ 15 ∷ 16 ∷ 17 ∷ []) 9 tt h)
  has_none PatKind.Lit h = refl
  has_none PatKind.Bind h = absurd (miss (0 ∷ 1 ∷ 2 ∷ 3 ∷ 7 ∷ 10 ∷ 14 ∷ 15 ∷ 16 ∷ 17 ∷ []) 11 tt h)
  has_none PatKind.TupleStruct h = absurd (miss (0 ∷ 1 ∷ 2 ∷ 3 ∷ 7 ∷ 10 ∷ 14 ∷ 15 ∷ 16 ∷ 17 ∷ []) 12 tt h)
  has_none PatKind.Ref h = absurd (miss (0 ∷ 1 ∷ 2 ∷ 3 ∷ 7 ∷ 10 ∷ 14 ∷ 15 ∷ 16 ∷ 17 ∷ []) 13 tt h)
  has_none PatKind.Expr h = refl
  has_none PatKind.Box h = refl
  has_none PatKind.Deref h = refl
  has_none PatKind.Unknown h = refl

pub no_variant : (kind : PathKind) → OneOf (0 ∷ 2 ∷ 3 ∷ 4 ∷ 5 ∷ []) (Declared.tag_of path-kind.the_type kind) → true ≡ is_leaf_path kind
unfolding is_leaf_path
no_variant PathKind.Unresolved h = refl
no_variant PathKind.Variant h = absurd (miss (0 ∷ 2 ∷ 3 ∷ 4 ∷ 5 ∷ []) 1 tt h)
no_variant PathKind.Local h = refl
no_variant PathKind.Constant h = refl
no_variant PathKind.Other h = refl
no_variant PathKind.Unknown h = refl

-- `path_leaf`
module _ (image bindings : List ℕ) (p ty b : ℕ) where
  pub something_else : (kind : PathKind) → OneOf (4 ∷ 5 ∷ []) (Declared.tag_of path-kind.the_type kind) → path_pattern other image bindings p ty ≡ path_leaf kind image bindings p ty b
  unfolding path_leaf
  something_else PathKind.Unresolved h = absurd (miss (4 ∷ 5 ∷ []) 0 tt h)
  something_else PathKind.Variant h = absurd (miss (4 ∷ 5 ∷ []) 1 tt h)
  something_else PathKind.Local h = absurd (miss (4 ∷ 5 ∷ []) 2 tt h)
  something_else PathKind.Constant h = absurd (miss (4 ∷ 5 ∷ []) 3 tt h)
  something_else PathKind.Other h = refl
  something_else PathKind.Unknown h = refl

-- `pattern_match_leaf`
module _ (image bindings : List ℕ) (p : ℕ) (row : PatRow) where
  pub incomplete : (kind : PatKind) → OneOf (0 ∷ 1 ∷ 2 ∷ 4 ∷ 5 ∷ 6 ∷ 8 ∷ 11 ∷ 12 ∷ 13 ∷ 17 ∷ []) (Declared.tag_of pat-kind.the_type kind) → refusing MirLowerError.IncompletePattern p ≡ leaf_pattern kind image bindings p row
  unfolding leaf_pattern
  incomplete PatKind.Missing h = refl
  incomplete PatKind.Rest h = refl
  incomplete PatKind.NotNull h = refl
  incomplete PatKind.Wild h = absurd (miss (0 ∷ 1 ∷ 2 ∷ 4 ∷ 5 ∷ 6 ∷ 8 ∷ 11 ∷ 12 ∷ 13 ∷ 17 ∷ []) 3 tt h)
  incomplete PatKind.Tuple h = refl
  incomplete PatKind.Or h = refl
  incomplete PatKind.Record h = refl
  incomplete PatKind.Range h = absurd (miss (0 ∷ 1 ∷ 2 ∷ 4 ∷ 5 ∷ 6 ∷ 8 ∷ 11 ∷ 12 ∷ 13 ∷ 17 ∷ []) 7 tt h)
  incomplete PatKind.Slice h = refl
  incomplete PatKind.Path h = absurd (miss (0 ∷ 1 ∷ 2 ∷ 4 ∷ 5 ∷ 6 ∷ 8 ∷ 11 ∷ 12 ∷ 13 ∷ 17 ∷ []) 9 tt h)
  incomplete PatKind.Lit h = absurd (miss (0 ∷ 1 ∷ 2 ∷ 4 ∷ 5 ∷ 6 ∷ 8 ∷ 11 ∷ 12 ∷ 13 ∷ 17 ∷ []) 10 tt h)
  incomplete PatKind.Bind h = refl
  incomplete PatKind.TupleStruct h = refl
  incomplete PatKind.Ref h = refl
  incomplete PatKind.Expr h = absurd (miss (0 ∷ 1 ∷ 2 ∷ 4 ∷ 5 ∷ 6 ∷ 8 ∷ 11 ∷ 12 ∷ 13 ∷ 17 ∷ []) 14 tt h)
  incomplete PatKind.Box h = absurd (miss (0 ∷ 1 ∷ 2 ∷ 4 ∷ 5 ∷ 6 ∷ 8 ∷ 11 ∷ 12 ∷ 13 ∷ 17 ∷ []) 15 tt h)
  incomplete PatKind.Deref h = absurd (miss (0 ∷ 1 ∷ 2 ∷ 4 ∷ 5 ∷ 6 ∷ 8 ∷ 11 ∷ 12 ∷ 13 ∷ 17 ∷ []) 16 tt h)
  incomplete PatKind.Unknown h = refl
