-- The patterns that have no subpattern, by the row of the image. Assumes nothing: these are definitions.
use Rattle.std.specs.Prelude.{ℕ, Bool, true, false, List}
use Rattle.image.specs.declared.kinds.PatKind.{PatKind}
use Rattle.image.specs.declared.kinds.PathKind.{PathKind}
use Rattle.image.specs.declared.rows.PatRow.{PatRow}
use Rattle.image.specs.Kinds.{path_kind}
use Rattle.image.specs.Types.{operand_of, is_set}
use Rattle.image.specs.Tree.{unresolved, local, constant, other, operand?}
use Rattle.refusals.specs.declared.MirLowerError.{MirLowerError}
use Rattle.pattern_matching.specs.Walking.{Lowering}
use Rattle.pattern_matching.specs.Tests.{lit_by}
use Rattle.pattern_matching.specs.Patterns.{refusing, passing, range_pattern, path_pattern}

-- a path that names no variant
unfoldable pub is_leaf_path : PathKind → Bool
is_leaf_path PathKind.Unresolved = true
is_leaf_path PathKind.Variant = false
is_leaf_path PathKind.Local = true
is_leaf_path PathKind.Constant = true
is_leaf_path PathKind.Other = true
is_leaf_path PathKind.Unknown = true

-- a pattern of this kind has no subpattern and names no variant
unfoldable pub is_leaf : PatKind → PathKind → Bool
is_leaf PatKind.Missing path = true
is_leaf PatKind.Rest path = true
is_leaf PatKind.NotNull path = true
is_leaf PatKind.Wild path = true
is_leaf PatKind.Tuple path = false
is_leaf PatKind.Or path = false
is_leaf PatKind.Record path = false
is_leaf PatKind.Range path = true
is_leaf PatKind.Slice path = false
is_leaf PatKind.Path path = is_leaf_path path
is_leaf PatKind.Lit path = true
is_leaf PatKind.Bind path = false
is_leaf PatKind.TupleStruct path = false
is_leaf PatKind.Ref path = false
is_leaf PatKind.Expr path = true
is_leaf PatKind.Box path = true
is_leaf PatKind.Deref path = true
is_leaf PatKind.Unknown path = true

-- a path by its kind; one that names a variant is not asked about
unfoldable pub path_leaf : PathKind → List ℕ → List ℕ → ℕ → ℕ → ℕ → Lowering
path_leaf PathKind.Unresolved image bindings p ty b = path_pattern unresolved image bindings p ty
path_leaf PathKind.Variant image bindings p ty b = refusing MirLowerError.IncompletePattern p
path_leaf PathKind.Local image bindings p ty b = path_pattern (local b) image bindings p ty
path_leaf PathKind.Constant image bindings p ty b = path_pattern (constant (operand_of image b)) image bindings p ty
path_leaf PathKind.Other image bindings p ty b = path_pattern other image bindings p ty
path_leaf PathKind.Unknown image bindings p ty b = path_pattern other image bindings p ty

-- a pattern by its kind; one that has subpatterns is not asked about
unfoldable pub leaf_pattern : PatKind → List ℕ → List ℕ → ℕ → PatRow → Lowering
leaf_pattern PatKind.Missing image bindings p row = refusing MirLowerError.IncompletePattern p
leaf_pattern PatKind.Rest image bindings p row = refusing MirLowerError.IncompletePattern p
leaf_pattern PatKind.NotNull image bindings p row = refusing MirLowerError.IncompletePattern p
leaf_pattern PatKind.Wild image bindings p row = passing
leaf_pattern PatKind.Tuple image bindings p row = refusing MirLowerError.IncompletePattern p
leaf_pattern PatKind.Or image bindings p row = refusing MirLowerError.IncompletePattern p
leaf_pattern PatKind.Record image bindings p row = refusing MirLowerError.IncompletePattern p
leaf_pattern PatKind.Range image bindings p row = range_pattern image p row.ty (operand? image row.a) (operand? image row.b) (is_set row.c)
leaf_pattern PatKind.Slice image bindings p row = refusing MirLowerError.IncompletePattern p
leaf_pattern PatKind.Path image bindings p row = path_leaf (path_kind row.a) image bindings p row.ty row.b
leaf_pattern PatKind.Lit image bindings p row = lit_by (operand_of image row.a).kind image p row.ty (operand_of image row.a)
leaf_pattern PatKind.Bind image bindings p row = refusing MirLowerError.IncompletePattern p
leaf_pattern PatKind.TupleStruct image bindings p row = refusing MirLowerError.IncompletePattern p
leaf_pattern PatKind.Ref image bindings p row = refusing MirLowerError.IncompletePattern p
leaf_pattern PatKind.Expr image bindings p row = refusing MirLowerError.Expr p
leaf_pattern PatKind.Box image bindings p row = refusing MirLowerError.NotSupported p
leaf_pattern PatKind.Deref image bindings p row = refusing MirLowerError.NotSupported p
leaf_pattern PatKind.Unknown image bindings p row = refusing MirLowerError.IncompletePattern p
