-- The lowering of a pattern by its row is that of its tree, and by its kind that of the code's branches. Assumes nothing.
use Prim.Native.Nat.{ℕ, ◌<◌}
use mathlib.Core.Path.{◌≡◌, refl, ap, ◌∙◌}
use mathlib.Core.Bool.{true, false≢true}
use mathlib.Core.List.{List}
use Rattle.image.specs.declared.kinds.PatKind.{PatKind}
use Rattle.image.specs.declared.kinds.PathKind.{PathKind}
use Rattle.image.specs.declared.rows.PatRow.{PatRow}
use Rattle.image.specs.Tables.{pattern_count}
use Rattle.image.specs.Kinds.{pat_kind, path_kind}
use Rattle.image.specs.Rows.{pat_at}
use Rattle.image.specs.Valid.{valid}
use Rattle.image.specs.Tree.{tree, target, node_by, node}
use Rattle.image.proofs.Trees.{tree_node}
use Rattle.place.specs.declared.Place.{Place}
use Rattle.mir.specs.declared.BasicBlockId.{BasicBlockId}
use Rattle.lower_spec.specs.Results.{OptBlock}
use Rattle.pattern_matching.specs.declared.MatchingMode.{MatchingMode}
use Rattle.pattern_matching.specs.Walking.{Ctx, Lowering, entered}
use Rattle.pattern_matching.specs.Patterns.{path_pattern, pattern_match_inner}
use Rattle.pattern_nodes.specs.Leaves.{is_leaf_path, is_leaf, path_leaf, leaf_pattern}
use Rattle.pattern_nodes.specs.Arguments.{lowered, shape_of}
use Rattle.pattern_nodes.specs.Nodes.{kind_pattern}
use Rattle.pattern_nodes.proofs.Numbers.{record_word, record_shape, tuple_struct_word, tuple_struct_shape}

-- a node's lowering
by_node : (k : PatKind) (image bindings : List ℕ) (p : ℕ) (row : PatRow) → pat_kind row.kind ≡ k →
    pattern_match_inner image bindings (node_by k (tree image) image (record { number = p; ty = row.ty; derefs = row.derefs }) row) ≡ entered p row.derefs (kind_pattern k image bindings p row)
unfolding node_by pattern_match_inner kind_pattern leaf_pattern lowered shape_of
by_node PatKind.Missing image bindings p row e = refl
by_node PatKind.Rest image bindings p row e = refl
by_node PatKind.NotNull image bindings p row e = refl
by_node PatKind.Wild image bindings p row e = refl
by_node PatKind.Tuple image bindings p row e = refl
by_node PatKind.Or image bindings p row e = refl
by_node PatKind.Record image bindings p row e = rw (record_word row e, record_shape row e)
by_node PatKind.Range image bindings p row e = refl
by_node PatKind.Slice image bindings p row e = refl
by_node PatKind.Path image bindings p row e = refl
by_node PatKind.Lit image bindings p row e = refl
by_node PatKind.Bind image bindings p row e = refl
by_node PatKind.TupleStruct image bindings p row e = rw (tuple_struct_word row e, tuple_struct_shape row e)
by_node PatKind.Ref image bindings p row e = refl
by_node PatKind.Expr image bindings p row e = refl
by_node PatKind.Box image bindings p row e = refl
by_node PatKind.Deref image bindings p row e = refl
by_node PatKind.Unknown image bindings p row e = refl

-- The theorem: the lowering of the tree of a pattern is that of its row.
pub by_row_lem : (image bindings : List ℕ) (p : ℕ) → valid image ≡ true → p < pattern_count image →
    pattern_match_inner image bindings (tree image p) ≡ entered p (pat_at image p).derefs (kind_pattern (pat_kind (pat_at image p).kind) image bindings p (pat_at image p))
unfolding node
by_row_lem image bindings p v h = ap (pattern_match_inner image bindings) (tree_node image p v h) ∙ by_node (pat_kind (pat_at image p).kind) image bindings p (pat_at image p) refl

-- the same by the row as it was read
pub by_read_row : (image bindings : List ℕ) (p : ℕ) (row : PatRow) → valid image ≡ true → p < pattern_count image → row ≡ pat_at image p →
    pattern_match_inner image bindings (tree image p) ≡ entered p row.derefs (kind_pattern (pat_kind row.kind) image bindings p row)
by_read_row image bindings p row v h same = rw same (by_row_lem image bindings p v h)

-- equal lowerings do the same
pub applied : {l l' : Lowering} → l ≡ l' → (mode : MatchingMode) (ctx : Ctx) (current : BasicBlockId) (els : OptBlock) (place : Place) →
    l mode ctx current els place ≡ l' mode ctx current els place
applied e mode ctx current els place = ap (λ (l : Lowering). l mode ctx current els place) e

-- a path that names no variant
path_leaf_lem : (path : PathKind) (image bindings : List ℕ) (p ty b : ℕ) → is_leaf_path path ≡ true → path_pattern (target path image b) image bindings p ty ≡ path_leaf path image bindings p ty b
unfolding is_leaf_path target path_leaf
path_leaf_lem PathKind.Unresolved image bindings p ty b e = refl
path_leaf_lem PathKind.Variant image bindings p ty b e = absurd (false≢true e)
path_leaf_lem PathKind.Local image bindings p ty b e = refl
path_leaf_lem PathKind.Constant image bindings p ty b e = refl
path_leaf_lem PathKind.Other image bindings p ty b e = refl
path_leaf_lem PathKind.Unknown image bindings p ty b e = refl

-- a pattern that has no subpattern and names no variant
pub leaf_by_kind : (k : PatKind) (image bindings : List ℕ) (p : ℕ) (row : PatRow) → is_leaf k (path_kind row.a) ≡ true → kind_pattern k image bindings p row ≡ leaf_pattern k image bindings p row
unfolding is_leaf kind_pattern leaf_pattern
leaf_by_kind PatKind.Missing image bindings p row e = refl
leaf_by_kind PatKind.Rest image bindings p row e = refl
leaf_by_kind PatKind.NotNull image bindings p row e = refl
leaf_by_kind PatKind.Wild image bindings p row e = refl
leaf_by_kind PatKind.Tuple image bindings p row e = absurd (false≢true e)
leaf_by_kind PatKind.Or image bindings p row e = absurd (false≢true e)
leaf_by_kind PatKind.Record image bindings p row e = absurd (false≢true e)
leaf_by_kind PatKind.Range image bindings p row e = refl
leaf_by_kind PatKind.Slice image bindings p row e = absurd (false≢true e)
leaf_by_kind PatKind.Path image bindings p row e = path_leaf_lem (path_kind row.a) image bindings p row.ty row.b e
leaf_by_kind PatKind.Lit image bindings p row e = refl
leaf_by_kind PatKind.Bind image bindings p row e = absurd (false≢true e)
leaf_by_kind PatKind.TupleStruct image bindings p row e = absurd (false≢true e)
leaf_by_kind PatKind.Ref image bindings p row e = absurd (false≢true e)
leaf_by_kind PatKind.Expr image bindings p row e = refl
leaf_by_kind PatKind.Box image bindings p row e = refl
leaf_by_kind PatKind.Deref image bindings p row e = refl
leaf_by_kind PatKind.Unknown image bindings p row e = refl
