-- The lowering of a pattern by its row, where `pattern_match_inner` has it by the tree; cut where the code is cut. Assumes nothing: these are definitions.
use Rattle.std.specs.Prelude.{ℕ, ◌+◌, List}
use Rattle.image.specs.declared.kinds.PatKind.{PatKind}
use Rattle.image.specs.declared.rows.PatRow.{PatRow}
use Rattle.image.specs.Kinds.{path_kind, binding_mode}
use Rattle.image.specs.Types.{ty_of}
use Rattle.image.specs.Tree.{tree, tree?, word?, target}
use Rattle.place.specs.declared.Place.{Place}
use Rattle.mir.specs.declared.BasicBlockId.{BasicBlockId}
use Rattle.lower_spec.specs.Results.{OptBlock}
use Rattle.pattern_matching.specs.declared.MatchingMode.{MatchingMode}
use Rattle.pattern_matching.specs.Walking.{Ctx, Out, Walk, Lowering, next}
use Rattle.pattern_matching.specs.Variants.{pattern_match_adt, tuple_pattern, ref_pattern, variant_pattern}
use Rattle.pattern_matching.specs.Slices.{rest_bound, suffix_items, slice_on}
use Rattle.pattern_matching.specs.Patterns.{alternatives, alternatives_end, or_pattern, path_pattern, bind_pattern, rest_of, pattern_match_inner, lowering?}
use Rattle.pattern_rows.specs.Rows.{variant_word, variant_shape}
use Rattle.pattern_nodes.specs.Leaves.{leaf_pattern}
use Rattle.pattern_nodes.specs.Arguments.{lowered, shape_of}

-- the pattern p, whose row is given, at a place behind its derefs
unfoldable pub kind_pattern : PatKind → List ℕ → List ℕ → ℕ → PatRow → Lowering
kind_pattern PatKind.Missing image bindings p row = leaf_pattern PatKind.Missing image bindings p row
kind_pattern PatKind.Rest image bindings p row = leaf_pattern PatKind.Rest image bindings p row
kind_pattern PatKind.NotNull image bindings p row = leaf_pattern PatKind.NotNull image bindings p row
kind_pattern PatKind.Wild image bindings p row = leaf_pattern PatKind.Wild image bindings p row
kind_pattern PatKind.Tuple image bindings p row = tuple_pattern image p (lowered image bindings row.a row.b) (word? row.c)
kind_pattern PatKind.Or image bindings p row = or_pattern p (lowered image bindings row.a row.b)
kind_pattern PatKind.Record image bindings p row = variant_pattern image p (word? (variant_word row)) (shape_of image bindings (variant_shape row))
kind_pattern PatKind.Range image bindings p row = leaf_pattern PatKind.Range image bindings p row
kind_pattern PatKind.Slice image bindings p row =
    slice_on (ty_of image row.ty).shape image bindings p (lowered image bindings row.a row.b) (rest_of (tree? (tree image) row.d))
    (lowered image bindings (row.a + row.b) row.c)
kind_pattern PatKind.Path image bindings p row = path_pattern (target (path_kind row.a) image row.b) image bindings p row.ty
kind_pattern PatKind.Lit image bindings p row = leaf_pattern PatKind.Lit image bindings p row
kind_pattern PatKind.Bind image bindings p row = bind_pattern bindings p row.a (binding_mode row.c) (lowering? image bindings (tree? (tree image) row.b))
kind_pattern PatKind.TupleStruct image bindings p row = variant_pattern image p (word? (variant_word row)) (shape_of image bindings (variant_shape row))
kind_pattern PatKind.Ref image bindings p row = ref_pattern image p (pattern_match_inner image bindings (tree image row.a))
kind_pattern PatKind.Expr image bindings p row = leaf_pattern PatKind.Expr image bindings p row
kind_pattern PatKind.Box image bindings p row = leaf_pattern PatKind.Box image bindings p row
kind_pattern PatKind.Deref image bindings p row = leaf_pattern PatKind.Deref image bindings p row
kind_pattern PatKind.Unknown image bindings p row = leaf_pattern PatKind.Unknown image bindings p row

-- alternatives in a row, and their end
unfoldable pub alternatives_from : List ℕ → List ℕ → ℕ → ℕ → ℕ → MatchingMode → Ctx → BasicBlockId → BasicBlockId → OptBlock → Place → Walk Out
alternatives_from image bindings p from count mode ctx join current els place =
    next (alternatives p (lowered image bindings from count) mode ctx join current place) (λ r. alternatives_end p mode r join els)

-- a Slice pattern behind the items in front: its rest, and the items at the end
unfoldable pub slice_behind : List ℕ → List ℕ → ℕ → ℕ → ℕ → ℕ → ℕ → Lowering
slice_behind image bindings p rest from front back mode ctx current els place =
    next (rest_bound (rest_of (tree? (tree image) rest)) bindings p front back mode ctx current els place) (λ r.
    pattern_match_adt p (suffix_items back) (lowered image bindings from back) mode r.ctx r.then r.else place)
