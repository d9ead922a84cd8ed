-- The rules of document 01's section "The image" on patterns, and of the paragraph after it. Its words stand in quotation marks.
-- Assumes nothing: these are definitions.
use Rattle.std.specs.Prelude.{ℕ, ◌+◌, ◌*◌, Bool, true, false, ◌&&◌, ◌||◌, List, eqb, leb, ltb}
use Rattle.image.specs.declared.kinds.PatKind.{PatKind}
use Rattle.image.specs.declared.kinds.PathKind.{PathKind}
use Rattle.image.specs.declared.rows.PatRow.{PatRow}
use Rattle.image.specs.Tables.{variant_count, pattern_count, binding_count, list_count}
use Rattle.image.specs.Kinds.{pat_kind, path_kind}
use Rattle.image.specs.Rows.{pat_at, operand_at}
use Rattle.image.specs.Lists.{all_in, distinct, gather}
use Rattle.image.specs.Operands.{operand_holds}
use Rattle.image.specs.Rules.{absent, is_flag, in_table, names_type}
use Rattle.image.specs.Subpatterns.{subpatterns}

-- "Absent is allowed for ellipsis, Record's field and variant, TupleStruct's variant, range ends, rest, subpattern."
-- (An ellipsis and a field are any word; a rest and a subpattern that are absent are no subpatterns.)
abbrev pub variant_or_absent : List ℕ → ℕ → Bool
variant_or_absent image v = eqb v absent || ltb v (variant_count image)

abbrev pub operand_or_absent : List ℕ → ℕ → Bool
operand_or_absent image o = eqb o absent || operand_holds image o

-- "9 Path (a: 0 unresolved, 1 variant b, 2 local binding b, 3 constant, b an operand of kind 8, 4 other)"
unfoldable pub path_holds : PathKind → List ℕ → ℕ → Bool
path_holds PathKind.Unresolved image b = true
path_holds PathKind.Variant image b = ltb b (variant_count image)
path_holds PathKind.Local image b = ltb b (binding_count image)
path_holds PathKind.Constant image b = operand_holds image b && eqb (operand_at image b).kind 8
path_holds PathKind.Other image b = true
path_holds PathKind.Unknown image b = false

-- "0 Missing, 1 Rest, 2 NotNull, 3 Wild, 4 Tuple (list, count, ellipsis), 5 Or (list, count), 6 Record (list of field, pattern; count; variant),
-- 7 Range (start, end, 1 if half-open), 8 Slice (list, prefix count, suffix count, rest), 9 Path, 10 Lit (operand), 11 Bind (binding, subpattern,
-- mode, annotation), 12 TupleStruct (list, count, ellipsis, variant), 13 Ref (a), 14 Expr, 15 Box, 16 Deref"
unfoldable pub pattern_shape_holds : PatKind → List ℕ → PatRow → Bool
pattern_shape_holds PatKind.Missing image row = true
pattern_shape_holds PatKind.Rest image row = true
pattern_shape_holds PatKind.NotNull image row = true
pattern_shape_holds PatKind.Wild image row = true
pattern_shape_holds PatKind.Tuple image row = in_table row.a row.b (list_count image)
pattern_shape_holds PatKind.Or image row = in_table row.a row.b (list_count image)
pattern_shape_holds PatKind.Record image row = in_table row.a (2 * row.b) (list_count image) && variant_or_absent image row.c
pattern_shape_holds PatKind.Range image row = operand_or_absent image row.a && operand_or_absent image row.b && is_flag row.c
pattern_shape_holds PatKind.Slice image row = in_table row.a (row.b + row.c) (list_count image)
pattern_shape_holds PatKind.Path image row = path_holds (path_kind row.a) image row.b
pattern_shape_holds PatKind.Lit image row = operand_holds image row.a
pattern_shape_holds PatKind.Bind image row = ltb row.a (binding_count image) && leb row.c 2 && leb row.d 2
pattern_shape_holds PatKind.TupleStruct image row = in_table row.a row.b (list_count image) && variant_or_absent image row.d
pattern_shape_holds PatKind.Ref image row = true
pattern_shape_holds PatKind.Expr image row = true
pattern_shape_holds PatKind.Box image row = true
pattern_shape_holds PatKind.Deref image row = true
pattern_shape_holds PatKind.Unknown image row = false

-- "Pattern (7): kind, type, derefs (0 to 16), a b c d."
unfoldable pub pattern_holds : List ℕ → ℕ → Bool
pattern_holds image p =
    names_type image (pat_at image p).ty
    && leb (pat_at image p).derefs 16
    && pattern_shape_holds (pat_kind (pat_at image p).kind) image (pat_at image p)

-- "A subpattern's number is below its parent's"
unfoldable pub subpatterns_below : List ℕ → ℕ → Bool
subpatterns_below image p = all_in (λ q. ltb q p) (subpatterns image p)

-- "and each is used at most once"
unfoldable pub used_once : List ℕ → Bool
used_once image = distinct (gather (subpatterns image) 0 (pattern_count image))
