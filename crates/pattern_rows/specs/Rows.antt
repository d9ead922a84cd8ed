-- Arguments in a row, and the shapes of patterns with subpatterns, by the rows of the image. Assumes nothing: these are definitions.
use Rattle.std.specs.Prelude.{ℕ, ◌+◌, ◌*◌, ◌-◌, ◌<◌, ◌≤◌, cond, List, eqb, ltb}
use Rattle.image.specs.declared.kinds.PatKind.{PatKind}
use Rattle.image.specs.declared.kinds.TypeKind.{TypeKind}
use Rattle.image.specs.declared.rows.PatRow.{PatRow}
use Rattle.image.specs.Tables.{list_count}
use Rattle.image.specs.Rows.{list_at}
use Rattle.place.specs.declared.elems.ProjectionElem.{ProjectionElem}
use Rattle.pattern_rows.specs.declared.AdtPatternShape.{AdtPatternShape}
use Rattle.pattern_rows.specs.declared.ArgumentRow.{ArgumentRow}
use Rattle.pattern_rows.specs.declared.CompoundKind.{CompoundKind}
use Rattle.pattern_rows.specs.declared.Sequence.{Sequence}

-- the kind of a pattern that has subpatterns or names a variant; of another it is not asked
unfoldable pub compound_kind : PatKind → CompoundKind
compound_kind PatKind.Missing = CompoundKind.Variant
compound_kind PatKind.Rest = CompoundKind.Variant
compound_kind PatKind.NotNull = CompoundKind.Variant
compound_kind PatKind.Wild = CompoundKind.Variant
compound_kind PatKind.Tuple = CompoundKind.Tuple
compound_kind PatKind.Or = CompoundKind.Or
compound_kind PatKind.Record = CompoundKind.Variant
compound_kind PatKind.Range = CompoundKind.Variant
compound_kind PatKind.Slice = CompoundKind.Slice
compound_kind PatKind.Path = CompoundKind.Variant
compound_kind PatKind.Lit = CompoundKind.Variant
compound_kind PatKind.Bind = CompoundKind.Bind
compound_kind PatKind.TupleStruct = CompoundKind.Variant
compound_kind PatKind.Ref = CompoundKind.Ref
compound_kind PatKind.Expr = CompoundKind.Variant
compound_kind PatKind.Box = CompoundKind.Variant
compound_kind PatKind.Deref = CompoundKind.Variant
compound_kind PatKind.Unknown = CompoundKind.Variant

-- the element that the argument i stands for, where there are so many fields, or so many last items
unfoldable pub argument_elem : ArgumentRow → List ℕ → ℕ → ℕ → ℕ → ProjectionElem
argument_elem ArgumentRow.Fields image from fields i = ProjectionElem.Field i
argument_elem ArgumentRow.LastFields image from fields i = ProjectionElem.Field (fields - 1 - i)
argument_elem ArgumentRow.RecordFields image from fields i = ProjectionElem.Field (list_at image (from + 2 * i))
argument_elem ArgumentRow.Items image from fields i = ProjectionElem.Index i
argument_elem ArgumentRow.LastItems image from fields i = ProjectionElem.IndexFromEnd (fields - 1 - i)

-- the number of the pattern that the argument i is
unfoldable pub argument_pat : ArgumentRow → List ℕ → ℕ → ℕ → ℕ
argument_pat ArgumentRow.Fields image from i = list_at image (from + i)
argument_pat ArgumentRow.LastFields image from i = list_at image (from - 1 - i)
argument_pat ArgumentRow.RecordFields image from i = list_at image (from + 2 * i + 1)
argument_pat ArgumentRow.Items image from i = list_at image (from + i)
argument_pat ArgumentRow.LastItems image from i = list_at image (from + i)

-- the words of the argument i lie in the list
abbrev pub ArgumentLies : ArgumentRow → List ℕ → ℕ → ℕ → Type 0
ArgumentLies ArgumentRow.Fields image from i = from + i < list_count image
ArgumentLies ArgumentRow.LastFields image from i = (i < from) × (from ≤ list_count image)
ArgumentLies ArgumentRow.RecordFields image from i = from + 2 * i + 1 < list_count image
ArgumentLies ArgumentRow.Items image from i = from + i < list_count image
ArgumentLies ArgumentRow.LastItems image from i = from + i < list_count image

-- and there is a field or an item for it
abbrev pub ArgumentAt : ArgumentRow → List ℕ → ℕ → ℕ → ℕ → Type 0
ArgumentAt ArgumentRow.Fields image from fields i = Unit
ArgumentAt ArgumentRow.LastFields image from fields i = i < fields
ArgumentAt ArgumentRow.RecordFields image from fields i = from + 2 * i < list_count image
ArgumentAt ArgumentRow.Items image from fields i = Unit
ArgumentAt ArgumentRow.LastItems image from fields i = i < fields

-- the variant's word in the row of a Record (6), a TupleStruct (12) or a Path
unfoldable pub variant_word : PatRow → ℕ
variant_word row = cond (eqb row.kind 6) row.c (cond (eqb row.kind 12) row.d row.b)

-- the arguments of one of these
unfoldable pub variant_shape : PatRow → AdtPatternShape
variant_shape row =
    cond (eqb row.kind 6) (AdtPatternShape.Record row.a row.b) (cond (eqb row.kind 12) (AdtPatternShape.Tuple row.a row.b row.c) AdtPatternShape.Unit)

-- how many arguments stand before the ellipsis: all, where it is absent
unfoldable pub before_ellipsis : ℕ → ℕ → ℕ
before_ellipsis ellipsis count = cond (eqb ellipsis 65535) count ellipsis

-- the smaller of two numbers
unfoldable pub smaller : ℕ → ℕ → ℕ
smaller m n = cond (ltb m n) m n

-- an array, a slice, or another type
unfoldable pub sequence_by : TypeKind → Sequence
sequence_by TypeKind.Integer = Sequence.Other
sequence_by TypeKind.Bool = Sequence.Other
sequence_by TypeKind.Char = Sequence.Other
sequence_by TypeKind.Str = Sequence.Other
sequence_by TypeKind.Tuple = Sequence.Other
sequence_by TypeKind.Adt = Sequence.Other
sequence_by TypeKind.Reference = Sequence.Other
sequence_by TypeKind.Array = Sequence.Array
sequence_by TypeKind.Slice = Sequence.Slice
sequence_by TypeKind.Unknown = Sequence.Other
