-- The rules of document 01's section "The image" on the frame, the types, the variants and the bindings, each under a name, in the document's order.
-- Its words stand in quotation marks. Assumes nothing: these are definitions.
use Rattle.std.specs.Prelude.{ℕ, zero, suc, ◌+◌, Bool, true, false, not, ◌&&◌, ◌||◌, List, [], ◌∷◌, eqb, leb, ltb, length}
use Rattle.image.specs.declared.kinds.TypeKind.{TypeKind}
use Rattle.image.specs.declared.kinds.AdtKind.{AdtKind}
use Rattle.image.specs.declared.rows.TypeRow.{TypeRow}
use Rattle.image.specs.Bytes.{byte_at, long_at}
use Rattle.image.specs.Tables.{type_count, variant_count, pattern_count, binding_count, list_count, data_count, tables_end}
use Rattle.image.specs.Kinds.{type_kind, adt_kind}
use Rattle.image.specs.Rows.{type_at, variant_at, binding_at, list_at}
use Rattle.image.specs.Lists.{all_in, distinct, up_from, gather}

-- "Four bytes, big-endian: how many bytes follow."
unfoldable pub counts_what_follows : List ℕ → Bool
counts_what_follows image = leb 4 (length image) && eqb (length image) (4 + long_at image 0)

-- "Then version byte 1."
unfoldable pub version_is_one : List ℕ → Bool
version_is_one image = eqb (byte_at image 4) 1

-- "six counts T V P B L D, and those tables, nothing after"
unfoldable pub tables_fill_the_rest : List ℕ → Bool
tables_fill_the_rest image = eqb (length image) (tables_end image)

-- "65535 means absent."
abbrev pub absent : ℕ
absent = 65535

-- A flag is set by 1 and not set by any other word, and is never absent.
abbrev pub is_flag : ℕ → Bool
is_flag w = not (eqb w absent)

-- a range lies in its table: from its start, as many as its count, also where that is 0
abbrev pub in_table : ℕ → ℕ → ℕ → Bool
in_table from count table = leb (from + count) table

-- a number that names a type
abbrev pub names_type : List ℕ → ℕ → Bool
names_type image t = ltb t (type_count image)

-- the words of the list from `from` on, each `step` behind the one before, `count` of them
unfoldable pub listed : List ℕ → ℕ → ℕ → ℕ → List ℕ
listed image step from zero = []
listed image step from (suc count) = list_at image from ∷ listed image step (from + step) count

-- a range of the list that names types
unfoldable pub types_listed : List ℕ → ℕ → ℕ → Bool
types_listed image from count = in_table from count (list_count image) && all_in (names_type image) (listed image 1 from count)

-- "integer of a bytes (1, 2, 4, 8, 16)"
unfoldable pub is_integer_size : ℕ → Bool
is_integer_size a = eqb a 1 || eqb a 2 || eqb a 4 || eqb a 8 || eqb a 16

-- "a struct or union has one, an enum 1 to 64"
unfoldable pub adt_may_have : AdtKind → ℕ → Bool
adt_may_have AdtKind.Struct count = eqb count 1
adt_may_have AdtKind.Union count = eqb count 1
adt_may_have AdtKind.Enum count = leb 1 count && leb count 64
adt_may_have AdtKind.Unknown count = false

-- "1 integer of a bytes, signed if b is 1; 2 bool; 3 char; 4 str; 5 tuple, b list words from a; 6 ADT, b variants from a, c 0 struct, 1 enum,
-- 2 union; 7 reference to a; 8 array of b of a; 9 slice of a"
unfoldable pub type_shape_holds : TypeKind → List ℕ → TypeRow → Bool
type_shape_holds TypeKind.Integer image row = is_integer_size row.a && is_flag row.b
type_shape_holds TypeKind.Bool image row = true
type_shape_holds TypeKind.Char image row = true
type_shape_holds TypeKind.Str image row = true
type_shape_holds TypeKind.Tuple image row = types_listed image row.a row.b
type_shape_holds TypeKind.Adt image row = in_table row.a row.b (variant_count image) && adt_may_have (adt_kind row.c) row.b
type_shape_holds TypeKind.Reference image row = names_type image row.a
type_shape_holds TypeKind.Array image row = names_type image row.a && not (eqb row.b absent)
type_shape_holds TypeKind.Slice image row = names_type image row.a
type_shape_holds TypeKind.Unknown image row = false

-- "Type (5 words): kind, a, b, c, copy flag."
unfoldable pub type_holds : List ℕ → ℕ → Bool
type_holds image t = is_flag (type_at image t).copy && type_shape_holds (type_kind (type_at image t).kind) image (type_at image t)

-- the variants of a type: those of an ADT
unfoldable pub variants_by : TypeKind → TypeRow → List ℕ
variants_by TypeKind.Integer row = []
variants_by TypeKind.Bool row = []
variants_by TypeKind.Char row = []
variants_by TypeKind.Str row = []
variants_by TypeKind.Tuple row = []
variants_by TypeKind.Adt row = up_from row.a row.b
variants_by TypeKind.Reference row = []
variants_by TypeKind.Array row = []
variants_by TypeKind.Slice row = []
variants_by TypeKind.Unknown row = []

abbrev pub variants_of : List ℕ → ℕ → List ℕ
variants_of image t = variants_by (type_kind (type_at image t).kind) (type_at image t)

-- "ADTs share no variant"
unfoldable pub adts_share_no_variant : List ℕ → Bool
adts_share_no_variant image = distinct (gather (variants_of image) 0 (type_count image))

-- "Variant (3): first field type in the list, field count, offset of 16 little-endian discriminant bytes."
unfoldable pub variant_holds : List ℕ → ℕ → Bool
variant_holds image v =
    types_listed image (variant_at image v).fields (variant_at image v).count
    && in_table (variant_at image v).discriminant 16 (data_count image)

-- "Binding (2): type, picked flag"
unfoldable pub binding_holds : List ℕ → ℕ → Bool
binding_holds image b = names_type image (binding_at image b).ty && is_flag (binding_at image b).picked

-- "At most T 256, V 512, P 512 (at least 1), B 256, L 2,048, D 16,384."
unfoldable pub within_limits : List ℕ → Bool
within_limits image =
    leb (type_count image) 256
    && leb (variant_count image) 512
    && (leb 1 (pattern_count image) && leb (pattern_count image) 512)
    && leb (binding_count image) 256
    && leb (list_count image) 2048
    && leb (data_count image) 16384
