-- What a pattern's row says, by its kind: of the pattern itself, and of the patterns below it. Assumes nothing: these are definitions.
use Rattle.std.specs.Prelude.{ℕ, ◌+◌, ◌<◌, ◌≡◌, Bool, true, false, ◌&&◌, ◌||◌, List, map, eqb, leb, length}
use Rattle.std.proofs.Math.Option.{some}
use Rattle.image.specs.declared.Tables.{Tables}
use Rattle.image.specs.declared.kinds.PatKind.{PatKind}
use Rattle.image.specs.declared.kinds.PathKind.{PathKind}
use Rattle.image.specs.declared.rows.PatRow.{PatRow}
use Rattle.image.specs.Kinds.{path_kind}
use Rattle.image.specs.Lists.{all_true}
use Rattle.image.specs.Rules.{listed}
use Rattle.image.specs.Types.{Shape, integer, bool, char, str, tuple, adt, reference, array, slice, unknown, ty_of}
use Rattle.image.specs.Tree.{trees, tree?, tree, word?, operand?, target}
use Rattle.counting.specs.Reaching.{is_enum, is_slice_shape}
use Rattle.cases_spec.specs.Cases.{kind_number}
use Rattle.meaning.specs.Values.{has_values, has_variant}
use Rattle.meaning.specs.Typing.{variant_fields}
use Rattle.meaning.specs.Fit.{is_there, fields_there, ellipsis_within, has_local, path_taken, rest_taken?}
use Rattle.fit_types.specs.Parts.{Node}
use Rattle.fit_own.specs.declared.Reached.{Reached}
use Rattle.fit_own.specs.Failing.{some_true, failures}
use Rattle.fit_own.specs.Taking.{all_taken, reached_taken}
use Rattle.fit_own.specs.Answers.{reached_as, reached_by, reached_by?}

-- of the patterns that the list names from `at` on
unfoldable pub failures_at : List ℕ → ℕ → ℕ → ℕ → List Bool
failures_at image step at count = failures image (trees (tree image) (listed image step at count))

unfoldable pub taken_at : List ℕ → List ℕ → ℕ → ℕ → ℕ → Bool
taken_at image bindings step at count = all_taken image bindings (trees (tree image) (listed image step at count))

unfoldable pub reached_at : List ℕ → List ℕ → ℕ → ℕ → Bool
reached_at image bindings at count = reached_taken image bindings (trees (tree image) (listed image 1 at count))

-- the walk's answer of them: all are reached, or they are alternatives
abbrev pub row_reached : List ℕ → List ℕ → ℕ → ℕ → ℕ → Reached
row_reached image bindings step at count = reached_as (taken_at image bindings step at count) (some_true (failures_at image step at count))

abbrev pub alts_reached : List ℕ → List ℕ → ℕ → ℕ → Reached
alts_reached image bindings at count = reached_as (reached_at image bindings at count) (all_true (failures_at image 1 at count))

-- a struct or an enum
unfoldable pub valued : Shape → Bool
valued (integer size signed) = false
valued bool = false
valued char = false
valued str = false
valued (tuple fields) = false
valued (adt kind variants) = has_values kind
valued (reference t) = false
valued (array t n) = false
valued (slice t) = false
valued unknown = false

-- a Path that has a test, by its kind
abbrev pub path_kind_fails : Shape → PathKind → Bool
path_kind_fails shape PathKind.Unresolved = false
path_kind_fails shape PathKind.Variant = is_enum (some shape)
path_kind_fails shape PathKind.Local = false
path_kind_fails shape PathKind.Constant = true
path_kind_fails shape PathKind.Other = false
path_kind_fails shape PathKind.Unknown = false

-- the binding of a rest has a local, by the rest's kind; only of a Bind is the word a of its row a binding
abbrev pub rest_kind_taken : List ℕ → PatKind → ℕ → Bool
rest_kind_taken bindings PatKind.Missing a = true
rest_kind_taken bindings PatKind.Rest a = true
rest_kind_taken bindings PatKind.NotNull a = true
rest_kind_taken bindings PatKind.Wild a = true
rest_kind_taken bindings PatKind.Tuple a = true
rest_kind_taken bindings PatKind.Or a = true
rest_kind_taken bindings PatKind.Record a = true
rest_kind_taken bindings PatKind.Range a = true
rest_kind_taken bindings PatKind.Slice a = true
rest_kind_taken bindings PatKind.Path a = true
rest_kind_taken bindings PatKind.Lit a = true
rest_kind_taken bindings PatKind.Bind a = has_local bindings a
rest_kind_taken bindings PatKind.TupleStruct a = true
rest_kind_taken bindings PatKind.Ref a = true
rest_kind_taken bindings PatKind.Expr a = true
rest_kind_taken bindings PatKind.Box a = true
rest_kind_taken bindings PatKind.Deref a = true
rest_kind_taken bindings PatKind.Unknown a = true

-- a binding of a rest is one of the table
abbrev pub RestNamed : List ℕ → PatKind → ℕ → Type 0
RestNamed bindings kind a = kind ≡ PatKind.Bind → a < length bindings

-- a Tuple itself is not refused; a Record, a TupleStruct, a Slice
abbrev pub tuple_taken : List ℕ → PatRow → Bool
tuple_taken image row = eqb (kind_number (ty_of image row.ty).shape) 5 && ellipsis_within (word? row.c) row.b

abbrev pub record_taken : List ℕ → PatRow → Bool
record_taken image row =
    let shape = (ty_of image row.ty).shape in
    has_variant shape (word? row.c) && fields_there (map word? (listed image 2 row.a row.b)) (length (variant_fields image shape (word? row.c)))

abbrev pub tuple_struct_taken : List ℕ → PatRow → Bool
tuple_struct_taken image row = has_variant (ty_of image row.ty).shape (word? row.d) && ellipsis_within (word? row.c) row.b

abbrev pub slice_taken : List ℕ → List ℕ → PatRow → Bool
slice_taken image bindings row = leb 8 (kind_number (ty_of image row.ty).shape) && rest_taken? bindings (tree? (tree image) row.d)

-- a pattern itself is not refused
unfoldable pub own_taken : List ℕ → List ℕ → PatKind → PatRow → Bool
own_taken image bindings PatKind.Missing row = false
own_taken image bindings PatKind.Rest row = false
own_taken image bindings PatKind.NotNull row = false
own_taken image bindings PatKind.Wild row = true
own_taken image bindings PatKind.Tuple row = tuple_taken image row
own_taken image bindings PatKind.Or row = true
own_taken image bindings PatKind.Record row = record_taken image row
own_taken image bindings PatKind.Range row = true
own_taken image bindings PatKind.Slice row = slice_taken image bindings row
own_taken image bindings PatKind.Path row = path_taken (ty_of image row.ty).shape (target (path_kind row.a) image row.b)
own_taken image bindings PatKind.Lit row = true
own_taken image bindings PatKind.Bind row = has_local bindings row.a
own_taken image bindings PatKind.TupleStruct row = tuple_struct_taken image row
own_taken image bindings PatKind.Ref row = eqb (kind_number (ty_of image row.ty).shape) 7
own_taken image bindings PatKind.Expr row = false
own_taken image bindings PatKind.Box row = false
own_taken image bindings PatKind.Deref row = false
own_taken image bindings PatKind.Unknown row = false

-- it has a test
unfoldable pub own_test : List ℕ → PatKind → PatRow → Bool
own_test image PatKind.Missing row = false
own_test image PatKind.Rest row = false
own_test image PatKind.NotNull row = false
own_test image PatKind.Wild row = false
own_test image PatKind.Tuple row = false
own_test image PatKind.Or row = false
own_test image PatKind.Record row = is_enum (some (ty_of image row.ty).shape)
own_test image PatKind.Range row = is_there (operand? image row.a) || is_there (operand? image row.b)
own_test image PatKind.Slice row = is_slice_shape (ty_of image row.ty).shape
own_test image PatKind.Path row = path_kind_fails (ty_of image row.ty).shape (path_kind row.a)
own_test image PatKind.Lit row = true
own_test image PatKind.Bind row = false
own_test image PatKind.TupleStruct row = is_enum (some (ty_of image row.ty).shape)
own_test image PatKind.Ref row = false
own_test image PatKind.Expr row = false
own_test image PatKind.Box row = false
own_test image PatKind.Deref row = false
own_test image PatKind.Unknown row = false

-- the walk's answer of the patterns below it: a Slice's prefix and suffix stand in a row
unfoldable pub below_reached : List ℕ → List ℕ → PatKind → PatRow → Reached
below_reached image bindings PatKind.Missing row = Reached.Sure
below_reached image bindings PatKind.Rest row = Reached.Sure
below_reached image bindings PatKind.NotNull row = Reached.Sure
below_reached image bindings PatKind.Wild row = Reached.Sure
below_reached image bindings PatKind.Tuple row = row_reached image bindings 1 row.a row.b
below_reached image bindings PatKind.Or row = alts_reached image bindings row.a row.b
below_reached image bindings PatKind.Record row = row_reached image bindings 2 (row.a + 1) row.b
below_reached image bindings PatKind.Range row = Reached.Sure
below_reached image bindings PatKind.Slice row = row_reached image bindings 1 row.a (row.b + row.c)
below_reached image bindings PatKind.Path row = Reached.Sure
below_reached image bindings PatKind.Lit row = Reached.Sure
below_reached image bindings PatKind.Bind row = reached_by? image bindings (tree? (tree image) row.b)
below_reached image bindings PatKind.TupleStruct row = row_reached image bindings 1 row.a row.b
below_reached image bindings PatKind.Ref row = reached_by image bindings (tree image row.a)
below_reached image bindings PatKind.Expr row = Reached.Sure
below_reached image bindings PatKind.Box row = Reached.Sure
below_reached image bindings PatKind.Deref row = Reached.Sure
below_reached image bindings PatKind.Unknown row = Reached.Sure

-- the row of some pattern, of this kind
pub record RowOf (image : List ℕ) (tables : Tables) (row : PatRow) (kind : PatKind) : Type 0 where
  pub number : ℕ
  pub node : Node image tables number row kind
