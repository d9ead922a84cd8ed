-- What a pattern of each kind asks besides its own type, by its row; and what is known where a row is tested. Assumes nothing: these are definitions.
use Rattle.std.specs.Prelude.{ℕ, ◌+◌, ◌*◌, ◌≤◌, ◌<◌, ◌≡◌, Bool, true, ◌&&◌, ◌||◌, List, map, ltb}
use Rattle.std.proofs.Math.Option.{some}
use Rattle.image.specs.declared.Tables.{Tables}
use Rattle.image.specs.declared.kinds.PatKind.{PatKind}
use Rattle.image.specs.declared.rows.PatRow.{PatRow}
use Rattle.image.specs.Tables.{Whole, pattern_count, list_count}
use Rattle.image.specs.Kinds.{pat_kind, path_kind}
use Rattle.image.specs.Rows.{pat_at}
use Rattle.image.specs.Lists.{all_in}
use Rattle.image.specs.Rules.{listed}
use Rattle.image.specs.Types.{ty_of, operand_of}
use Rattle.image.specs.Tree.{trees, tree?, tree, word?, operand?, target}
use Rattle.image.specs.Valid.{valid}
use Rattle.cases_spec.specs.Cases.{referent, tuple_fields}
use Rattle.meaning.specs.Typing.{TypeNumber, variant_fields, element_type}
use Rattle.meaning.specs.Fit.{record_fields_differ, discriminants_differ, items_fit, rest_fits, literal_fits, end_fits?, is_there, path_fits, row_fits, by_fields_fit, items_all_fit, types_fit, types_fit?, fitting}

-- the tests of the patterns that the list names from `at` on
unfoldable pub fitting_at : List ℕ → ℕ → ℕ → ℕ → List (TypeNumber → Bool)
fitting_at image step at count = fitting image (trees (tree image) (listed image step at count))

-- what a pattern's row asks, by its kind
unfoldable pub parts_fit : List ℕ → PatKind → PatRow → Bool
parts_fit image PatKind.Missing row = true
parts_fit image PatKind.Rest row = true
parts_fit image PatKind.NotNull row = true
parts_fit image PatKind.Wild row = true
parts_fit image PatKind.Tuple row = row_fits (word? row.c) (fitting_at image 1 row.a row.b) (tuple_fields (ty_of image row.ty).shape)
parts_fit image PatKind.Or row = items_all_fit (fitting_at image 1 row.a row.b) (some row.ty)
parts_fit image PatKind.Record row =
    let shape = (ty_of image row.ty).shape in
    record_fields_differ (map word? (listed image 2 row.a row.b)) && discriminants_differ image shape
    && by_fields_fit (map word? (listed image 2 row.a row.b)) (fitting_at image 2 (row.a + 1) row.b) (variant_fields image shape (word? row.c))
parts_fit image PatKind.Range row =
    let shape = (ty_of image row.ty).shape in
    (is_there (operand? image row.a) || is_there (operand? image row.b)) && end_fits? shape (operand? image row.a) && end_fits? shape (operand? image row.b)
parts_fit image PatKind.Slice row =
    let shape = (ty_of image row.ty).shape in
    items_fit shape (tree? (tree image) row.d) (row.b + row.c) && rest_fits (tree? (tree image) row.d)
    && items_all_fit (fitting_at image 1 row.a row.b) (element_type shape) && items_all_fit (fitting_at image 1 (row.a + row.b) row.c) (element_type shape)
parts_fit image PatKind.Path row = path_fits image (ty_of image row.ty).shape (target (path_kind row.a) image row.b)
parts_fit image PatKind.Lit row = literal_fits (operand_of image row.a).kind image (ty_of image row.ty).shape (operand_of image row.a).bytes
parts_fit image PatKind.Bind row = types_fit? image (tree? (tree image) row.b) (some row.ty)
parts_fit image PatKind.TupleStruct row =
    let shape = (ty_of image row.ty).shape in
    discriminants_differ image shape && row_fits (word? row.c) (fitting_at image 1 row.a row.b) (variant_fields image shape (word? row.d))
parts_fit image PatKind.Ref row = types_fit image (tree image row.a) (referent (ty_of image row.ty).shape)
parts_fit image PatKind.Expr row = true
parts_fit image PatKind.Box row = true
parts_fit image PatKind.Deref row = true
parts_fit image PatKind.Unknown row = true

-- the pattern p of a valid image
pub record Parent (image : List ℕ) (tables : Tables) (p : ℕ) : Type 0 where
  pub sound : valid image ≡ true
  pub whole : Whole image tables
  pub inside : p < pattern_count image

-- its row, of this kind
pub record Node (image : List ℕ) (tables : Tables) (p : ℕ) (row : PatRow) (kind : PatKind) : Type 0 where
  pub parent : Parent image tables p
  pub at : row ≡ pat_at image p
  pub told : kind ≡ pat_kind row.kind

-- patterns that the list names, each below p
pub record Items (image : List ℕ) (p at count : ℕ) : Type 0 where
  pub within : at + count ≤ list_count image
  pub below : all_in (λ q. ltb q p) (listed image 1 at count) ≡ true

-- the same, of a Record: each is the second of two words
pub record Pairs (image : List ℕ) (p at count : ℕ) : Type 0 where
  pub within : at + 2 * count ≤ list_count image
  pub below : all_in (λ q. ltb q p) (listed image 2 (at + 1) count) ≡ true
