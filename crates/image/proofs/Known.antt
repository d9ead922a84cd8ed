-- What is known of the rows of a valid image. Assumes nothing.
use Prim.Native.Nat.{ℕ, ◌+◌, ◌≤◌, ◌<◌}
use mathlib.Core.Path.{◌≡◌}
use mathlib.Core.Bool.{true, ◌&&◌, false≢true}
use mathlib.Core.List.{List}
use native.Mathlib.Omega.{arith}
use borrow.Author.Tests.{leb-true, eqb-true}
use lib.Dec.{leb}
use Rattle.image.specs.declared.kinds.TypeKind.{TypeKind}
use Rattle.image.specs.declared.kinds.AdtKind.{AdtKind}
use Rattle.image.specs.declared.rows.TypeRow.{TypeRow}
use Rattle.image.specs.Tables.{type_count, variant_count, pattern_count, binding_count, list_count, data_count}
use Rattle.image.specs.Kinds.{type_kind, adt_kind}
use Rattle.image.specs.Rows.{type_at, variant_at}
use Rattle.image.specs.Lists.{all_in}
use Rattle.image.specs.Rules.{is_flag, in_table, names_type, listed, types_listed, adt_may_have, type_shape_holds, type_holds, variant_holds, binding_holds}
use Rattle.image.specs.Patterns.{pattern_holds}
use Rattle.image.specs.Valid.{rules, valid}
use Rattle.image.proofs.Bools.{and_left, and_right, all_true_at, below_at}

module _ (image : List ℕ) where
  pub type_holds_lem : (t : ℕ) → valid image ≡ true → t < type_count image → type_holds image t ≡ true
  unfolding valid
  type_holds_lem t v h = below_at (type_holds image) (type_count image) t (all_true_at (rules image) 3 v) h

  pub variant_holds_lem : (v : ℕ) → valid image ≡ true → v < variant_count image → variant_holds image v ≡ true
  unfolding valid
  variant_holds_lem v e h = below_at (variant_holds image) (variant_count image) v (all_true_at (rules image) 4 e) h

  pub pattern_holds_lem : (p : ℕ) → valid image ≡ true → p < pattern_count image → pattern_holds image p ≡ true
  unfolding valid
  pattern_holds_lem p v h = below_at (pattern_holds image) (pattern_count image) p (all_true_at (rules image) 6 v) h

  pub binding_holds_lem : (b : ℕ) → valid image ≡ true → b < binding_count image → binding_holds image b ≡ true
  unfolding valid
  binding_holds_lem b v h = below_at (binding_holds image) (binding_count image) b (all_true_at (rules image) 7 v) h

  -- what a type's kind asks of its row
  pub type_shape : (t : ℕ) → type_holds image t ≡ true → type_shape_holds (type_kind (type_at image t).kind) image (type_at image t) ≡ true
  unfolding type_holds
  type_shape t e = and_right (is_flag (type_at image t).copy) (type_shape_holds (type_kind (type_at image t).kind) image (type_at image t)) e

  pub shape_holds : (t : ℕ) → valid image ≡ true → t < type_count image → type_shape_holds (type_kind (type_at image t).kind) image (type_at image t) ≡ true
  shape_holds t v h = type_shape t (type_holds_lem t v h)

  -- a range of the list that names types lies in the list
  pub in_list : (from count : ℕ) → types_listed image from count ≡ true → from + count ≤ list_count image
  unfolding types_listed
  in_list from count e = leb-true (from + count) (list_count image) (and_left (leb (from + count) (list_count image)) (all_in (names_type image) (listed image 1 from count)) e)

  -- the field types of a variant stand in the list
  pub fields_listed : (v : ℕ) → valid image ≡ true → v < variant_count image → (variant_at image v).fields + (variant_at image v).count ≤ list_count image
  unfolding variant_holds
  fields_listed v e h =
      let row = variant_at image v in
      in_list row.fields row.count (and_left (types_listed image row.fields row.count) (in_table row.discriminant 16 (data_count image)) (variant_holds_lem v e h))

  -- the field types of a tuple stand in the list
  pub tuple_listed : {kind : TypeKind} (row : TypeRow) → kind ≡ TypeKind.Tuple → type_shape_holds kind image row ≡ true → row.a + row.b ≤ list_count image
  unfolding type_shape_holds
  tuple_listed row e h = in_list row.a row.b (rw e at h)

  -- an ADT has variants, and they lie in the table
  pub adt_variants_lem : {kind : TypeKind} (row : TypeRow) → kind ≡ TypeKind.Adt → type_shape_holds kind image row ≡ true → (0 < row.b) × (row.a + row.b ≤ variant_count image)
  unfolding type_shape_holds
  adt_variants_lem row e h =
      let here = in_table row.a row.b (variant_count image) in
      let count = adt_may_have (adt_kind row.c) row.b in
      let holds : here && count ≡ true = rw e at h in
      (some (adt_kind row.c) row.b (and_right here count holds), leb-true (row.a + row.b) (variant_count image) (and_left here count holds))
    where
      some : (k : AdtKind) (n : ℕ) → adt_may_have k n ≡ true → 0 < n
      some AdtKind.Struct n q = omega (arith, eqb-true n 1 (unfold adt_may_have in q))
      some AdtKind.Enum n q = leb-true 1 n (and_left (leb 1 n) (leb n 64) (unfold adt_may_have in q))
      some AdtKind.Union n q = omega (arith, eqb-true n 1 (unfold adt_may_have in q))
      some AdtKind.Unknown n q = absurd (false≢true (unfold adt_may_have in q))
