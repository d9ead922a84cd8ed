-- What is known of the tables and the rows of a sheet that keeps its rules. Assumes nothing.
use Rattle.std.specs.Prelude.{Some, None}
use Prim.Native.Nat.{ℕ, zero, suc, ◌+◌, ◌≤◌, ◌<◌}
use mathlib.Core.Path.{◌≡◌, refl}
use mathlib.Core.Bool.{Bool, true, false, cond, not}
use mathlib.Core.List.{List}
use native.Mathlib.Omega.{arith}
use borrow.Author.Tests.{leb-true, ltb-true}
use lib.Dec.{leb, eqb}
use Rattle.image.specs.declared.Tables.{Tables}
use Rattle.image.specs.Tables.{type_count, variant_count, list_count, data_count, tables_of, Whole}
use Rattle.image.specs.Kinds.{type_kind, adt_kind}
use Rattle.image.specs.Rows.{type_at, variant_at, list_at}
use Rattle.image.specs.Lists.{all_in, all_true}
use Rattle.image.specs.Rules.{in_table, names_type, listed, types_listed, adt_may_have, type_shape_holds, type_holds, variant_holds}
use Rattle.image.proofs.Bools.{and_left, and_right, all_true_at, below_at}
use Rattle.image.proofs.Known.{type_shape}
use Rattle.type_sheets.specs.Sheets.{sheet_rules, sheet_holds}
use Rattle.type_sheets.specs.Reading.{sheet_of, sheet_framed}
use Rattle.type_sheets.proofs.Frames.{whole_of, fills, within}

module _ (sheet : List ℕ) where
  pub frame_known : sheet_holds sheet ≡ true → sheet_framed sheet ≡ true
  unfolding sheet_holds sheet_framed all_true
  frame_known v = rw (all_true_at (sheet_rules sheet) 0 v, all_true_at (sheet_rules sheet) 1 v, all_true_at (sheet_rules sheet) 2 v, all_true_at (sheet_rules sheet) 10 v)

  -- the places that reading a sheet answers
  pub sheet_read : (tables : Tables) → Some tables ≡ sheet_of sheet → (sheet_holds sheet ≡ true) × Whole sheet tables
  unfolding sheet_of
  sheet_read tables e = go (sheet_holds sheet) refl e
    where
      go : (b : Bool) → sheet_holds sheet ≡ b → Some tables ≡ cond b (Some (tables_of sheet)) None → (sheet_holds sheet ≡ true) × Whole sheet tables
      go true f q =
          let same : tables ≡ tables_of sheet = cc in
          (f, rw same (whole_of sheet (fills sheet (frame_known f))))
      go false f q = absurd (let z : ◌≡◌ {A = ℕ} 0 1 = cc in omega arith)

  pub sheet_refused : None ≡ sheet_of sheet → sheet_holds sheet ≡ false
  unfolding sheet_of
  sheet_refused e = go (sheet_holds sheet) e
    where
      go : (b : Bool) → None ≡ cond b (Some (tables_of sheet)) None → b ≡ false
      go true q = absurd (let z : ◌≡◌ {A = ℕ} 0 1 = cc in omega arith)
      go false q = refl

  pub few_types : sheet_holds sheet ≡ true → type_count sheet ≤ 256
  few_types v = (within sheet (frame_known v)).0

  pub few_variants : sheet_holds sheet ≡ true → variant_count sheet ≤ 512
  few_variants v = (within sheet (frame_known v)).1

  pub short_list : sheet_holds sheet ≡ true → list_count sheet ≤ 2048
  short_list v = (within sheet (frame_known v)).3

  -- what a type's kind asks of its row
  shape : (t : ℕ) → sheet_holds sheet ≡ true → t < type_count sheet → type_shape_holds (type_kind (type_at sheet t).kind) sheet (type_at sheet t) ≡ true
  unfolding sheet_holds
  shape t v h = type_shape sheet t (below_at (type_holds sheet) (type_count sheet) t (all_true_at (sheet_rules sheet) 3 v) h)

  -- a reference's target, an array's element and a slice's are types
  pub target_type : (t : ℕ) → sheet_holds sheet ≡ true → t < type_count sheet → (type_at sheet t).kind ≡ 7 → (type_at sheet t).a < type_count sheet
  unfolding type_shape_holds
  target_type t v h e = ltb-true _ _ (rw e at (shape t v h))

  pub array_element : (t : ℕ) → sheet_holds sheet ≡ true → t < type_count sheet → (type_at sheet t).kind ≡ 8 → (type_at sheet t).a < type_count sheet
  unfolding type_shape_holds
  array_element t v h e = ltb-true _ _ (and_left (names_type sheet (type_at sheet t).a) (not (eqb (type_at sheet t).b 65535)) (rw e at (shape t v h)))

  pub slice_element : (t : ℕ) → sheet_holds sheet ≡ true → t < type_count sheet → (type_at sheet t).kind ≡ 9 → (type_at sheet t).a < type_count sheet
  unfolding type_shape_holds
  slice_element t v h e = ltb-true _ _ (rw e at (shape t v h))

  -- a tuple's fields are listed, and an ADT's variants lie in the table
  pub tuple_types : (t : ℕ) → sheet_holds sheet ≡ true → t < type_count sheet → (type_at sheet t).kind ≡ 5 → types_listed sheet (type_at sheet t).a (type_at sheet t).b ≡ true
  unfolding type_shape_holds
  tuple_types t v h e = rw e at (shape t v h)

  pub adt_within : (t : ℕ) → sheet_holds sheet ≡ true → t < type_count sheet → (type_at sheet t).kind ≡ 6 → (type_at sheet t).a + (type_at sheet t).b ≤ variant_count sheet
  unfolding type_shape_holds
  adt_within t v h e =
      let row = type_at sheet t in
      leb-true _ _ (and_left (in_table row.a row.b (variant_count sheet)) (adt_may_have (adt_kind row.c) row.b) (rw e at (shape t v h)))

  pub variant_types : (v : ℕ) → sheet_holds sheet ≡ true → v < variant_count sheet → types_listed sheet (variant_at sheet v).fields (variant_at sheet v).count ≡ true
  unfolding sheet_holds variant_holds
  variant_types v e h =
      let row = variant_at sheet v in
      and_left (types_listed sheet row.fields row.count) (in_table row.discriminant 16 (data_count sheet)) (below_at (variant_holds sheet) (variant_count sheet) v (all_true_at (sheet_rules sheet) 4 e) h)

  -- each field that is listed is a type
  listed_at : (from count i : ℕ) → all_in (names_type sheet) (listed sheet 1 from count) ≡ true → i < count → list_at sheet (from + i) < type_count sheet
  unfolding listed all_in
  listed_at from zero i e h = absurd (omega arith)
  listed_at from (suc count) zero e h = let same : from + 0 ≡ from = omega arith in rw same (ltb-true _ _ (and_left (names_type sheet (list_at sheet from)) (all_in (names_type sheet) (listed sheet 1 (from + 1) count)) e))
  listed_at from (suc count) (suc i) e h =
      let next = listed_at (from + 1) count i (and_right (names_type sheet (list_at sheet from)) (all_in (names_type sheet) (listed sheet 1 (from + 1) count)) e) (omega arith) in
      let same : from + 1 + i ≡ from + suc i = omega arith in
      rw same at next

  pub listed_type : (from count i : ℕ) → types_listed sheet from count ≡ true → i < count → (from + i < list_count sheet) × (list_at sheet (from + i) < type_count sheet)
  unfolding types_listed
  listed_type from count i e h =
      let here = leb (from + count) (list_count sheet) in
      let types = all_in (names_type sheet) (listed sheet 1 from count) in
      let room = leb-true (from + count) (list_count sheet) (and_left here types e) in
      (omega arith, listed_at from count i (and_right here types e) h)
