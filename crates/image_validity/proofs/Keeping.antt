-- A sheet's own rules stay in an image that is the sheet with more rows. Assumes nothing.
use Prim.Native.Nat.{ℕ, zero, suc, ◌+◌, ◌*◌, ◌≤◌, ◌<◌}
use mathlib.Core.Path.{◌≡◌, refl, ap, ap₂, ◌∙◌}
use mathlib.Core.Bool.{Bool, true, not, ◌&&◌}
use mathlib.Core.List.{List, [], ◌∷◌, ◌++◌, append-nil}
use native.Mathlib.Nat.{mul-suc}
use native.Mathlib.Omega.{arith}
use borrow.Author.Tests.{leb-true, le-leb}
use lib.Dec.{eqb, ltb, leb}
use lib.ListN.{length}
use Rattle.image.specs.declared.kinds.TypeKind.{TypeKind}
use Rattle.image.specs.declared.kinds.PatKind.{PatKind}
use Rattle.image.specs.declared.kinds.PathKind.{PathKind}
use Rattle.image.specs.declared.rows.TypeRow.{TypeRow}
use Rattle.image.specs.declared.rows.PatRow.{PatRow}
use Rattle.image.specs.Tables.{type_count, variant_count, pattern_count, binding_count, list_count, data_count}
use Rattle.image.specs.Kinds.{type_kind, pat_kind, path_kind, operand_kind, adt_kind}
use Rattle.image.specs.Rows.{type_at, variant_at, pat_at, binding_at, operand_at, operand_bytes}
use Rattle.image.specs.Lists.{all_in, gather}
use Rattle.image.specs.Operands.{operand_value_holds, operand_lies, operand_holds}
use Rattle.image.specs.Rules.{absent, is_flag, in_table, names_type, listed, types_listed, adt_may_have, type_shape_holds, type_holds, variants_by, variants_of, adts_share_no_variant, variant_holds, binding_holds}
use Rattle.image.specs.Subpatterns.{if_present, subpatterns_by, subpatterns}
use Rattle.image.specs.Patterns.{variant_or_absent, operand_or_absent, path_holds, pattern_shape_holds, pattern_holds, subpatterns_below, used_once}
use Rattle.image.proofs.Bools.{and_left, and_right, and_true, all_true_at, below_at}
use Rattle.type_sheets.specs.Sheets.{sheet_rules, sheet_holds}
use Rattle.pattern_images.specs.Drafts.{Draft}
use Rattle.image_growth.specs.Growing.{Grown}
use Rattle.image_growth.proofs.Grows.{sheet_filled}
use Rattle.image_growth.proofs.Operands.{operand_kept, operand_bytes_kept}
use Rattle.image_validity.proofs.Tests.{in_weaker, ltb_more, leb_more, or_cases, or_left, or_right, and_first, and_second, and_third, and_three, gather_split, gather_same, gather_none}

-- what is known of a sheet that keeps its rules
module _ (sheet : List ℕ) (holds : sheet_holds sheet ≡ true) where
  pub sheet_type : (t : ℕ) → t < type_count sheet → type_holds sheet t ≡ true
  unfolding sheet_holds
  sheet_type t lt = below_at (type_holds sheet) (type_count sheet) t (all_true_at (sheet_rules sheet) 3 holds) lt

  pub sheet_variant : (v : ℕ) → v < variant_count sheet → variant_holds sheet v ≡ true
  unfolding sheet_holds
  sheet_variant v lt = below_at (variant_holds sheet) (variant_count sheet) v (all_true_at (sheet_rules sheet) 4 holds) lt

  pub sheet_pattern : (p : ℕ) → p < pattern_count sheet → pattern_holds sheet p ≡ true
  unfolding sheet_holds
  sheet_pattern p lt = below_at (pattern_holds sheet) (pattern_count sheet) p (all_true_at (sheet_rules sheet) 6 holds) lt

  pub sheet_binding : (b : ℕ) → b < binding_count sheet → binding_holds sheet b ≡ true
  unfolding sheet_holds
  sheet_binding b lt = below_at (binding_holds sheet) (binding_count sheet) b (all_true_at (sheet_rules sheet) 7 holds) lt

  pub sheet_below : (p : ℕ) → p < pattern_count sheet → subpatterns_below sheet p ≡ true
  unfolding sheet_holds
  sheet_below p lt = below_at (subpatterns_below sheet) (pattern_count sheet) p (all_true_at (sheet_rules sheet) 8 holds) lt

  pub sheet_once : used_once sheet ≡ true
  unfolding sheet_holds
  sheet_once = all_true_at (sheet_rules sheet) 9 holds

-- what a pattern's kind asks of its row
pub pattern_shape : (image : List ℕ) (p : ℕ) → pattern_holds image p ≡ true → pattern_shape_holds (pat_kind (pat_at image p).kind) image (pat_at image p) ≡ true
unfolding pattern_holds
pattern_shape image p h =
    let row = pat_at image p in
    let shape = pattern_shape_holds (pat_kind row.kind) image row in
    and_third (names_type image row.ty) (leb row.derefs 16) shape h

-- the three words of an operand that holds lie in the list
pub operand_inside : (image : List ℕ) (o : ℕ) → operand_holds image o ≡ true → o + 3 ≤ list_count image
unfolding operand_holds
operand_inside image o e =
    let row = operand_at image o in
    leb-true (o + 3) (list_count image)
    (and_first (leb (o + 3) (list_count image)) (operand_lies image row) (operand_value_holds (operand_kind row.kind) (operand_bytes image row)) e)

module _ (sheet : List ℕ) (d : Draft) (image : List ℕ) (g : Grown sheet d image) (holds : sheet_holds sheet ≡ true) where
  pub names_kept : (t : ℕ) → names_type sheet t ≡ true → names_type image t ≡ true
  names_kept t e = ltb_more t (type_count sheet) (type_count image) (omega (arith, g.types_are)) e

  in_list_kept : (from count : ℕ) → in_table from count (list_count sheet) ≡ true → in_table from count (list_count image) ≡ true
  in_list_kept from count e = leb_more (from + count) (list_count sheet) (list_count image) (omega (arith, g.words_are)) e

  -- words of the sheet's list
  pub listed_kept : (step from count : ℕ) → from + step * count < list_count sheet + step → listed image step from count ≡ listed sheet step from count
  unfolding listed
  listed_kept step from zero h = refl
  listed_kept step from (suc count) h =
      ap₂ ◌∷◌ (g.words.kept from (omega (arith, mul-suc step count))) (listed_kept step (from + step) count (omega (arith, mul-suc step count)))

  listed_one : (from count : ℕ) → in_table from count (list_count sheet) ≡ true → listed image 1 from count ≡ listed sheet 1 from count
  listed_one from count e = listed_kept 1 from count (omega (arith, leb-true (from + count) (list_count sheet) e))

  types_listed_kept : (from count : ℕ) → types_listed sheet from count ≡ true → types_listed image from count ≡ true
  unfolding types_listed
  types_listed_kept from count e =
      let here = in_table from count (list_count sheet) in
      let named = all_in (names_type sheet) (listed sheet 1 from count) in
      let inside = and_left here named e in
      and_true (in_table from count (list_count image)) (all_in (names_type image) (listed image 1 from count)) (in_list_kept from count inside)
      (rw (listed_one from count inside) (in_weaker (names_type sheet) (names_type image) (listed sheet 1 from count) names_kept (and_right here named e)))

  type_shape_kept : (k : TypeKind) (row : TypeRow) → type_shape_holds k sheet row ≡ true → type_shape_holds k image row ≡ true
  unfolding type_shape_holds
  type_shape_kept TypeKind.Unknown row e = e
  type_shape_kept TypeKind.Integer row e = e
  type_shape_kept TypeKind.Bool row e = e
  type_shape_kept TypeKind.Char row e = e
  type_shape_kept TypeKind.Str row e = e
  type_shape_kept TypeKind.Tuple row e = types_listed_kept row.a row.b e
  type_shape_kept TypeKind.Adt row e =
      let old = in_table row.a row.b (variant_count sheet) in
      let may = adt_may_have (adt_kind row.c) row.b in
      and_true (in_table row.a row.b (variant_count image)) may
      (leb_more (row.a + row.b) (variant_count sheet) (variant_count image) (omega (arith, g.variants_are)) (and_left old may e))
      (and_right old may e)
  type_shape_kept TypeKind.Reference row e = names_kept row.a e
  type_shape_kept TypeKind.Array row e =
      let there = not (eqb row.b absent) in
      and_true (names_type image row.a) there (names_kept row.a (and_left (names_type sheet row.a) there e)) (and_right (names_type sheet row.a) there e)
  type_shape_kept TypeKind.Slice row e = names_kept row.a e

  pub type_kept : (t : ℕ) → t < type_count sheet → type_holds image t ≡ true
  unfolding type_holds
  type_kept t lt =
      let row = type_at sheet t in
      let shape = type_shape_holds (type_kind row.kind) sheet row in
      let old = sheet_type sheet holds t lt in
      rw (g.types.kept t lt)
      (and_true (is_flag row.copy) (type_shape_holds (type_kind row.kind) image row) (and_left (is_flag row.copy) shape old)
      (type_shape_kept (type_kind row.kind) row (and_right (is_flag row.copy) shape old)))

  pub variant_kept : (v : ℕ) → v < variant_count sheet → variant_holds image v ≡ true
  unfolding variant_holds
  variant_kept v lt =
      let row = variant_at sheet v in
      let fields = types_listed sheet row.fields row.count in
      let bytes = in_table row.discriminant 16 (data_count sheet) in
      let old = sheet_variant sheet holds v lt in
      rw (g.variants v lt)
      (and_true (types_listed image row.fields row.count) (in_table row.discriminant 16 (data_count image))
      (types_listed_kept row.fields row.count (and_left fields bytes old))
      (leb_more (row.discriminant + 16) (data_count sheet) (data_count image) (omega (arith, g.bytes_are)) (and_right fields bytes old)))

  pub binding_kept : (b : ℕ) → b < binding_count sheet → binding_holds image b ≡ true
  unfolding binding_holds
  binding_kept b lt =
      let row = binding_at sheet b in
      let old = sheet_binding sheet holds b lt in
      rw (g.bindings.kept b lt)
      (and_true (names_type image row.ty) (is_flag row.picked) (names_kept row.ty (and_left (names_type sheet row.ty) (is_flag row.picked) old))
      (and_right (names_type sheet row.ty) (is_flag row.picked) old))

  -- an operand of the sheet is one of the image
  pub operand_holds_kept : (o : ℕ) → operand_holds sheet o ≡ true → operand_holds image o ≡ true
  unfolding operand_holds
  operand_holds_kept o e =
      let row = operand_at sheet o in
      let first = leb (o + 3) (list_count sheet) in
      let value = operand_value_holds (operand_kind row.kind) (operand_bytes sheet row) in
      let lies = leb-true (row.offset + row.count) (data_count sheet) (and_second first (operand_lies sheet row) value e) in
      let inside = operand_inside sheet o e in
      rw (operand_kept sheet d image g o inside)
      (and_three (leb (o + 3) (list_count image)) (operand_lies image row) (operand_value_holds (operand_kind row.kind) (operand_bytes image row))
      (le-leb (o + 3) (list_count image) (omega (arith, g.words_are, inside)))
      (le-leb (row.offset + row.count) (data_count image) (omega (arith, g.bytes_are, lies)))
      (rw (operand_bytes_kept sheet d image g row (sheet_filled sheet holds) lies) (and_third first (operand_lies sheet row) value e)))

  pub constant_kept : (o : ℕ) → operand_holds sheet o && eqb (operand_at sheet o).kind 8 ≡ true → operand_holds image o && eqb (operand_at image o).kind 8 ≡ true
  constant_kept o e =
      let old = operand_holds sheet o in
      let eight = eqb (operand_at sheet o).kind 8 in
      rw (operand_kept sheet d image g o (operand_inside sheet o (and_left old eight e)))
      (and_true (operand_holds image o) eight (operand_holds_kept o (and_left old eight e)) (and_right old eight e))

  pub variant_number_kept : (v : ℕ) → ltb v (variant_count sheet) ≡ true → ltb v (variant_count image) ≡ true
  variant_number_kept v e = ltb_more v (variant_count sheet) (variant_count image) (omega (arith, g.variants_are)) e

  variant_or_absent_kept : (v : ℕ) → variant_or_absent sheet v ≡ true → variant_or_absent image v ≡ true
  variant_or_absent_kept v e =
      or_cases (eqb v absent) (ltb v (variant_count sheet)) e (or_left (eqb v absent) (ltb v (variant_count image)))
      (λ q. or_right (eqb v absent) (ltb v (variant_count image)) (variant_number_kept v q))

  operand_or_absent_kept : (o : ℕ) → operand_or_absent sheet o ≡ true → operand_or_absent image o ≡ true
  operand_or_absent_kept o e =
      or_cases (eqb o absent) (operand_holds sheet o) e (or_left (eqb o absent) (operand_holds image o))
      (λ q. or_right (eqb o absent) (operand_holds image o) (operand_holds_kept o q))

  binding_number_kept : (b : ℕ) → ltb b (binding_count sheet) ≡ true → ltb b (binding_count image) ≡ true
  binding_number_kept b e = ltb_more b (binding_count sheet) (binding_count image) (omega (arith, g.bindings_are)) e

  path_kept : (k : PathKind) (b : ℕ) → path_holds k sheet b ≡ true → path_holds k image b ≡ true
  unfolding path_holds
  path_kept PathKind.Unresolved b e = e
  path_kept PathKind.Variant b e = variant_number_kept b e
  path_kept PathKind.Local b e = binding_number_kept b e
  path_kept PathKind.Constant b e = constant_kept b e
  path_kept PathKind.Other b e = e
  path_kept PathKind.Unknown b e = e

  pattern_shape_kept : (k : PatKind) (row : PatRow) → pattern_shape_holds k sheet row ≡ true → pattern_shape_holds k image row ≡ true
  unfolding pattern_shape_holds
  pattern_shape_kept PatKind.Missing row e = e
  pattern_shape_kept PatKind.Rest row e = e
  pattern_shape_kept PatKind.NotNull row e = e
  pattern_shape_kept PatKind.Wild row e = e
  pattern_shape_kept PatKind.Tuple row e = in_list_kept row.a row.b e
  pattern_shape_kept PatKind.Or row e = in_list_kept row.a row.b e
  pattern_shape_kept PatKind.Record row e =
      let old = in_table row.a (2 * row.b) (list_count sheet) in
      and_true (in_table row.a (2 * row.b) (list_count image)) (variant_or_absent image row.c)
      (in_list_kept row.a (2 * row.b) (and_left old (variant_or_absent sheet row.c) e))
      (variant_or_absent_kept row.c (and_right old (variant_or_absent sheet row.c) e))
  pattern_shape_kept PatKind.Range row e =
      let lower = operand_or_absent sheet row.a in
      let upper = operand_or_absent sheet row.b in
      let flag = is_flag row.c in
      and_three (operand_or_absent image row.a) (operand_or_absent image row.b) flag (operand_or_absent_kept row.a (and_first lower upper flag e))
      (operand_or_absent_kept row.b (and_second lower upper flag e))
      (and_third lower upper flag e)
  pattern_shape_kept PatKind.Slice row e = in_list_kept row.a (row.b + row.c) e
  pattern_shape_kept PatKind.Path row e = path_kept (path_kind row.a) row.b e
  pattern_shape_kept PatKind.Lit row e = operand_holds_kept row.a e
  pattern_shape_kept PatKind.Bind row e =
      let old = ltb row.a (binding_count sheet) in
      let mode = leb row.c 2 in
      let annotation = leb row.d 2 in
      and_three (ltb row.a (binding_count image)) mode annotation (binding_number_kept row.a (and_first old mode annotation e)) (and_second old mode annotation e)
      (and_third old mode annotation e)
  pattern_shape_kept PatKind.TupleStruct row e =
      let old = in_table row.a row.b (list_count sheet) in
      and_true (in_table row.a row.b (list_count image)) (variant_or_absent image row.d)
      (in_list_kept row.a row.b (and_left old (variant_or_absent sheet row.d) e))
      (variant_or_absent_kept row.d (and_right old (variant_or_absent sheet row.d) e))
  pattern_shape_kept PatKind.Ref row e = e
  pattern_shape_kept PatKind.Expr row e = e
  pattern_shape_kept PatKind.Box row e = e
  pattern_shape_kept PatKind.Deref row e = e
  pattern_shape_kept PatKind.Unknown row e = e

  pub pattern_kept : (p : ℕ) → p < pattern_count sheet → pattern_holds image p ≡ true
  unfolding pattern_holds
  pattern_kept p lt =
      let row = pat_at sheet p in
      let named = names_type sheet row.ty in
      let few = leb row.derefs 16 in
      let shape = pattern_shape_holds (pat_kind row.kind) sheet row in
      let old = sheet_pattern sheet holds p lt in
      rw (g.patterns.kept p lt)
      (and_three (names_type image row.ty) few (pattern_shape_holds (pat_kind row.kind) image row) (names_kept row.ty (and_first named few shape old))
      (and_second named few shape old)
      (pattern_shape_kept (pat_kind row.kind) row (and_third named few shape old)))

  -- a pattern of the sheet has the same subpatterns
  subpatterns_by_kept : (k : PatKind) (row : PatRow) → pattern_shape_holds k sheet row ≡ true → subpatterns_by k image row ≡ subpatterns_by k sheet row
  unfolding pattern_shape_holds subpatterns_by
  subpatterns_by_kept PatKind.Missing row e = refl
  subpatterns_by_kept PatKind.Rest row e = refl
  subpatterns_by_kept PatKind.NotNull row e = refl
  subpatterns_by_kept PatKind.Wild row e = refl
  subpatterns_by_kept PatKind.Tuple row e = listed_one row.a row.b e
  subpatterns_by_kept PatKind.Or row e = listed_one row.a row.b e
  subpatterns_by_kept PatKind.Record row e =
      let old = in_table row.a (2 * row.b) (list_count sheet) in
      let inside = leb-true (row.a + 2 * row.b) (list_count sheet) (and_left old (variant_or_absent sheet row.c) e) in
      listed_kept 2 (row.a + 1) row.b (omega (arith, inside))
  subpatterns_by_kept PatKind.Range row e = refl
  subpatterns_by_kept PatKind.Slice row e =
      let inside = leb-true (row.a + (row.b + row.c)) (list_count sheet) e in
      ap₂ (λ (xs ys : List ℕ). xs ++ (ys ++ if_present row.d)) (listed_kept 1 row.a row.b (omega (arith, inside)))
      (listed_kept 1 (row.a + row.b) row.c (omega (arith, inside)))
  subpatterns_by_kept PatKind.Path row e = refl
  subpatterns_by_kept PatKind.Lit row e = refl
  subpatterns_by_kept PatKind.Bind row e = refl
  subpatterns_by_kept PatKind.TupleStruct row e =
      listed_one row.a row.b (and_left (in_table row.a row.b (list_count sheet)) (variant_or_absent sheet row.d) e)
  subpatterns_by_kept PatKind.Ref row e = refl
  subpatterns_by_kept PatKind.Expr row e = refl
  subpatterns_by_kept PatKind.Box row e = refl
  subpatterns_by_kept PatKind.Deref row e = refl
  subpatterns_by_kept PatKind.Unknown row e = refl

  pub subpatterns_kept : (p : ℕ) → p < pattern_count sheet → subpatterns image p ≡ subpatterns sheet p
  subpatterns_kept p lt =
      rw (g.patterns.kept p lt)
      (subpatterns_by_kept (pat_kind (pat_at sheet p).kind) (pat_at sheet p) (pattern_shape sheet p (sheet_pattern sheet holds p lt)))

  pub below_kept : (p : ℕ) → p < pattern_count sheet → subpatterns_below image p ≡ true
  unfolding subpatterns_below
  below_kept p lt = rw (subpatterns_kept p lt) (sheet_below sheet holds p lt)

  pub used_kept : gather (subpatterns image) 0 (pattern_count sheet) ≡ gather (subpatterns sheet) 0 (pattern_count sheet)
  used_kept = gather_same (subpatterns image) (subpatterns sheet) 0 (pattern_count sheet) (λ i lt. subpatterns_kept (0 + i) (omega arith))

  -- added types have no variants
  pub adts_kept : ((i : ℕ) → i < length d.types → variants_of image (type_count sheet + i) ≡ []) → adts_share_no_variant image ≡ true
  unfolding adts_share_no_variant sheet_holds
  adts_kept h =
      let kept : (i : ℕ) → i < type_count sheet → variants_of image (0 + i) ≡ variants_of sheet (0 + i) =
      λ i lt. ap (λ (row : TypeRow). variants_by (type_kind row.kind) row) (g.types.kept (0 + i) (omega arith))
      in
      let place : (i : ℕ) → 0 + type_count sheet + i ≡ type_count sheet + i = λ i. omega arith in
      let same : gather (variants_of image) 0 (type_count image) ≡ gather (variants_of sheet) 0 (type_count sheet) =
      ap (gather (variants_of image) 0) g.types_are
      ∙ (gather_split (variants_of image) 0 (type_count sheet) (length d.types)
      ∙ (ap₂ ◌++◌ (gather_same (variants_of image) (variants_of sheet) 0 (type_count sheet) kept)
      (gather_none (variants_of image) (0 + type_count sheet) (length d.types) (λ i lt. ap (variants_of image) (place i) ∙ h i lt))
      ∙ append-nil (gather (variants_of sheet) 0 (type_count sheet))))
      in
      rw same (all_true_at (sheet_rules sheet) 5 holds)
