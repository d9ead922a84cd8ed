-- What a sheet that keeps its rules says of its types, and what a name table says of its rows. Assumes nothing.
use Prim.Native.Nat.{ℕ, zero, suc, ◌+◌, ◌≤◌, ◌<◌}
use mathlib.Core.Path.{◌≡◌, refl, sym, ap, ◌∙◌}
use mathlib.Core.Bool.{Bool, true, false, not, cond, ◌&&◌, ◌||◌}
use mathlib.Core.Option.{some}
use mathlib.Core.List.{List}
use native.Mathlib.Nat.{add-zero}
use native.Mathlib.Omega.{arith}
use borrow.Author.Tests.{ltb-true, leb-true, eqb-true, eqb-false, not-true}
use lib.Dec.{eqb, ltb, leb}
use lib.ListN.{length, get_or}
use Rattle.image.specs.Bytes.{word_at}
use Rattle.image.specs.Tables.{type_count, variant_count, list_count, data_count}
use Rattle.image.specs.Kinds.{type_kind, adt_kind}
use Rattle.image.specs.Rows.{type_at, variant_at, list_at, operand_at}
use Rattle.image.specs.Lists.{all_in, all_below}
use Rattle.image.specs.Types.{is_set}
use Rattle.image.specs.Operands.{operand_holds}
use Rattle.image.specs.Rules.{absent, in_table, names_type, listed, types_listed, adt_may_have, type_shape_holds, variant_holds}
use Rattle.image.proofs.Bools.{and_left, and_right, below_at}
use Rattle.image.proofs.Known.{type_shape}
use Rattle.type_sheets.specs.Sheets.{sheet_holds}
use Rattle.name_tables.specs.declared.NameRow.{NameRow}
use Rattle.name_tables.specs.Names.{Use, as_variant, as_constant, as_value, serves, is_named, row_for, row_count, row_name, name_row_at, name_byte_count, name_frame_holds, names_something, name_row_holds, names_hold}
use Rattle.pattern_words.specs.Words.{same_word}
use Rattle.pattern_typing.specs.Crossing.{is_tuple, is_adt, is_reference, is_array, is_slice, by_ref, by_ref_mut, Crossed, behind_reference, cross_one, cross_up_to, crossed, FieldTypes, tuple_fields, has_variant_of, variant_fields_of}
use Rattle.image_growth.specs.Growing.{IsBytes}
use Rattle.image_validity.proofs.Tests.{or_cases, and_first, and_third}
use Rattle.image_validity.proofs.Keeping.{sheet_type, sheet_variant}
use Rattle.image_validity.proofs.Bindings.{found}
use Rattle.image_validity.proofs.Emits.{in_at}

listed_long : (image : List ℕ) (from n : ℕ) → length (listed image 1 from n) ≡ n
unfolding listed
listed_long image from zero = refl
listed_long image from (suc n) = ap suc (listed_long image (from + 1) n)

listed_at : (image : List ℕ) (from n i : ℕ) → i < n → get_or (listed image 1 from n) i 0 ≡ list_at image (from + i)
unfolding listed
listed_at image from zero i lt = absurd (omega arith)
listed_at image from (suc n) zero lt = ap (list_at image) (sym (add-zero from))
listed_at image from (suc n) (suc i) lt =
    let e : from + 1 + i ≡ from + suc i = omega arith in
    listed_at image (from + 1) n i (omega arith) ∙ ap (list_at image) e

-- the types of fields exist
abbrev pub FieldsHold : List ℕ → FieldTypes → Type 0
FieldsHold sheet fields = (i : ℕ) → i < fields.count → list_at sheet (fields.start + i) < type_count sheet

module _ (sheet : List ℕ) (holds : sheet_holds sheet ≡ true) where
  -- what the rules ask of a type of this kind
  shape_of_lem : (t kind : ℕ) → t < type_count sheet → eqb (type_at sheet t).kind kind ≡ true → type_shape_holds (type_kind kind) sheet (type_at sheet t) ≡ true
  shape_of_lem t kind lt e =
      ap (λ (k : ℕ). type_shape_holds (type_kind k) sheet (type_at sheet t)) (sym (eqb-true (type_at sheet t).kind kind e)) ∙ type_shape sheet t (sheet_type sheet holds t lt)

  pub reference_target : (t : ℕ) → t < type_count sheet → is_reference sheet t ≡ true → (type_at sheet t).a < type_count sheet
  unfolding type_shape_holds
  reference_target t lt e = ltb-true (type_at sheet t).a (type_count sheet) (shape_of_lem t 7 lt e)

  pub array_element : (t : ℕ) → t < type_count sheet → is_array sheet t ≡ true → (type_at sheet t).a < type_count sheet
  unfolding type_shape_holds
  array_element t lt e =
      let row = type_at sheet t in
      ltb-true row.a (type_count sheet) (and_left (names_type sheet row.a) (not (eqb row.b absent)) (shape_of_lem t 8 lt e))

  pub item_element : (t : ℕ) → t < type_count sheet → is_array sheet t || is_slice sheet t ≡ true → (type_at sheet t).a < type_count sheet
  unfolding type_shape_holds
  item_element t lt e =
      or_cases (is_array sheet t) (is_slice sheet t) e (array_element t lt) (λ q. ltb-true (type_at sheet t).a (type_count sheet) (shape_of_lem t 9 lt q))

  -- a word of bytes, and an array's length that is no `absent`
  word_below : IsBytes sheet → (k : ℕ) → word_at sheet k < 65536
  unfolding word_at
  word_below bytes k = omega (arith, bytes k, bytes (k + 1))

  pub array_length : IsBytes sheet → (t : ℕ) → t < type_count sheet → is_array sheet t ≡ true → (type_at sheet t).b < absent
  unfolding type_shape_holds type_at
  array_length bytes t lt e =
      let row = type_at sheet t in
      let there = and_right (names_type sheet row.a) (not (eqb row.b absent)) (shape_of_lem t 8 lt e) in
      let less : row.b < 65536 = word_below bytes _ in
      omega (arith, less, eqb-false row.b absent (not-true (eqb row.b absent) there))

  listed_hold : (start count : ℕ) → types_listed sheet start count ≡ true → FieldsHold sheet (record { start = start; count = count })
  unfolding types_listed
  listed_hold start count e i lt =
      let all = and_right (in_table start count (list_count sheet)) (all_in (names_type sheet) (listed sheet 1 start count)) e in
      let own = in_at (names_type sheet) (listed sheet 1 start count) i 0 all (omega (arith, listed_long sheet start count)) in
      ltb-true (list_at sheet (start + i)) (type_count sheet) (rw (listed_at sheet start count i lt) at own)

  -- the fields of a tuple, and of a variant that the type has
  pub tuple_hold : (t : ℕ) → t < type_count sheet → FieldsHold sheet (tuple_fields sheet t)
  unfolding tuple_fields type_shape_holds
  tuple_hold t lt = by (is_tuple sheet t) refl
    where
      by : (b : Bool) → is_tuple sheet t ≡ b → FieldsHold sheet (cond b (record { start = (type_at sheet t).a; count = (type_at sheet t).b }) (record { start = 0; count = 0 }))
      by true e = listed_hold (type_at sheet t).a (type_at sheet t).b (shape_of_lem t 5 lt e)
      by false e = λ i less. absurd (omega (arith, less))

  variant_there : (t v : ℕ) → t < type_count sheet → has_variant_of sheet t v ≡ true → v < variant_count sheet
  unfolding has_variant_of type_shape_holds
  variant_there t v lt e =
      let row = type_at sheet t in
      let own = ltb-true v (row.a + row.b) (and_third (is_adt sheet t) (leb row.a v) (ltb v (row.a + row.b)) e) in
      let shape = shape_of_lem t 6 lt (and_first (is_adt sheet t) (leb row.a v) (ltb v (row.a + row.b)) e) in
      let inside = leb-true (row.a + row.b) (variant_count sheet) (and_left (in_table row.a row.b (variant_count sheet)) (adt_may_have (adt_kind row.c) row.b) shape) in
      omega (arith, own, inside)

  pub variant_hold : (t v : ℕ) → t < type_count sheet → FieldsHold sheet (variant_fields_of sheet t v)
  unfolding variant_fields_of variant_holds
  variant_hold t v lt = by (has_variant_of sheet t v) refl
    where
      by : (b : Bool) → has_variant_of sheet t v ≡ b →
          FieldsHold sheet (cond b (record { start = (variant_at sheet v).fields; count = (variant_at sheet v).count }) (record { start = 0; count = 0 }))
      by true e =
          let row = variant_at sheet v in
          listed_hold row.fields row.count
          (and_left (types_listed sheet row.fields row.count) (in_table row.discriminant 16 (data_count sheet)) (sheet_variant sheet holds v (variant_there t v lt e)))
      by false e = λ i less. absurd (omega (arith, less))

  -- references that are crossed lead to a type, and to one of the three modes
  behind_mode : (shared : Bool) (mode : ℕ) → behind_reference shared mode ≤ 2
  unfolding behind_reference
  behind_mode shared mode = by (shared || eqb mode by_ref)
    where
      by : (b : Bool) → cond b by_ref by_ref_mut ≤ 2
      by true = omega arith
      by false = omega arith

  abbrev CrossedHolds : Crossed → Type 0
  CrossedHolds c = (c.ty < type_count sheet) × (c.mode ≤ 2)

  cross_holds : (most : ℕ) (c : Crossed) → CrossedHolds c → CrossedHolds (cross_up_to most sheet c)
  unfolding cross_up_to cross_one
  cross_holds zero c h = h
  cross_holds (suc most) c h = by (is_reference sheet c.ty) refl (cross_holds most (cross_one sheet c))
    where
      by : (b : Bool) → is_reference sheet c.ty ≡ b → (CrossedHolds (cross_one sheet c) → CrossedHolds (cross_up_to most sheet (cross_one sheet c))) →
          CrossedHolds (cond b (cross_up_to most sheet (cross_one sheet c)) c)
      by true e on = on (reference_target c.ty h.0 e, behind_mode (is_set (type_at sheet c.ty).copy) c.mode)
      by false e on = h

  pub crossed_holds : (t mode : ℕ) → t < type_count sheet → mode ≤ 2 → ((crossed sheet t mode).ty < type_count sheet) × ((crossed sheet t mode).mode ≤ 2)
  unfolding crossed
  crossed_holds t mode lt le = cross_holds 257 (record { ty = t; derefs = 0; mode = mode }) (lt, le)

-- a row that is found serves the use, and names something
module _ (sheet names : List ℕ) (holds : names_hold sheet names ≡ true) where
  pub row_serves : (wanted : Use) (name : List ℕ) (i : ℕ) → row_for names wanted name ≡ some i →
      (serves wanted (name_row_at names i) ≡ true) × (names_something sheet (name_row_at names i) ≡ true)
  unfolding row_for is_named names_hold name_row_holds
  row_serves wanted name i e =
      let row = name_row_at names i in
      let own = found (is_named names wanted name) (row_count names) 0 i e in
      let rows = and_right (name_frame_holds names) (all_below (λ k. name_row_holds sheet names (name_row_at names k)) (row_count names)) holds in
      let there = below_at (λ k. name_row_holds sheet names (name_row_at names k)) (row_count names) i rows (let l = own.1 in omega (arith, l)) in
      (and_left (serves wanted row) (same_word (row_name names row) name) own.0, and_right (leb (row.start + row.count) (name_byte_count names)) (names_something sheet row) there)

  names_variant : (row : NameRow) → row.kind ≡ 1 → names_something sheet row ≡ true → ltb row.number (variant_count sheet) ≡ true
  unfolding names_something
  names_variant row e h = rw e at h

  names_constant_lem : (row : NameRow) → row.kind ≡ 3 → names_something sheet row ≡ true → operand_holds sheet row.number && eqb (operand_at sheet row.number).kind 8 ≡ true
  unfolding names_something
  names_constant_lem row e h = rw e at h

  pub variant_named : (name : List ℕ) (i : ℕ) → row_for names as_variant name ≡ some i → ltb (name_row_at names i).number (variant_count sheet) ≡ true
  unfolding serves
  variant_named name i e = let own = row_serves as_variant name i e in names_variant (name_row_at names i) (eqb-true (name_row_at names i).kind 1 own.0) own.1

  pub constant_named : (name : List ℕ) (i : ℕ) → row_for names as_constant name ≡ some i → operand_holds sheet (name_row_at names i).number ≡ true
  unfolding serves
  constant_named name i e =
      let own = row_serves as_constant name i e in
      let row = name_row_at names i in
      and_left (operand_holds sheet row.number) (eqb (operand_at sheet row.number).kind 8) (names_constant_lem row (eqb-true row.kind 3 own.0) own.1)

  -- a variant, or a constant
  pub value_named : (name : List ℕ) (i : ℕ) {C : Type 0} → row_for names as_value name ≡ some i →
      ((name_row_at names i).kind ≡ 1 → ltb (name_row_at names i).number (variant_count sheet) ≡ true → C) →
      ((name_row_at names i).kind ≡ 3 → operand_holds sheet (name_row_at names i).number && eqb (operand_at sheet (name_row_at names i).number).kind 8 ≡ true → C) → C
  unfolding serves
  value_named name i e f k =
      let own = row_serves as_value name i e in
      let row = name_row_at names i in
      or_cases (eqb row.kind 1) (eqb row.kind 3) own.0
      (λ q. let is = eqb-true row.kind 1 q in f is (names_variant row is own.1))
      (λ q. let is = eqb-true row.kind 3 q in k is (names_constant_lem row is own.1))
