-- The types of fields and the field numbers of a Record, by the ways through the code. Assumes nothing.
use Rattle.std.specs.Prelude.{Some, None}
use Prim.Native.Nat.{ℕ, zero, suc, ◌+◌, ◌-◌, ◌≤◌, ◌<◌}
use mathlib.Core.Path.{◌≡◌, refl, sym, ap, ◌∙◌}
use mathlib.Core.Bool.{Bool, true, false, cond, false≢true}
use mathlib.Core.Option.{Option, none, some}
use mathlib.Core.List.{List, [], ◌∷◌, map}
use native.Mathlib.Omega.{arith}
use borrow.Author.Tests.{ltb-true, ltb-false, leb-true, eqb-true, eqb-false, lt-ltb, le-ltb, eq-eqb, ne_eqb}
use lib.Dec.{eqb, ltb}
use Rattle.image.specs.declared.rows.TypeRow.{TypeRow}
use Rattle.image.specs.declared.rows.VariantRow.{VariantRow}
use Rattle.image.specs.Tables.{type_count, variant_count, list_count, data_count}
use Rattle.image.specs.Rows.{type_at, variant_at, list_at}
use Rattle.image.specs.Lists.{all_in, member, distinct, up_from}
use Rattle.image.specs.Rules.{absent, in_table, names_type, listed, types_listed, variant_holds}
use Rattle.image.specs.Patterns.{variant_or_absent}
use Rattle.image.specs.Types.{Shape, ty_of, variant_of}
use Rattle.image.specs.Tree.{word?}
use Rattle.image.specs.Valid.{valid}
use Rattle.image.proofs.Bools.{and_left, and_right}
use Rattle.image.proofs.Known.{variant_holds_lem}
use Rattle.marks.proofs.Takes.{listed_next, listed_none}
use Rattle.place.proofs.Fields.{length_listed, listed_at}
use Rattle.place.proofs.Ranges.{before_range, past_range, in_range_lem}
use Rattle.cases_spec.specs.Cases.{tuple_fields}
use Rattle.meaning.specs.Typing.{adt_variants, variant_fields, field_type}
use Rattle.meaning.specs.Fit.{field_numbers}
use Rattle.fit_shapes.specs.Numbers.{Numbers, TypesAt, FieldsOf, stands_again}
use Rattle.fit_shapes.proofs.Shaped.{tuple_of, adt_of, no_fields_lem, no_variants, tuple_listed}
use Rattle.fit_shapes.proofs.Numbering.{numbers_none, numbers_some}

-- a word that is absent, and one that is not
pub word_absent : (w : ℕ) → w ≡ absent → word? w ≡ none
unfolding word?
word_absent w e = rw (eq-eqb w absent e)

pub word_there : (w : ℕ) → (w ≡ absent → ⊥) → word? w ≡ some w
unfolding word?
word_there w h = rw (ne_eqb w absent h)

module _ (image : List ℕ) where
  -- no words of the list name types
  pub none_at : TypesAt image 0 0
  unfolding listed all_in
  none_at = record { within = omega arith; named = refl }

  pub types_at_lem : (from count : ℕ) → types_listed image from count ≡ true → TypesAt image from count
  unfolding types_listed
  types_at_lem from count e =
      let lies = in_table from count (list_count image) in
      let name = all_in (names_type image) (listed image 1 from count) in
      record { within = leb-true (from + count) (list_count image) (and_left lies name e); named = and_right lies name e }

  -- no fields
  pub fields_of_none : {ts : List ℕ} → ts ≡ [] → FieldsOf image (record { from = 0; count = 0 }) ts
  unfolding listed
  fields_of_none e = record { are = sym e; types = none_at }

  pub fields_of_some : (from count : ℕ) {ts : List ℕ} → ts ≡ listed image 1 from count → types_listed image from count ≡ true → FieldsOf image (record { from = from; count = count }) ts
  fields_of_some from count e h = record { are = sym e; types = types_at_lem from count h }

  module _ (t : ℕ) {row : TypeRow} (at : row ≡ type_at image t) (holds : valid image ≡ true) (inside : t < type_count image) where
    -- `tuple_fields`
    pub tuple_other : (row.kind ≡ 5 → ⊥) → FieldsOf image (record { from = 0; count = 0 }) (tuple_fields (ty_of image t).shape)
    tuple_other h = fields_of_none (no_fields_lem image t at holds inside h)

    pub tuple_here : row.kind ≡ 5 → FieldsOf image (record { from = row.a; count = row.b }) (tuple_fields (ty_of image t).shape)
    unfolding tuple_fields
    tuple_here e = fields_of_some row.a row.b (ap tuple_fields (tuple_of image t at e)) (tuple_listed image t at holds inside e)

    -- `has_variant`
    pub variant_other : (v : ℕ) → (row.kind ≡ 6 → ⊥) → false ≡ member v (adt_variants (ty_of image t).shape)
    unfolding member
    variant_other v h = rw (no_variants image t at holds inside h)

  module _ (t v : ℕ) {row : TypeRow} (at : row ≡ type_at image t) (adt : row.kind ≡ 6) where
    variants_are_lem : adt_variants (ty_of image t).shape ≡ up_from row.a row.b
    unfolding adt_variants
    variants_are_lem = ap adt_variants (adt_of image t at adt)

    pub variant_before : v < row.a → false ≡ member v (adt_variants (ty_of image t).shape)
    variant_before h = rw variants_are_lem (sym (before_range v row.a row.b h))

    pub variant_within : row.a ≤ v → ltb (v - row.a) row.b ≡ member v (adt_variants (ty_of image t).shape)
    variant_within h = rw variants_are_lem (go (ltb (v - row.a) row.b) refl)
      where
        go : (b : Bool) → ltb (v - row.a) row.b ≡ b → b ≡ member v (up_from row.a row.b)
        go true e = sym (in_range_lem v row.a row.b h (ltb-true (v - row.a) row.b e))
        go false e = sym (past_range v row.a row.b h (ltb-false (v - row.a) row.b e))

  -- a number that is not absent names a variant
  pub variant_inside : (v : ℕ) → (v ≡ absent → ⊥) → variant_or_absent image v ≡ true → v < variant_count image
  variant_inside v h e = ltb-true v (variant_count image) (rw (ne_eqb v absent h) at e)

  -- `variant_fields`
  module _ (shape : Shape) (v : ℕ) where
    pub variant_absent : v ≡ absent → FieldsOf image (record { from = 0; count = 0 }) (variant_fields image shape (word? v))
    unfolding variant_fields
    variant_absent e = fields_of_none (rw (word_absent v e))

    pub variant_foreign : (v ≡ absent → ⊥) → {r : Bool} → r ≡ member v (adt_variants shape) → r ≡ false → FieldsOf image (record { from = 0; count = 0 }) (variant_fields image shape (word? v))
    unfolding variant_fields
    variant_foreign h has e = fields_of_none (rw (word_there v h, sym has ∙ e))

    pub variant_own : (v ≡ absent → ⊥) → {r : Bool} → r ≡ member v (adt_variants shape) → r ≡ true → {row : VariantRow} → row ≡ variant_at image v → valid image ≡ true → v < variant_count image
        → FieldsOf image (record { from = row.fields; count = row.count }) (variant_fields image shape (word? v))
    unfolding variant_fields variant_of variant_holds
    variant_own h has e {row} at holds inside =
        fields_of_some row.fields row.count (rw (word_there v h, sym has ∙ e, at))
        (rw at (and_left (types_listed image (variant_at image v).fields (variant_at image v).count) (in_table (variant_at image v).discriminant 16 (data_count image)) (variant_holds_lem image v holds inside)))

  -- a word of a range that names types
  listed_named : (from count f : ℕ) → all_in (names_type image) (listed image 1 from count) ≡ true → f < count → names_type image (list_at image (from + f)) ≡ true
  unfolding listed all_in
  listed_named from zero f e h = absurd (omega arith)
  listed_named from (suc count) zero e h =
      let here : from ≡ from + 0 = omega arith in
      rw (← here) (and_left (names_type image (list_at image from)) (all_in (names_type image) (listed image 1 (from + 1) count)) e)
  listed_named from (suc count) (suc f) e h =
      let there : from + 1 + f ≡ from + suc f = omega arith in
      rw (← there) (listed_named (from + 1) count f (and_right (names_type image (list_at image from)) (all_in (names_type image) (listed image 1 (from + 1) count)) e) (omega arith))

  -- `field_type`
  module _ (from count f : ℕ) (few : count ≤ 65535) where
    pub field_past : count ≤ f → Numbers image None (field_type (listed image 1 from count) (word? f))
    unfolding field_type word?
    field_past h = numbers_none image (go (eqb f absent))
      where
        go : (b : Bool) → field_type (listed image 1 from count) (cond b none (some f)) ≡ none
        go true = refl
        go false = rw (length_listed image 1 from count, le-ltb f count h)

    pub field_here : f < count → TypesAt image from count → Numbers image (Some (list_at image (from + f))) (field_type (listed image 1 from count) (word? f))
    unfolding field_type
    field_here h types =
        numbers_some image (list_at image (from + f))
        (rw (word_there f (λ e. omega arith), length_listed image 1 from count, lt-ltb f count h, listed_at image from count f h))
        (listed_named from count f types.named h)

-- a word of the list is the field's number or not
module _ {y : ℕ} {xs ys : List ℕ} (is : xs ≡ y ∷ ys) where
  pub member_here : (x : ℕ) → eqb x y ≡ true → true ≡ member x xs
  unfolding member
  member_here x e = rw (is, e)

  pub member_next : (x : ℕ) → eqb x y ≡ false → member x xs ≡ member x ys
  unfolding member
  member_next x e = rw (is, e)

  pub distinct_again : member y ys ≡ true → false ≡ distinct xs
  unfolding distinct
  distinct_again e = rw (is, e)

  pub distinct_next : member y ys ≡ false → distinct xs ≡ distinct ys
  unfolding distinct
  distinct_next e = rw (is, e)

-- a loop over a range: at its turns some are left
pub some_left : {end i : ℕ} → i < end → end - i ≡ 0 → ⊥
some_left h e = omega arith

module _ (image : List ℕ) where
  -- the field numbers of a Record's words from i on
  abbrev numbers : ℕ → ℕ → List ℕ
  numbers i left = field_numbers (map word? (listed image 2 i left))

  module _ (i left : ℕ) (more : left ≡ 0 → ⊥) {w : ℕ} (read : w ≡ list_at image i) where
    next_there : (w ≡ absent → ⊥) → numbers i left ≡ w ∷ numbers (i + 2) (left - 1)
    unfolding field_numbers
    next_there h = rw (listed_next image 2 i left more, ← read, word_there w h)

    next_absent : w ≡ absent → numbers i left ≡ numbers (i + 2) (left - 1)
    unfolding field_numbers
    next_absent e = rw (listed_next image 2 i left more, ← read, word_absent w e)

    -- `stands_again`: a turn that finds the field, and one that does not
    pub again_here : {f : ℕ} → w ≡ f → (f ≡ absent → ⊥) → true ≡ member f (numbers i left)
    again_here {f} e h = member_here (next_there (λ q. h (sym e ∙ q))) f (eq-eqb f w (sym e))

    pub again_next : {f : ℕ} → (w ≡ f → ⊥) → member f (numbers i left) ≡ member f (numbers (i + 2) (left - 1))
    again_next {f} h = go (eqb w absent) refl
      where
        go : (b : Bool) → eqb w absent ≡ b → member f (numbers i left) ≡ member f (numbers (i + 2) (left - 1))
        go true e = ap (member f) (next_absent (eqb-true w absent e))
        go false e = member_next (next_there (eqb-false w absent e)) f (ne_eqb f w (λ q. h (sym q)))

    -- `record_fields_differ`: a turn whose field stands again, and one whose field does not
    pub differ_again : stands_again (word? w) (map word? (listed image 2 (i + 2) (left - 1))) ≡ true → false ≡ distinct (numbers i left)
    differ_again = go (eqb w absent) refl
      where
        go : (b : Bool) → eqb w absent ≡ b → stands_again (word? w) (map word? (listed image 2 (i + 2) (left - 1))) ≡ true → false ≡ distinct (numbers i left)
        go true e s = absurd (false≢true (rw (word_absent w (eqb-true w absent e)) at s))
        go false e s = distinct_again (next_there (eqb-false w absent e)) (rw (word_there w (eqb-false w absent e)) at s)

    pub differ_next : stands_again (word? w) (map word? (listed image 2 (i + 2) (left - 1))) ≡ false → distinct (numbers i left) ≡ distinct (numbers (i + 2) (left - 1))
    differ_next = go (eqb w absent) refl
      where
        go : (b : Bool) → eqb w absent ≡ b → stands_again (word? w) (map word? (listed image 2 (i + 2) (left - 1))) ≡ false → distinct (numbers i left) ≡ distinct (numbers (i + 2) (left - 1))
        go true e s = ap distinct (next_absent (eqb-true w absent e))
        go false e s = distinct_next (next_there (eqb-false w absent e)) (rw (word_there w (eqb-false w absent e)) at s)

  -- no words are left
  pub again_end : (f i left : ℕ) → left ≡ 0 → false ≡ member f (numbers i left)
  unfolding field_numbers member
  again_end f i left e = rw (listed_none image 2 i left e)

  pub differ_end : (i left : ℕ) → left ≡ 0 → true ≡ distinct (numbers i left)
  unfolding field_numbers distinct
  differ_end i left e = rw (listed_none image 2 i left e)

-- `stands_again`: a field that is absent stands nowhere
pub again_absent : (f : ℕ) (fields : List (Option ℕ)) → f ≡ absent → false ≡ stands_again (word? f) fields
again_absent f fields e = rw (word_absent f e)

pub again_there : (f : ℕ) (fields : List (Option ℕ)) → (f ≡ absent → ⊥) → member f (field_numbers fields) ≡ stands_again (word? f) fields
again_there f fields h = rw (word_there f h)
