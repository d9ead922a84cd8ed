-- The discriminants of an enum, read as two halves and compared. Assumes nothing.
use Prim.Native.Nat.{ℕ, ◌+◌, ◌*◌, ◌-◌, ◌≤◌, ◌<◌}
use mathlib.Core.Path.{◌≡◌, refl, sym, ap, ◌∙◌}
use mathlib.Core.Bool.{Bool, true, false}
use mathlib.Core.List.{List, ◌∷◌}
use native.Mathlib.Omega.{arith}
use borrow.Author.Tests.{leb-true, eq-eqb, ne_eqb, eqb-true, eqb-false}
use lib.Dec.{eqb}
use lib.ListN.{length, take, drop, length-drop}
use lib.Seq.{take-take, take-add, drop_at, length-take-le, drop-drop}
use Rattle.image.specs.declared.Tables.{Tables}
use Rattle.image.specs.declared.kinds.AdtKind.{AdtKind}
use Rattle.image.specs.declared.rows.TypeRow.{TypeRow}
use Rattle.image.specs.declared.rows.VariantRow.{VariantRow}
use Rattle.image.specs.Bytes.{little_endian}
use Rattle.image.specs.Integers.{value_count}
use Rattle.image.specs.Tables.{Whole, variant_count, data_count, data_at}
use Rattle.image.specs.Kinds.{adt_kind}
use Rattle.image.specs.Rows.{type_at, variant_at}
use Rattle.image.specs.Lists.{member, distinct, up_from}
use Rattle.image.specs.Rules.{in_table, types_listed, variant_holds}
use Rattle.image.specs.Types.{adt, ty_of, variant_of}
use Rattle.image.specs.Valid.{valid}
use Rattle.image.proofs.Bools.{and_right}
use Rattle.image.proofs.Known.{variant_holds_lem}
use Rattle.marks.proofs.Takes.{up_from_next, up_from_none}
use Rattle.meaning.specs.Fit.{discriminants_differ}
use Rattle.meaning.proofs.Cutting.{little_split}
use Rattle.fit_variants.specs.declared.discriminants.Discriminant.{Discriminant}
use Rattle.fit_variants.specs.Discriminants.{discriminant_number, discriminants}
use Rattle.fit_shapes.proofs.Shaped.{adt_of}
use Rattle.fit_shapes.proofs.Fielding.{member_here, member_next, distinct_again, distinct_next}

module _ (image : List ℕ) (v : ℕ) {row : VariantRow} (at : row ≡ variant_at image v) where
  -- the 16 bytes lie in the image
  pub discriminant_lies : {tables : Tables} → valid image ≡ true → Whole image tables → v < variant_count image → tables.bytes.at + row.discriminant + 16 ≤ length image
  unfolding variant_holds
  discriminant_lies holds whole inside =
      let there = leb-true ((variant_at image v).discriminant + 16) (data_count image)
      (and_right (types_listed image (variant_at image v).fields (variant_at image v).count) (in_table (variant_at image v).discriminant 16 (data_count image)) (variant_holds_lem image v holds inside)) in
      rw at (omega (arith, whole.bytes, whole.within))

  -- the two halves are the number
  pub halves_are : {tables : Tables} {low high : ℕ} → Whole image tables → tables.bytes.at + row.discriminant + 16 ≤ length image
      → low ≡ little_endian (take 8 (drop (tables.bytes.at + row.discriminant) image)) → high ≡ little_endian (take 8 (drop (tables.bytes.at + row.discriminant + 8) image))
      → low + value_count 8 * high ≡ (variant_of image v).discriminant
  unfolding variant_of
  halves_are {tables} {low} {high} whole fits l h =
      let k = tables.bytes.at + row.discriminant in
      let place : data_at image + (variant_at image v).discriminant ≡ k = rw (← at, ← whole.bytes) refl in
      rw place (halved (drop k image) l (h ∙ ap (λ (bs : List ℕ). little_endian (take 8 bs)) (sym (drop-drop 8 k image))) (omega (arith, length-drop k image)))
    where
      halved : (bytes : List ℕ) → low ≡ little_endian (take 8 bytes) → high ≡ little_endian (take 8 (drop 8 bytes)) → 16 ≤ length bytes → low + value_count 8 * high ≡ little_endian (take 16 bytes)
      halved bytes l h long =
          let first : take 8 (take 16 bytes) ≡ take 8 bytes = take-take 8 16 bytes (omega arith) in
          let last : drop 8 (take 16 bytes) ≡ take 8 (drop 8 bytes) = ap (drop 8) (take-add 8 8 bytes) ∙ drop_at (take 8 bytes) (take 8 (drop 8 bytes)) 8 (length-take-le 8 bytes (omega arith)) in
          rw (l, h, ← first, ← last) (little_split 8 (take 16 bytes))

-- `same_discriminant`
module _ (a b : Discriminant) where
  pub lows_differ : a.low < value_count 8 → b.low < value_count 8 → (a.low ≡ b.low → ⊥) → false ≡ eqb (discriminant_number a) (discriminant_number b)
  lows_differ s t h = sym (ne_eqb (discriminant_number a) (discriminant_number b) (λ e. h (low_same a.low a.high b.low b.high s t e)))
    where
      low_same : (l h m k : ℕ) → l < value_count 8 → m < value_count 8 → l + value_count 8 * h ≡ m + value_count 8 * k → l ≡ m
      low_same l h m k s t e = omega arith

  pub lows_same : a.low ≡ b.low → eqb a.high b.high ≡ eqb (discriminant_number a) (discriminant_number b)
  lows_same e = go (eqb a.high b.high) refl
    where
      go : (t : Bool) → eqb a.high b.high ≡ t → t ≡ eqb (discriminant_number a) (discriminant_number b)
      go true q = let same = eqb-true a.high b.high q in sym (eq-eqb (discriminant_number a) (discriminant_number b) (omega arith))
      go false q = sym (ne_eqb (discriminant_number a) (discriminant_number b) (λ d. eqb-false a.high b.high q (omega arith)))

module _ (image : List ℕ) where
  discriminants_next : (v left : ℕ) → (left ≡ 0 → ⊥) → discriminants image v left ≡ (variant_of image v).discriminant ∷ discriminants image (v + 1) (left - 1)
  unfolding discriminants
  discriminants_next v left h = rw (up_from_next v left h)

  -- `discriminant_stands`
  module _ (n v left : ℕ) (more : left ≡ 0 → ⊥) {other : ℕ} (read : other ≡ (variant_of image v).discriminant) {r : Bool} (same : r ≡ eqb n other) where
    next_one : discriminants image v left ≡ other ∷ discriminants image (v + 1) (left - 1)
    next_one = rw read (discriminants_next v left more)

    pub stands_here : r ≡ true → true ≡ member n (discriminants image v left)
    stands_here e = member_here next_one n (sym same ∙ e)

    pub stands_next : r ≡ false → member n (discriminants image v left) ≡ member n (discriminants image (v + 1) (left - 1))
    stands_next e = member_next next_one n (sym same ∙ e)

  pub stands_end : (n v left : ℕ) → left ≡ 0 → false ≡ member n (discriminants image v left)
  unfolding discriminants member
  stands_end n v left e = rw (up_from_none v left e)

  -- `discriminants_apart`
  module _ (v left : ℕ) (more : left ≡ 0 → ⊥) {d : ℕ} (read : d ≡ (variant_of image v).discriminant) {r : Bool} (again : r ≡ member d (discriminants image (v + 1) (left - 1))) where
    first_one : discriminants image v left ≡ d ∷ discriminants image (v + 1) (left - 1)
    first_one = rw read (discriminants_next v left more)

    pub apart_again : r ≡ true → false ≡ distinct (discriminants image v left)
    apart_again e = distinct_again first_one (sym again ∙ e)

    pub apart_next : r ≡ false → distinct (discriminants image v left) ≡ distinct (discriminants image (v + 1) (left - 1))
    apart_next e = distinct_next first_one (sym again ∙ e)

  pub apart_end : (v left : ℕ) → left ≡ 0 → true ≡ distinct (discriminants image v left)
  unfolding discriminants distinct
  apart_end v left e = rw (up_from_none v left e)

  -- `discriminants_differ`: an ADT by its kind
  pub differ_by : (t : ℕ) {row : TypeRow} {kind : AdtKind} (is : AdtKind) → row ≡ type_at image t → row.kind ≡ 6 → kind ≡ adt_kind row.c → kind ≡ is
      → discriminants_differ image (adt is (up_from row.a row.b)) ≡ discriminants_differ image (ty_of image t).shape
  differ_by t {row} is at adt_kind_lem told k = rw (adt_of image t at adt_kind_lem, ← told, k)
