-- Each of the arguments that are there, and parts of a row of them. Assumes nothing.
use Prim.Native.Nat.{ℕ, ◌+◌, ◌*◌, ◌-◌, ◌≤◌, ◌<◌}
use mathlib.Core.Path.{◌≡◌, refl}
use mathlib.Core.Bool.{Bool, true, false, cond}
use mathlib.Core.Logic.{◌⊎◌, inl, inr}
use mathlib.Core.List.{List}
use native.Mathlib.Omega.{arith}
use borrow.Author.Tests.{ltb-true, ltb-false}
use lib.Dec.{ltb}
use Rattle.image.specs.declared.rows.PatRow.{PatRow}
use Rattle.image.specs.Tables.{variant_count, list_count}
use Rattle.image.specs.Rows.{list_at}
use Rattle.image.specs.Valid.{valid}
use Rattle.pattern_rows.specs.declared.ArgumentRow.{ArgumentRow}
use Rattle.pattern_rows.specs.Rows.{argument_pat, ArgumentLies, ArgumentAt, variant_word, smaller}
use Rattle.pattern_nodes.specs.Arguments.{ArgumentsThere, NamesVariant, SubpatternBelow, SliceThere}
use Rattle.pattern_nodes.proofs.Known.{limits}

-- the argument i of a row that is there
module _ (image : List ℕ) (p from fields count i : ℕ) (h : i < count) where
  -- its words lie in the list
  pub argument_lies : (row : ArgumentRow) → ArgumentsThere row image p from fields count → ArgumentLies row image from i
  argument_lies ArgumentRow.Fields t = omega (arith, t.lies)
  argument_lies ArgumentRow.LastFields t = (omega (arith, t.lies), t.lies.1)
  argument_lies ArgumentRow.RecordFields t = omega (arith, t.lies)
  argument_lies ArgumentRow.Items t = omega (arith, t.lies)
  argument_lies ArgumentRow.LastItems t = omega (arith, t.lies.0)

  -- and there is a field or an item for it
  pub argument_at : (row : ArgumentRow) → ArgumentsThere row image p from fields count → ArgumentAt row image from fields i
  argument_at ArgumentRow.Fields t = tt
  argument_at ArgumentRow.LastFields t = omega (arith, t.lies)
  argument_at ArgumentRow.RecordFields t = omega (arith, t.lies)
  argument_at ArgumentRow.Items t = tt
  argument_at ArgumentRow.LastItems t = omega (arith, t.lies.1)

-- the smaller of two numbers is neither above the one nor above the other
pub smaller_first : (m n : ℕ) → smaller m n ≤ m
unfolding smaller
smaller_first m n = by (ltb m n) refl
  where
    by : (b : Bool) → ltb m n ≡ b → cond b m n ≤ m
    by true e = omega arith
    by false e = ltb-false m n e

pub smaller_second : (m n : ℕ) → smaller m n ≤ n
unfolding smaller
smaller_second m n = by (ltb m n) refl
  where
    by : (b : Bool) → ltb m n ≡ b → cond b m n ≤ n
    by true e = let lt = ltb-true m n e in omega arith
    by false e = omega arith

-- items in a row
module _ (image : List ℕ) (p from count : ℕ) (t : ArgumentsThere ArgumentRow.Items image p from 0 count) where
  -- each of them is below p
  pub item_below : (i : ℕ) → i < count → list_at image (from + i) < p
  unfolding argument_pat
  item_below i h = t.below i h

  -- and stands in the list
  pub item_lies : (i : ℕ) → i < count → from + i < list_count image
  item_lies i h = omega (arith, t.lies)

  -- so many at most
  pub items_few : valid image ≡ true → from + count ≤ 2048
  items_few v = omega (arith, t.lies, (limits image v).list)

  -- those before an ellipsis, on the first fields
  pub fields_there_lem : (fields before : ℕ) → before ≤ count → ArgumentsThere ArgumentRow.Fields image p from fields (smaller before fields)
  unfolding argument_pat
  fields_there_lem fields before h = record {
    lies = omega (arith, t.lies, smaller_first before fields);
    below = λ i lt. t.below i (omega (arith, lt, smaller_first before fields));
  }

  -- and those behind it, on the last ones
  pub last_fields_there : (fields before : ℕ) → before ≤ count → ArgumentsThere ArgumentRow.LastFields image p (from + count) fields (smaller (count - before) fields)
  unfolding argument_pat
  last_fields_there fields before h = record {
    lies = (omega (arith, smaller_first (count - before) fields), t.lies, smaller_second (count - before) fields);
    below = λ i lt.
        let here : from + count - 1 - i ≡ from + (count - 1 - i) = omega (arith, lt, smaller_first (count - before) fields) in
        rw here (t.below (count - 1 - i) (omega (arith, lt, smaller_first (count - before) fields)));
  }

-- a Record's fields, whatever the count of the variant's
module _ (image : List ℕ) (p from count : ℕ) (t : ArgumentsThere ArgumentRow.RecordFields image p from 0 count) where
  pub record_fields_lem : (fields : ℕ) → ArgumentsThere ArgumentRow.RecordFields image p from fields count
  record_fields_lem fields = record { lies = t.lies; below = t.below }

  -- so many at most
  pub record_few : valid image ≡ true → from + 2 * count ≤ 2048
  record_few v = omega (arith, t.lies, (limits image v).list)

-- a Slice's items at the end stand in the list behind those in front
module _ (image : List ℕ) (p rest from front back : ℕ) (t : SliceThere image p rest from front back) where
  pub back_lies : from + front + back ≤ list_count image
  back_lies = t.at_end_lem.lies.0

  -- so many at most
  pub back_few : valid image ≡ true → from + front + back ≤ 2048
  back_few v = omega (arith, t.at_end_lem.lies, (limits image v).list)

-- a variant that is named and not absent is in the table
pub variant_there : (image : List ℕ) (p : ℕ) (row : PatRow) → NamesVariant image p row → (variant_word row ≡ 65535 → ⊥) → variant_word row < variant_count image
variant_there image p row n d = by n.variant
  where
    by : (variant_word row ≡ 65535) ⊎ (variant_word row < variant_count image) → variant_word row < variant_count image
    by (inl e) = absurd (d e)
    by (inr lt) = lt

-- a subpattern that is not absent is below p
pub subpattern_there : (q p : ℕ) → SubpatternBelow q p → (q ≡ 65535 → ⊥) → q < p
subpattern_there q p (inl e) d = absurd (d e)
subpattern_there q p (inr lt) d = lt
