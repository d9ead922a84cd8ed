-- What is known of a name table that keeps its rules, and the ways through the test of its frame. Assumes nothing.
use Prim.Native.Nat.{ℕ, ◌+◌, ◌*◌, ◌≤◌, ◌<◌}
use mathlib.Core.Path.{◌≡◌}
use mathlib.Core.Bool.{Bool, true, false, ◌&&◌}
use mathlib.Core.List.{List}
use native.Mathlib.Omega.{arith}
use borrow.Author.Tests.{eqb-true, leb-true, ltb-true, eq-eqb, ne_eqb, le-leb, lt-leb}
use lib.Dec.{eqb, leb}
use lib.ListN.{length}
use Rattle.image.specs.Bytes.{byte_at, long_at, word_at}
use Rattle.image.specs.Lists.{all_below}
use Rattle.image.specs.Tables.{variant_count, list_count}
use Rattle.image.specs.Rows.{operand_at, operand_bytes}
use Rattle.image.specs.Kinds.{operand_kind}
use Rattle.image.specs.Operands.{operand_lies, operand_value_holds, operand_holds}
use Rattle.image.proofs.Bools.{and_left, and_right, below_at}
use Rattle.name_tables.specs.declared.NameRow.{NameRow}
use Rattle.name_tables.specs.Names.{row_count, name_byte_count, name_bytes_at, name_frame_holds, name_row_at, name_row_holds, names_something, names_hold}
use Rattle.name_tables.specs.Tested.{NameBytesWithin}

module _ (names : List ℕ) where
  abbrev long : Bool
  long = leb 9 (length names)

  abbrev counted : Bool
  counted = eqb (length names) (4 + long_at names 0)

  abbrev version : Bool
  version = eqb (byte_at names 4) 1

  abbrev rows : Bool
  rows = leb (row_count names) 1024

  abbrev bytes : Bool
  bytes = leb (name_byte_count names) 16384

  abbrev filled : Bool
  filled = eqb (length names) (name_bytes_at names + name_byte_count names)

  pub frame_long : name_frame_holds names ≡ true → 9 ≤ length names
  unfolding name_frame_holds
  frame_long e = leb-true 9 (length names) (and_left long counted (and_left (long && counted) version (and_left (long && counted && version) rows (and_left (long && counted && version && rows) bytes (and_left (long && counted && version && rows && bytes) filled e)))))

  pub frame_filled : name_frame_holds names ≡ true → length names ≡ name_bytes_at names + name_byte_count names
  unfolding name_frame_holds
  frame_filled e = eqb-true _ _ (and_right (long && counted && version && rows && bytes) filled e)

  pub few_rows : name_frame_holds names ≡ true → row_count names ≤ 1024
  unfolding name_frame_holds
  few_rows e = leb-true _ _ (and_right (long && counted && version) rows (and_left (long && counted && version && rows) bytes (and_left (long && counted && version && rows && bytes) filled e)))

module _ (sheet names : List ℕ) (held : names_hold sheet names ≡ true) where
  frame : name_frame_holds names ≡ true
  unfolding names_hold
  frame = and_left (name_frame_holds names) (all_below (λ i. name_row_holds sheet names (name_row_at names i)) (row_count names)) held

  row_holds_lem : (i : ℕ) → i < row_count names → name_row_holds sheet names (name_row_at names i) ≡ true
  unfolding names_hold
  row_holds_lem i h = below_at (λ k. name_row_holds sheet names (name_row_at names k)) (row_count names) i (and_right (name_frame_holds names) (all_below (λ k. name_row_holds sheet names (name_row_at names k)) (row_count names)) held) h

  -- rows and names lie within the table
  pub bytes_within : NameBytesWithin names
  unfolding name_row_holds
  bytes_within =
      record {
        frame = frame_long names frame;
        rows = omega (arith, frame_filled names frame);
        each =
            λ i h.
            let row = name_row_at names i in
            leb-true _ _ (and_left (leb (row.start + row.count) (name_byte_count names)) (names_something sheet row) (row_holds_lem i h));
      }

  -- what a row names is there
  pub row_names : (i : ℕ) → i < row_count names → names_something sheet (name_row_at names i) ≡ true
  unfolding name_row_holds
  row_names i h =
      let row = name_row_at names i in
      and_right (leb (row.start + row.count) (name_byte_count names)) (names_something sheet row) (row_holds_lem i h)

-- a row of kind 1 names a variant
pub names_variant : (sheet : List ℕ) (row : NameRow) → names_something sheet row ≡ true → row.kind ≡ 1 → row.number < variant_count sheet
unfolding names_something
names_variant sheet row e k = ltb-true _ _ (rw k at e)

-- the ways through the test of the frame
module _ (names : List ℕ) where
  pub short : length names < 9 → false ≡ name_frame_holds names
  unfolding name_frame_holds
  short h = rw (lt-leb 9 (length names) h)

  module _ (h : 9 ≤ length names) where
    pub miscounted : (length names ≡ 4 + (word_at names 0 * 65536 + word_at names 2) → ⊥) → false ≡ name_frame_holds names
    unfolding name_frame_holds
    miscounted ne = rw (le-leb 9 (length names) h, ne_eqb (length names) (4 + long_at names 0) ne)

    module _ (e : length names ≡ 4 + (word_at names 0 * 65536 + word_at names 2)) where
      pub other_version : (byte_at names 4 ≡ 1 → ⊥) → false ≡ name_frame_holds names
      unfolding name_frame_holds
      other_version ne = rw (le-leb 9 (length names) h, eq-eqb (length names) (4 + long_at names 0) e, ne_eqb (byte_at names 4) 1 ne)

      module _ (v : byte_at names 4 ≡ 1) where
        pub many_rows : 1024 < row_count names → false ≡ name_frame_holds names
        unfolding name_frame_holds
        many_rows r = rw (le-leb 9 (length names) h, eq-eqb (length names) (4 + long_at names 0) e, eq-eqb (byte_at names 4) 1 v, lt-leb (row_count names) 1024 r)

        pub many_bytes : row_count names ≤ 1024 → 16384 < name_byte_count names → false ≡ name_frame_holds names
        unfolding name_frame_holds
        many_bytes r b = rw (le-leb 9 (length names) h, eq-eqb (length names) (4 + long_at names 0) e, eq-eqb (byte_at names 4) 1 v, le-leb (row_count names) 1024 r, lt-leb (name_byte_count names) 16384 b)

        pub filling : row_count names ≤ 1024 → name_byte_count names ≤ 16384 → eqb (length names) (9 + 10 * row_count names + name_byte_count names) ≡ name_frame_holds names
        unfolding name_frame_holds
        filling r b = rw (le-leb 9 (length names) h, eq-eqb (length names) (4 + long_at names 0) e, eq-eqb (byte_at names 4) 1 v, le-leb (row_count names) 1024 r, le-leb (name_byte_count names) 16384 b)

-- an operand that holds stands in the list
pub operand_listed : (sheet : List ℕ) (o : ℕ) → operand_holds sheet o ≡ true → o + 3 ≤ list_count sheet
unfolding operand_holds
operand_listed sheet o e =
    let row = operand_at sheet o in
    let here = leb (o + 3) (list_count sheet) in
    let lies = operand_lies sheet row in
    leb-true _ _ (and_left here lies (and_left (here && lies) (operand_value_holds (operand_kind row.kind) (operand_bytes sheet row)) e))
