-- The parts of the test of a name table, and its numbers as the program has them. Assumes nothing: these are definitions.
use Rattle.std.specs.Prelude.{Some, None}
use Rattle.std.specs.Prelude.{ℕ, ◌+◌, ◌≤◌, ◌<◌, Bool, ◌&&◌, List, eqb, leb, ltb, length}
use Rattle.std.proofs.Math.Option.{Option, none, some}
use Rattle.image.specs.Tables.{variant_count}
use Rattle.image.specs.Rows.{variant_at, operand_at}
use Rattle.image.specs.Operands.{operand_holds}
use Rattle.name_tables.specs.declared.NameRow.{NameRow}
use Rattle.name_tables.specs.declared.NameUse.{NameUse}
use Rattle.name_tables.specs.Results.{FoundRow}
use Rattle.name_tables.specs.Names.{row_count, name_byte_count, name_bytes_at, name_row_at, names_something, Use, as_variant, as_constant, as_value, as_field_of}

-- the field `number` of the variant `owner`
abbrev pub names_field : List ℕ → ℕ → ℕ → Bool
names_field sheet owner number = ltb owner (variant_count sheet) && ltb number (variant_at sheet owner).count

-- the constant whose operand stands at the list word `number`
abbrev pub names_constant : List ℕ → ℕ → Bool
names_constant sheet number = operand_holds sheet number && eqb (operand_at sheet number).kind 8

-- a row among so many bytes of names
abbrev pub row_holds : List ℕ → ℕ → NameRow → Bool
row_holds sheet bytes row = leb (row.start + row.count) bytes && names_something sheet row

-- rows and names lie within the table
pub record NameBytesWithin (names : List ℕ) : Type 0 where
  pub frame : 9 ≤ length names
  pub rows : name_bytes_at names + name_byte_count names ≤ length names
  pub each : (i : ℕ) → i < row_count names → (name_row_at names i).start + (name_row_at names i).count ≤ name_byte_count names

-- what a name is looked for as
unfoldable pub use_of : NameUse → Use
use_of NameUse.Variant = as_variant
use_of NameUse.Constant = as_constant
use_of NameUse.Value = as_value
use_of (NameUse.FieldOf owner) = as_field_of owner

-- the row that is found, if there is one
unfoldable pub found_in : FoundRow → Option ℕ
found_in (Some row) = some row
found_in None = none
