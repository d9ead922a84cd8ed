-- The name table (request S-14: "A lent table gives each name as a variant, a variant's field or a constant's operand with its number"), its
-- rules, and how a name is found in it. Four bytes count what follows; then the version byte 1, the words N and C, N rows of five words, and C
-- bytes of names. Assumes nothing: these are definitions.
use Rattle.std.specs.Prelude.{ℕ, zero, suc, ◌+◌, ◌*◌, Bool, true, false, cond, ◌&&◌, ◌||◌, List, eqb, leb, ltb, length, take, drop}
use Rattle.std.proofs.Math.Option.{Option, none, some}
use Rattle.image.specs.Bytes.{byte_at, word_at, long_at}
use Rattle.image.specs.Lists.{all_below}
use Rattle.image.specs.Tables.{variant_count}
use Rattle.image.specs.Rows.{variant_at, operand_at}
use Rattle.image.specs.Operands.{operand_holds}
use Rattle.pattern_words.specs.Words.{same_word}
use Rattle.name_tables.specs.declared.NameRow.{NameRow}

-- N, how many rows, and C, how many bytes of names
abbrev pub row_count : List ℕ → ℕ
row_count names = word_at names 5

abbrev pub name_byte_count : List ℕ → ℕ
name_byte_count names = word_at names 7

-- the five words of the row i
unfoldable pub name_row_at : List ℕ → ℕ → NameRow
name_row_at names i =
    record {
      kind = word_at names (9 + 10 * i);
      number = word_at names (11 + 10 * i);
      owner = word_at names (13 + 10 * i);
      start = word_at names (15 + 10 * i);
      count = word_at names (17 + 10 * i);
    }

-- where the names' bytes begin
abbrev pub name_bytes_at : List ℕ → ℕ
name_bytes_at names = 9 + 10 * row_count names

-- a row's name
unfoldable pub row_name : List ℕ → NameRow → List ℕ
row_name names row = take row.count (drop (name_bytes_at names + row.start) names)

-- the bytes before the rows, and the limits: N at most 1,024, C at most 16,384
unfoldable pub name_frame_holds : List ℕ → Bool
name_frame_holds names =
    leb 9 (length names)
    && eqb (length names) (4 + long_at names 0)
    && eqb (byte_at names 4) 1
    && leb (row_count names) 1024
    && leb (name_byte_count names) 16384
    && eqb (length names) (name_bytes_at names + name_byte_count names)

-- 1: the variant `number`. 2: the field `number` of the variant `owner`. 3: the constant whose operand, of kind 8, stands at the list word
-- `number`
unfoldable pub names_something : List ℕ → NameRow → Bool
names_something sheet row =
    cond (eqb row.kind 1) (ltb row.number (variant_count sheet))
    (cond (eqb row.kind 2) (ltb row.owner (variant_count sheet) && ltb row.number (variant_at sheet row.owner).count)
    (cond (eqb row.kind 3) (operand_holds sheet row.number && eqb (operand_at sheet row.number).kind 8)
    false))

unfoldable pub name_row_holds : List ℕ → List ℕ → NameRow → Bool
name_row_holds sheet names row = leb (row.start + row.count) (name_byte_count names) && names_something sheet row

-- the table keeps its rules beside a sheet
unfoldable pub names_hold : List ℕ → List ℕ → Bool
names_hold sheet names = name_frame_holds names && all_below (λ i. name_row_holds sheet names (name_row_at names i)) (row_count names)

-- the first number from `at` on that passes a test, of so many
unfoldable pub first_from : (ℕ → Bool) → ℕ → ℕ → Option ℕ
first_from test at zero = none
first_from test at (suc many) = cond (test at) (some at) (first_from test (suc at) many)

-- what rows a name is looked for in: variants, constants, both, or the fields of a variant
pub data Use : Type 0 where
  as_variant : Use
  as_constant : Use
  as_value : Use
  as_field_of : ℕ → Use

unfoldable pub serves : Use → NameRow → Bool
serves as_variant row = eqb row.kind 1
serves as_constant row = eqb row.kind 3
serves as_value row = eqb row.kind 1 || eqb row.kind 3
serves (as_field_of v) row = eqb row.kind 2 && eqb row.owner v

-- the row i serves the use and has this name
unfoldable pub is_named : List ℕ → Use → List ℕ → ℕ → Bool
is_named names wanted name i = serves wanted (name_row_at names i) && same_word (row_name names (name_row_at names i)) name

-- "of names .. alike the first serves": the first row that serves a use and has this name
unfoldable pub row_for : List ℕ → Use → List ℕ → Option ℕ
row_for names wanted name = first_from (is_named names wanted name) 0 (row_count names)
