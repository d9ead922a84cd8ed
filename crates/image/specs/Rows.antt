-- The rows of an image's tables, and an operand's bytes. Assumes nothing: these are definitions.
use Rattle.std.specs.Prelude.{ℕ, ◌+◌, ◌*◌, List, take, drop}
use Rattle.image.specs.declared.rows.TypeRow.{TypeRow}
use Rattle.image.specs.declared.rows.VariantRow.{VariantRow}
use Rattle.image.specs.declared.rows.PatRow.{PatRow}
use Rattle.image.specs.declared.rows.BindingRow.{BindingRow}
use Rattle.image.specs.declared.rows.OperandRow.{OperandRow}
use Rattle.image.specs.Bytes.{word_at}
use Rattle.image.specs.Tables.{types_at, variants_at, patterns_at, bindings_at, list_start, data_at}

-- the five words of a type that begin at byte k
abbrev pub type_row : List ℕ → ℕ → TypeRow
type_row image k = record { kind = word_at image k; a = word_at image (k + 2); b = word_at image (k + 4); c = word_at image (k + 6); copy = word_at image (k + 8) }

-- the type t
unfoldable pub type_at : List ℕ → ℕ → TypeRow
type_at image t = type_row image (types_at image + 10 * t)

-- the three words of a variant that begin at byte k
abbrev pub variant_row : List ℕ → ℕ → VariantRow
variant_row image k = record { fields = word_at image k; count = word_at image (k + 2); discriminant = word_at image (k + 4) }

-- the variant v
unfoldable pub variant_at : List ℕ → ℕ → VariantRow
variant_at image v = variant_row image (variants_at image + 6 * v)

-- the seven words of a pattern that begin at byte k
abbrev pub pat_row : List ℕ → ℕ → PatRow
pat_row image k =
    record {
      kind = word_at image k;
      ty = word_at image (k + 2);
      derefs = word_at image (k + 4);
      a = word_at image (k + 6);
      b = word_at image (k + 8);
      c = word_at image (k + 10);
      d = word_at image (k + 12);
    }

-- the pattern p
unfoldable pub pat_at : List ℕ → ℕ → PatRow
pat_at image p = pat_row image (patterns_at image + 14 * p)

-- the two words of a binding that begin at byte k
abbrev pub binding_row : List ℕ → ℕ → BindingRow
binding_row image k = record { ty = word_at image k; picked = word_at image (k + 2) }

-- the binding b
unfoldable pub binding_at : List ℕ → ℕ → BindingRow
binding_at image b = binding_row image (bindings_at image + 4 * b)

-- the word i of the list
unfoldable pub list_at : List ℕ → ℕ → ℕ
list_at image i = word_at image (list_start image + 2 * i)

-- the three words of an operand that begin at byte k
abbrev pub operand_row : List ℕ → ℕ → OperandRow
operand_row image k = record { kind = word_at image k; offset = word_at image (k + 2); count = word_at image (k + 4) }

-- the operand whose three words begin at the word o of the list
unfoldable pub operand_at : List ℕ → ℕ → OperandRow
operand_at image o = operand_row image (list_start image + 2 * o)

-- the bytes of an operand, in the data
unfoldable pub operand_bytes : List ℕ → OperandRow → List ℕ
operand_bytes image operand = take operand.count (drop (data_at image + operand.offset) image)
