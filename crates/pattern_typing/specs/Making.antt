-- What is made of a node whose type and names are known: rows of the image, but for the numbers of what it holds. Assumes nothing: these are
-- definitions.
use Rattle.std.specs.Prelude.{ℕ, Bool, List}
use Rattle.std.proofs.Math.Option.{Option, none, some}
use Rattle.image.specs.declared.rows.PatRow.{PatRow}
use Rattle.image.specs.Rules.{absent}
use Rattle.pattern_syntax.specs.Written.{LiteralValue}

-- what a name is bound at: a type, or an array of so many elements of a type, with its copy flag
pub data BoundAt : Type 0 where
  bound_at_type : ℕ → BoundAt
  bound_at_array : ℕ → ℕ → ℕ → BoundAt

pub data Making : Type 0 where
  not_made : Making
  -- a row that is whole: Wild, Rest, Path
  row_made : PatRow → Making
  -- a Lit: its type and derefs
  literal_made : ℕ → ℕ → LiteralValue → Making
  -- a range's bound: an operand of its own, or a constant's list word
  operand_made : LiteralValue → Making
  operand_named : ℕ → Making
  -- a Range: its type and derefs; a lower bound or not, an upper one or not, `..` or `..=`
  range_made : ℕ → ℕ → Bool → Bool → Bool → Making
  -- a Bind: its type, mode and annotation, the name's bytes, and what it is bound at
  bind_made : ℕ → ℕ → ℕ → List ℕ → BoundAt → Making
  -- a Ref: its type
  reference_made : ℕ → Making
  -- Tuple, TupleStruct, Record, Or: a row without its list and count
  list_made : PatRow → Making
  -- a Slice: its type and derefs, and how many items stand before its rest
  slice_made : ℕ → ℕ → Option ℕ → Making
  -- a field: its number
  field_made : ℕ → Making

-- a row of a pattern: kind, type, derefs and the four words behind them
abbrev pub pattern_row : ℕ → ℕ → ℕ → ℕ → ℕ → ℕ → ℕ → PatRow
pattern_row kind t derefs a b c d = record { kind = kind; ty = t; derefs = derefs; a = a; b = b; c = c; d = d }

-- a number, or that there is none
unfoldable pub or_absent : Option ℕ → ℕ
or_absent none = absent
or_absent (some n) = n
