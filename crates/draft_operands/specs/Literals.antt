-- The literals that have 16 bytes or fewer, and two halves of eight bytes. Assumes nothing: these are definitions.
use Rattle.std.specs.Prelude.{Some, None}
use Rattle.std.specs.Prelude.{ℕ, ◌^◌, ◌≤◌, ◌≡◌, Bool, true, List, ◌++◌, ltb, length, take}
use Rattle.image.specs.declared.Tables.{Tables}
use Rattle.pattern_syntax.specs.Written.{LiteralValue, bool_value, char_value, whole_value, minus_value}
use Rattle.pattern_images.specs.Drafts.{little_endian_bytes, operand_kind_of, literal_bytes, add_operand}
use Rattle.draft_tables.specs.declared.DraftCounts.{DraftCounts}
use Rattle.draft_tables.specs.Results.{DraftStep}
use Rattle.draft_tables.specs.Layout.{drafted}
use Rattle.draft_tables.specs.Room.{DraftRoom}
use Rattle.draft_tables.specs.Steps.{SheetsStepped}
use Rattle.draft_operands.specs.declared.LiteralBytes.{LiteralBytes}

-- integers are below 2^64 times 2^64
unfoldable pub literal_fits : LiteralValue → Bool
literal_fits (bool_value b) = true
literal_fits (char_value v) = true
literal_fits (whole_value v) = ltb v (2 ^ 128)
literal_fits (minus_value v) = ltb v (2 ^ 128)

-- the bytes in use
unfoldable pub bytes_in : LiteralBytes → List ℕ
bytes_in b = take b.count b.bytes

-- an operand of a kind, by two halves of its number
abbrev pub operand_with : ℕ → ℕ → ℕ → ℕ → LiteralBytes
operand_with kind low high count = record { kind = kind; bytes = little_endian_bytes 8 low ++ little_endian_bytes 8 high; count = count }

-- they are a literal's operand
pub record IsOperandOf (v : LiteralValue) (b : LiteralBytes) : Type 0 where
  pub kind : b.kind ≡ operand_kind_of v
  pub bytes : bytes_in b ≡ literal_bytes v
  pub count : b.count ≡ length (literal_bytes v)
  pub few : b.count ≤ 16
  pub long : length b.bytes ≡ 16

-- within the limits, on the same stack
abbrev pub RoomBehind : Tables → DraftCounts → DraftStep → Type 0
RoomBehind tables c (Some counts) = DraftRoom tables counts × (counts.height ≡ c.height)
RoomBehind tables c None = Unit

-- a step that adds it
abbrev pub OperandStepped : Tables → List ℕ → DraftCounts → LiteralBytes → DraftStep → List ℕ → Type 0
OperandStepped tables table c operand r after =
    (v : LiteralValue) → IsOperandOf v operand → SheetsStepped tables table c (λ sheet names s. drafted (add_operand sheet v) s) r after
