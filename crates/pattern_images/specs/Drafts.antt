-- What a text adds to the tables of a sheet, in the order in which it is made. Numbers go on behind the sheet's. Assumes nothing: these are
-- definitions.
use Rattle.std.specs.Prelude.{ℕ, zero, suc, ◌+◌, ◌-◌, ◌/◌, ◌%◌, ◌^◌, Bool, true, false, cond, ◌&&◌, ◌||◌, List, [], ◌∷◌, ◌++◌, eqb, ltb, length, get_or}
use Rattle.std.proofs.Math.Option.{Option, none, some}
use Rattle.image.specs.declared.rows.TypeRow.{TypeRow}
use Rattle.image.specs.declared.rows.PatRow.{PatRow}
use Rattle.image.specs.declared.rows.BindingRow.{BindingRow}
use Rattle.image.specs.Tables.{type_count, pattern_count, binding_count, list_count, data_count}
use Rattle.image.specs.Rows.{type_at}
use Rattle.image.specs.Types.{is_set}
use Rattle.pattern_words.specs.Words.{same_word}
use Rattle.name_tables.specs.Names.{first_from}
use Rattle.pattern_syntax.specs.Written.{LiteralValue, bool_value, char_value, whole_value, minus_value}

-- added types, patterns, bindings with their names, list words and data bytes
pub record Draft : Type 0 where
  pub types : List TypeRow
  pub patterns : List PatRow
  pub bindings : List BindingRow
  pub called : List (List ℕ)
  pub words : List ℕ
  pub bytes : List ℕ

abbrev pub empty_draft : Draft
empty_draft = record { types = []; patterns = []; bindings = []; called = []; words = []; bytes = [] }

-- a draft, and the list words that stand for what was made last: a pattern's number, a field's and its pattern's, an operand's place
pub record Made : Type 0 where
  pub draft : Draft
  pub stands : List ℕ

-- the numbers of what comes next
abbrev pub next_type : List ℕ → Draft → ℕ
next_type sheet d = type_count sheet + length d.types

abbrev pub next_pattern : List ℕ → Draft → ℕ
next_pattern sheet d = pattern_count sheet + length d.patterns

abbrev pub next_binding : List ℕ → Draft → ℕ
next_binding sheet d = binding_count sheet + length d.bindings

abbrev pub next_word : List ℕ → Draft → ℕ
next_word sheet d = list_count sheet + length d.words

abbrev pub next_byte : List ℕ → Draft → ℕ
next_byte sheet d = data_count sheet + length d.bytes

-- one more at a table's end
unfoldable pub add_type : TypeRow → Draft → Draft
add_type row d =
    record {
      types = d.types ++ (row ∷ []);
      patterns = d.patterns;
      bindings = d.bindings;
      called = d.called;
      words = d.words;
      bytes = d.bytes;
    }

unfoldable pub add_pattern : PatRow → Draft → Draft
add_pattern row d =
    record {
      types = d.types;
      patterns = d.patterns ++ (row ∷ []);
      bindings = d.bindings;
      called = d.called;
      words = d.words;
      bytes = d.bytes;
    }

unfoldable pub add_binding : BindingRow → List ℕ → Draft → Draft
add_binding row name d =
    record {
      types = d.types;
      patterns = d.patterns;
      bindings = d.bindings ++ (row ∷ []);
      called = d.called ++ (name ∷ []);
      words = d.words;
      bytes = d.bytes;
    }

unfoldable pub add_words : List ℕ → Draft → Draft
add_words ws d =
    record {
      types = d.types;
      patterns = d.patterns;
      bindings = d.bindings;
      called = d.called;
      words = d.words ++ ws;
      bytes = d.bytes;
    }

unfoldable pub add_bytes : List ℕ → Draft → Draft
add_bytes bs d =
    record {
      types = d.types;
      patterns = d.patterns;
      bindings = d.bindings;
      called = d.called;
      words = d.words;
      bytes = d.bytes ++ bs;
    }

-- so many bytes of a number, the lowest first
unfoldable pub little_endian_bytes : ℕ → ℕ → List ℕ
little_endian_bytes zero v = []
little_endian_bytes (suc n) v = v % 256 ∷ little_endian_bytes n (v / 256)

-- "integers as Uint, after a minus as Int": kinds 2 and 1, 16 bytes; 3 Char, 4; 4 Bool, 1
unfoldable pub operand_kind_of : LiteralValue → ℕ
operand_kind_of (bool_value b) = 4
operand_kind_of (char_value v) = 3
operand_kind_of (whole_value v) = 2
operand_kind_of (minus_value v) = 1

unfoldable pub literal_bytes : LiteralValue → List ℕ
literal_bytes (bool_value b) = cond b 1 0 ∷ []
literal_bytes (char_value v) = little_endian_bytes 4 v
literal_bytes (whole_value v) = little_endian_bytes 16 v
literal_bytes (minus_value v) = little_endian_bytes 16 (2 ^ 128 - v)

-- an operand: three list words, and its bytes
unfoldable pub add_operand : List ℕ → LiteralValue → Draft → Draft
add_operand sheet v d =
    add_bytes (literal_bytes v) (add_words (operand_kind_of v ∷ next_byte sheet d ∷ length (literal_bytes v) ∷ []) d)

-- the type t of a sheet and a draft
unfoldable pub type_in : List ℕ → Draft → ℕ → TypeRow
type_in sheet d t = cond (ltb t (type_count sheet)) (type_at sheet t) (get_or d.types (t - type_count sheet) (type_at sheet t))

abbrev pub same_flag : Bool → Bool → Bool
same_flag x y = cond x y (cond y false true)

-- types are alike with the same kind, the same target or element by number, the same length, and copy flags that are both set or both not; words
-- that a kind does not use are not looked at
unfoldable pub alike : TypeRow → TypeRow → Bool
alike row other =
    eqb row.kind other.kind
    && eqb row.a other.a
    && (eqb row.kind 7 || eqb row.b other.b)
    && same_flag (is_set row.copy) (is_set other.copy)

-- "of .. types alike the first serves"
unfoldable pub like_in : List ℕ → Draft → TypeRow → Option ℕ
like_in sheet d row = first_from (λ t. alike row (type_in sheet d t)) 0 (next_type sheet d)

-- "a reference or array type a binding lacks is added"
unfoldable pub add_unless : Option ℕ → TypeRow → Draft → Draft
add_unless none row d = add_type row d
add_unless (some t) row d = d

abbrev pub with_type : List ℕ → TypeRow → Draft → Draft
with_type sheet row d = add_unless (like_in sheet d row) row d

-- the type's number then
unfoldable pub number_or : Option ℕ → ℕ → ℕ
number_or none next = next
number_or (some t) next = t

abbrev pub number_of_type : List ℕ → TypeRow → Draft → ℕ
number_of_type sheet row d = number_or (like_in sheet d row) (next_type sheet d)

-- the binding of a name: its place among those of the draft
unfoldable pub binding_for : Draft → List ℕ → Option ℕ
binding_for d name = first_from (λ b. same_word (get_or d.called b []) name) 0 (length d.called)
