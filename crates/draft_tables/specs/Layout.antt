-- A draft and its stack in one table of 40,704 words, one behind the other: 256 types of 5 words, 512 patterns of 7, 256 bindings of 2 and their names'
-- ranges of 2, 2,048 list words, 16,384 bytes of data and 16,384 words of the stack. Assumes nothing: these are definitions.
use Rattle.std.specs.Prelude.{ℕ, ◌+◌, ◌≤◌, ◌≡◌, List, ◌++◌, map, get_or, take, drop}
use Rattle.image.specs.declared.rows.TypeRow.{TypeRow}
use Rattle.image.specs.declared.rows.PatRow.{PatRow}
use Rattle.image.specs.declared.rows.BindingRow.{BindingRow}
use Rattle.row_tables.specs.Rows.{rows_of}
use Rattle.pattern_syntax.specs.Reduced.{bytes_from}
use Rattle.pattern_images.specs.Drafts.{Draft, add_type, add_pattern, add_binding, add_words, add_bytes}
use Rattle.draft_stack.specs.Stack.{Stacked}
use Rattle.draft_tables.specs.declared.DraftCounts.{DraftCounts}
use Rattle.draft_tables.specs.declared.NameRange.{NameRange}

-- rows by their words
unfoldable pub type_of_words : List ℕ → TypeRow
type_of_words ws = record { kind = get_or ws 0 0; a = get_or ws 1 0; b = get_or ws 2 0; c = get_or ws 3 0; copy = get_or ws 4 0 }

unfoldable pub pattern_of_words : List ℕ → PatRow
pattern_of_words ws =
    record {
      kind = get_or ws 0 0;
      ty = get_or ws 1 0;
      derefs = get_or ws 2 0;
      a = get_or ws 3 0;
      b = get_or ws 4 0;
      c = get_or ws 5 0;
      d = get_or ws 6 0;
    }

unfoldable pub binding_of_words : List ℕ → BindingRow
binding_of_words ws = record { ty = get_or ws 0 0; picked = get_or ws 1 0 }

unfoldable pub range_of_words : List ℕ → NameRange
range_of_words ws = record { from = get_or ws 0 0; to = get_or ws 1 0 }

-- a name by its range among the names' bytes
unfoldable pub name_of_words : List ℕ → List ℕ → List ℕ
name_of_words names ws = bytes_from names (get_or ws 0 0) (get_or ws 1 0)

-- the draft that a table holds, by its counts
unfoldable pub draft_in : List ℕ → List ℕ → DraftCounts → Draft
draft_in names table c =
    record {
      types = map type_of_words (rows_of 5 (drop 0 table) c.types);
      patterns = map pattern_of_words (rows_of 7 (drop 1280 table) c.patterns);
      bindings = map binding_of_words (rows_of 2 (drop 4864 table) c.bindings);
      called = map (name_of_words names) (rows_of 2 (drop 5376 table) c.bindings);
      words = take c.words (drop 5888 table);
      bytes = take c.bytes (drop 7936 table);
    }

-- the draft and the stack
unfoldable pub stacked_in : List ℕ → List ℕ → DraftCounts → Stacked
stacked_in names table c = record { stack = take c.height (drop 24320 table); draft = draft_in names table c }

-- the counts lie within the table
pub record WithinDraft (c : DraftCounts) : Type 0 where
  pub types : c.types ≤ 256
  pub patterns : c.patterns ≤ 512
  pub bindings : c.bindings ≤ 256
  pub words : c.words ≤ 2048
  pub bytes : c.bytes ≤ 16384
  pub height : c.height ≤ 16384

-- counts with one more, or so many more
abbrev pub type_more : DraftCounts → DraftCounts
type_more c =
    record { types = c.types + 1; patterns = c.patterns; bindings = c.bindings; words = c.words; bytes = c.bytes; height = c.height }

abbrev pub pattern_more : DraftCounts → DraftCounts
pattern_more c =
    record { types = c.types; patterns = c.patterns + 1; bindings = c.bindings; words = c.words; bytes = c.bytes; height = c.height }

abbrev pub binding_more : DraftCounts → DraftCounts
binding_more c =
    record { types = c.types; patterns = c.patterns; bindings = c.bindings + 1; words = c.words; bytes = c.bytes; height = c.height }

abbrev pub words_more : ℕ → DraftCounts → DraftCounts
words_more many c =
    record { types = c.types; patterns = c.patterns; bindings = c.bindings; words = c.words + many; bytes = c.bytes; height = c.height }

abbrev pub bytes_more : ℕ → DraftCounts → DraftCounts
bytes_more many c =
    record { types = c.types; patterns = c.patterns; bindings = c.bindings; words = c.words; bytes = c.bytes + many; height = c.height }

abbrev pub height_is : ℕ → DraftCounts → DraftCounts
height_is height c =
    record { types = c.types; patterns = c.patterns; bindings = c.bindings; words = c.words; bytes = c.bytes; height = height }

-- the stack as it was, with another draft
abbrev pub drafted : (Draft → Draft) → Stacked → Stacked
drafted f s = record { stack = s.stack; draft = f s.draft }

-- more words on the stack
abbrev pub raised : List ℕ → Stacked → Stacked
raised ws s = record { stack = s.stack ++ ws; draft = s.draft }

-- what a table became, whatever the names are
abbrev pub HoldsType : List ℕ → DraftCounts → TypeRow → List ℕ → Type 0
HoldsType table c row after = (names : List ℕ) → stacked_in names after (type_more c) ≡ drafted (add_type row) (stacked_in names table c)

abbrev pub HoldsPattern : List ℕ → DraftCounts → PatRow → List ℕ → Type 0
HoldsPattern table c row after = (names : List ℕ) → stacked_in names after (pattern_more c) ≡ drafted (add_pattern row) (stacked_in names table c)

abbrev pub HoldsBinding : List ℕ → DraftCounts → ℕ → ℕ → ℕ → List ℕ → Type 0
HoldsBinding table c ty from to after =
    (names : List ℕ) → stacked_in names after (binding_more c) ≡ drafted (add_binding (record { ty = ty; picked = 1 }) (bytes_from names from to)) (stacked_in names table c)

abbrev pub HoldsWords : List ℕ → DraftCounts → List ℕ → ℕ → List ℕ → Type 0
HoldsWords table c ws many after = (names : List ℕ) → stacked_in names after (words_more many c) ≡ drafted (add_words ws) (stacked_in names table c)

abbrev pub HoldsBytes : List ℕ → DraftCounts → List ℕ → ℕ → List ℕ → Type 0
HoldsBytes table c bs many after = (names : List ℕ) → stacked_in names after (bytes_more many c) ≡ drafted (add_bytes bs) (stacked_in names table c)

abbrev pub HoldsStack : List ℕ → DraftCounts → List ℕ → ℕ → List ℕ → Type 0
HoldsStack table c ws many after = (names : List ℕ) → stacked_in names after (height_is (c.height + many) c) ≡ raised ws (stacked_in names table c)
