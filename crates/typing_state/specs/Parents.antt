-- The parents that wait, as rows of a table and as a stack. Assumes nothing: these are definitions.
use Rattle.std.specs.Prelude.{ℕ, zero, suc, ◌≤◌, ◌≡◌, List, [], ◌∷◌, get_or}
use Rattle.row_tables.specs.Rows.{row_at}
use Rattle.pattern_typing.specs.Downward.{Waiting}
use Rattle.type_parts.specs.declared.PartsRow.{PartsRow}
use Rattle.type_parts.specs.Parts.{parts_of}
use Rattle.typing_state.specs.declared.tables.WaitingRow.{WaitingRow}

-- the words of a parent that waits, and what they stand for
abbrev pub waiting_words : PartsRow → ℕ → List ℕ
waiting_words reads left = reads.kind ∷ reads.a ∷ reads.b ∷ reads.c ∷ reads.mode ∷ reads.many ∷ left ∷ []

abbrev pub waiting_row : List ℕ → WaitingRow
waiting_row words =
    record {
      reads =
          record {
            kind = get_or words 0 0;
            a = get_or words 1 0;
            b = get_or words 2 0;
            c = get_or words 3 0;
            mode = get_or words 4 0;
            many = get_or words 5 0;
          };
      left = get_or words 6 0;
    }

abbrev pub waiting_of : WaitingRow → Waiting
waiting_of row = record { reads = parts_of row.reads; left = row.left }

-- so many parents, the last one on top
unfoldable pub stack_of : List ℕ → ℕ → List Waiting
stack_of table zero = []
stack_of table (suc depth) = waiting_of (waiting_row (row_at 7 table depth)) ∷ stack_of table depth

-- a stack of at most so many parents
pub record Stacked (table : List ℕ) (depth : ℕ) (stack : List Waiting) (most : ℕ) : Type 0 where
  pub same : stack_of table depth ≡ stack
  pub within : depth ≤ most
