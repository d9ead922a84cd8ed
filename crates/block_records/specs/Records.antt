-- Blocks as records: the record of a terminator and of a block's row, and a record read as a terminator. Assumes nothing: these are definitions.
use Rattle.std.specs.Prelude.{ℕ, List, [], ◌∷◌, map, get_or}
use Rattle.row_tables.specs.Rows.{row_at, rows_of}
use Rattle.place.specs.declared.LocalId.{LocalId}
use Rattle.mir.specs.declared.BasicBlockId.{BasicBlockId}
use Rattle.mir.specs.declared.blocks.Terminator.{Terminator}
use Rattle.mir.specs.Blocks.{block_width}
use Rattle.views.specs.Views.{word, four_words_at, terminator_of}
use Rattle.block_records.specs.declared.Block.{Block}

-- a record that tests no value
abbrev pub bare : ℕ → LocalId → BasicBlockId → Block
bare kind local then = record { kind = kind; local = local; then = then; other = record { 0 = 0 }; low = 0; high = 0 }

-- an open block's record
abbrev pub blank : Block
blank = bare 0 (record { 0 = 0 }) (record { 0 = 0 })

-- the record of a terminator: docs/BODY.md's words, with a switch's value as two numbers. What a kind does not use is 0.
unfoldable pub record_of : Terminator → Block
record_of Terminator.Open = blank
record_of (Terminator.Goto b) = bare 1 (record { 0 = 0 }) b
record_of (Terminator.Switch l low high then else) = record { kind = 2; local = l; then = then; other = else; low = low; high = high }
record_of Terminator.Unreachable = bare 3 (record { 0 = 0 }) (record { 0 = 0 })
record_of (Terminator.Drop l b) = bare 4 l b

-- the terminators of each kind with a record's numbers, the kinds numbered from 0
abbrev pub kinds_in : Block → List Terminator
kinds_in r =
    Terminator.Open
    ∷ Terminator.Goto r.then
    ∷ Terminator.Switch r.local r.low r.high r.then r.other
    ∷ Terminator.Unreachable
    ∷ Terminator.Drop r.local r.then
    ∷ []

-- a record read as a terminator: one of no kind is open
unfoldable pub terminator_in : Block → Terminator
terminator_in r = get_or (kinds_in r) r.kind Terminator.Open

-- a row of 12 words as a record
abbrev pub record_of_row : List ℕ → Block
record_of_row row = record { kind = word row 0; local = record { 0 = word row 1 }; then = record { 0 = word row 2 }; other = record { 0 = word row 3 }; low = four_words_at row 4; high = four_words_at row 8 }

-- the row b of the table of blocks as a record
unfoldable pub record_at : List ℕ → ℕ → Block
record_at blocks b = record_of_row (row_at block_width blocks b)

-- the terminators of the first blocks of a table, as the body of its state has them
unfoldable pub terminators_of : List ℕ → ℕ → List Terminator
terminators_of blocks count = map terminator_of (rows_of block_width blocks count)
