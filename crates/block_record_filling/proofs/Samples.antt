-- The definitions, computed on a table of three blocks: a goto, a switch and a drop. Assumes nothing.
use Rattle.std.specs.Prelude.{Some, None}
use Prim.Native.Nat.{ℕ}
use mathlib.Core.Path.{◌≡◌, refl}
use mathlib.Core.Bool.{true, false}
use mathlib.Core.List.{List, [], ◌∷◌, ◌++◌, map}
use Rattle.row_tables.specs.Rows.{row_at, joined}
use Rattle.mir.specs.declared.blocks.Terminator.{Terminator}
use Rattle.mir.specs.Blocks.{term_row, block_words}
use Rattle.block_records.specs.declared.Block.{Block}
use Rattle.block_records.specs.Records.{blank, record_of, terminator_in, record_at}
use Rattle.block_record_tables.specs.Looks.{look_at, open_at, put_at}
use Rattle.block_record_filling.specs.Fillings.{filled, fits}

-- the value 2^64 * 7 + 4295033345 is tested
abbrev pub three : List Terminator
three =
    Terminator.Goto (record { 0 = 1 })
    ∷ Terminator.Switch (record { 0 = 9 }) 4295033345 7 (record { 0 = 2 }) (record { 0 = 511 })
    ∷ Terminator.Drop (record { 0 = 9 }) (record { 0 = 1 })
    ∷ []

abbrev pub words : List ℕ
words = 1 ∷ 0 ∷ 1 ∷ 0 ∷ 0 ∷ 0 ∷ 0 ∷ 0 ∷ 0 ∷ 0 ∷ 0 ∷ 0 ∷ 2 ∷ 9 ∷ 2 ∷ 511 ∷ 513 ∷ 1 ∷ 1 ∷ 0 ∷ 7 ∷ 0 ∷ 0 ∷ 0 ∷ 4 ∷ 9 ∷ 1 ∷ 0 ∷ 0 ∷ 0 ∷ 0 ∷ 0 ∷ 0 ∷ 0 ∷ 0 ∷ 0 ∷ []

-- the words are the rows of the three
pub rows : words ≡ joined (map term_row three)
unfolding joined term_row
rows = refl

-- four records, of which three are filled
abbrev pub records : List Block
records = filled (blank ∷ blank ∷ blank ∷ blank ∷ []) words 3

-- they are read as the three, and an open block
pub reads : map terminator_in records ≡ three ++ (Terminator.Open ∷ [])
unfolding filled record_at row_at terminator_in
reads = refl

-- they are the records of the three, and a blank
pub makes : records ≡ map record_of three ++ (blank ∷ [])
unfolding filled record_at row_at record_of
makes = refl

-- looks at three of them, and at one past the end
pub looks : map (look_at records) (0 ∷ 2 ∷ 3 ∷ 4 ∷ []) ≡ Some (Terminator.Goto (record { 0 = 1 })) ∷ Some (Terminator.Drop (record { 0 = 9 }) (record { 0 = 1 })) ∷ Some Terminator.Open ∷ None ∷ []
unfolding filled record_at row_at terminator_in look_at
looks = refl

-- which of them lack a terminator
pub opens : map (open_at records) (0 ∷ 3 ∷ 4 ∷ []) ≡ false ∷ true ∷ false ∷ []
unfolding filled record_at row_at open_at
opens = refl

-- a terminator set in the last, and in one past the end
pub puts : map terminator_in (put_at (put_at records 3 Terminator.Unreachable) 4 Terminator.Unreachable) ≡ three ++ (Terminator.Unreachable ∷ [])
unfolding filled record_at row_at terminator_in put_at record_of
puts = refl

-- what fits: 512 blocks; a table of another length, one block too many and one record too few do not
pub tests : fits block_words 512 512 ∷ fits 6143 3 512 ∷ fits block_words 513 600 ∷ fits block_words 4 3 ∷ [] ≡ true ∷ false ∷ false ∷ false ∷ []
unfolding fits
tests = refl
