-- Records that are filled from the table of blocks' rows. Assumes nothing: these are definitions.
use Rattle.std.specs.Prelude.{ℕ, zero, suc, Bool, true, false, cond, ◌&&◌, ◌≡◌, List, map, eqb, leb, set, take}
use Rattle.mir.specs.Blocks.{block_words}
use Rattle.block_records.specs.declared.Block.{Block}
use Rattle.block_records.specs.Records.{terminator_in, record_at, terminators_of}

-- the first n records, each from its row of the table
unfoldable pub filled : List Block → List ℕ → ℕ → List Block
filled records blocks zero = records
filled records blocks (suc n) = set (filled records blocks n) n (record_at blocks n)

-- whether a table of so many words is one of blocks, and has no more blocks than 512 and than there are records
unfoldable pub fits : ℕ → ℕ → ℕ → Bool
fits words count room = eqb words block_words && leb count 512 && leb count room

-- the records where they are filled, and where that is refused
unfoldable pub filled_where : Bool → List Block → List ℕ → ℕ → List Block
filled_where ok records blocks count = cond ok (filled records blocks count) records

-- where they are filled, the first records are the table's first blocks
abbrev pub Shown : Bool → List Block → List ℕ → ℕ → Type 0
Shown true records blocks count = map terminator_in (take count records) ≡ terminators_of blocks count
Shown false records blocks count = Unit
