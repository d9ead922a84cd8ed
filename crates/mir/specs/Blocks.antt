-- Blocks and their terminators, in rows of a table of 512. Assumes nothing: these are definitions.
use Rattle.std.specs.Prelude.{Some, None}
use Rattle.std.specs.Prelude.{ℕ, ◌+◌, ◌*◌, ◌/◌, ◌%◌, Bool, cond, List, [], ◌∷◌, ◌++◌, eqb, ltb, get_or}
use Rattle.row_tables.specs.Rows.{zeros}
use Rattle.mir.specs.declared.Counts.{Counts}
use Rattle.mir.specs.declared.blocks.Terminator.{Terminator}
use Rattle.mir.specs.Results.{NewBlock}

-- document 01: "512 blocks"
abbrev pub block_limit : ℕ
block_limit = 512

-- the words of a block's row, and of all of them
abbrev pub block_width : ℕ
block_width = 12

abbrev pub block_words : ℕ
block_words = block_width * block_limit

-- a number below 2^64 as four words, the lowest first
abbrev pub four_words : ℕ → List ℕ
four_words n = n % 65536 ∷ n / 65536 % 65536 ∷ n / 4294967296 % 65536 ∷ n / 281474976710656 % 65536 ∷ []

-- the row of a terminator: its kind, a local, two blocks, and of a switch the 16 bytes of its value as eight words, the lowest first.
-- A block with none has zeros, so that it is open where nothing was stored.
unfoldable pub term_row : Terminator → List ℕ
term_row Terminator.Open = zeros block_width
term_row (Terminator.Goto b) = 1 ∷ 0 ∷ b.0 ∷ 0 ∷ zeros 8
term_row (Terminator.Switch l low high then else) = 2 ∷ l.0 ∷ then.0 ∷ else.0 ∷ (four_words low ++ four_words high)
term_row Terminator.Unreachable = 3 ∷ zeros 11
term_row (Terminator.Drop l b) = 4 ∷ l.0 ∷ b.0 ∷ 0 ∷ zeros 8

-- a block that lacks a terminator
unfoldable pub is_open : List ℕ → Bool
is_open row = eqb (get_or row 0 0) 0

-- the counts with one block more
abbrev pub one_block_more : Counts → Counts
one_block_more c = record { blocks = c.blocks + 1; statements = c.statements; locals = c.locals; scopes = c.scopes; entries = c.entries }

-- a new block: its number is the count of the blocks before it; the 513th passes the limit
unfoldable pub new_block : Counts → NewBlock
new_block c = cond (ltb c.blocks block_limit) (Some (one_block_more c, record { 0 = c.blocks })) None
