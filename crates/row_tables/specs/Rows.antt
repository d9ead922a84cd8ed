-- Tables of rows in a list of numbers: each row has w numbers, and zeros stand past the last row. Assumes nothing: these are definitions.
use Rattle.std.specs.Prelude.{ℕ, zero, suc, ◌+◌, ◌*◌, ◌-◌, ◌≤◌, ◌<◌, ◌≡◌, List, [], ◌∷◌, ◌++◌, length, get_or, take, drop, replicate}

-- so many zeros
abbrev pub zeros : ℕ → List ℕ
zeros n = replicate n 0

-- the row i of a table
unfoldable pub row_at : ℕ → List ℕ → ℕ → List ℕ
row_at w table i = take w (drop (w * i) table)

-- the first n rows of a table
unfoldable pub rows_of : ℕ → List ℕ → ℕ → List (List ℕ)
rows_of w table zero = []
rows_of w table (suc n) = rows_of w table n ++ (row_at w table n ∷ [])

-- rows as numbers
unfoldable pub joined : List (List ℕ) → List ℕ
joined [] = []
joined (row ∷ rows) = row ++ joined rows

-- rows as a table of so many numbers: the rows, and then zeros
unfoldable pub encode_rows : ℕ → List (List ℕ) → List ℕ
encode_rows size rows = joined rows ++ zeros (size - length (joined rows))

-- the table with a row stored from the number `at` on
unfoldable pub stored : List ℕ → ℕ → List ℕ → List ℕ
stored table at row = take at table ++ (row ++ drop (at + length row) table)

-- the table with zeros from the number `at` on
unfoldable pub cleared : List ℕ → ℕ → List ℕ
cleared table at = take at table ++ zeros (length table - at)

-- each of the n numbers of a table from `at` on is at most b
abbrev pub AtMost : ℕ → List ℕ → ℕ → ℕ → Type 0
AtMost b table at n = (k : ℕ) → k < n → get_or table (at + k) 0 ≤ b

-- from its number `from` on a table has zeros
abbrev pub ZerosFrom : List ℕ → ℕ → Type 0
ZerosFrom table from = (from ≤ length table) × (drop from table ≡ zeros (length table - from))

-- past its first n rows a table has zeros
abbrev pub Blank : ℕ → List ℕ → ℕ → Type 0
Blank w table n = drop (w * n) table ≡ zeros (length table - w * n)
