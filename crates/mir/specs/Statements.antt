-- Statements, in rows of a table of 1,024, in order of creation. Assumes nothing: these are definitions.
use Rattle.std.specs.Prelude.{Some, None}
use Rattle.std.specs.Prelude.{ℕ, ◌+◌, ◌*◌, ◌/◌, ◌%◌, cond, List, [], ◌∷◌, ltb}
use Rattle.row_tables.specs.Rows.{stored}
use Rattle.place.specs.declared.Place.{Place}
use Rattle.mir.specs.declared.Counts.{Counts}
use Rattle.mir.specs.Results.{Counted}

-- document 01: "1,024 statements"
abbrev pub statement_limit : ℕ
statement_limit = 1024

-- the words of a statement's row: the block's number, the kind, a local, a left operand of 12 words and a place of 34; and of all of them
abbrev pub statement_width : ℕ
statement_width = 49

abbrev pub statement_words : ℕ
statement_words = statement_width * statement_limit

-- each element of a place as two words, the low half first
unfoldable pub halves : List ℕ → List ℕ
halves [] = []
halves (elem ∷ elems) = elem % 65536 ∷ elem / 65536 ∷ halves elems

-- the words of a place: its local, its count of elements, and the elements
unfoldable pub place_words : Place → List ℕ
place_words place = place.local.0 ∷ place.len ∷ halves place.elems

-- the counts with one statement more
abbrev pub one_statement_more : Counts → Counts
one_statement_more c = record { blocks = c.blocks; statements = c.statements + 1; locals = c.locals; scopes = c.scopes; entries = c.entries }

-- a new statement; the 1,025th passes the limit
unfoldable pub new_statement : Counts → Counted
new_statement c = cond (ltb c.statements statement_limit) (Some (one_statement_more c)) None

-- the table with it
unfoldable pub statements_after : Counts → List ℕ → List ℕ → List ℕ
statements_after c table row = cond (ltb c.statements statement_limit) (stored table (statement_width * c.statements) row) table
