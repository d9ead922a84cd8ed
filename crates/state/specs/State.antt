-- A body and its scopes as lists of rows, and the tables that hold them. Assumes nothing: these are definitions.
use Rattle.std.specs.Prelude.{ℕ, ◌-◌, List, ◌++◌, length, take}
use Rattle.row_tables.specs.Rows.{zeros, rows_of, encode_rows}
use Rattle.mir.specs.declared.Counts.{Counts}
use Rattle.mir.specs.Blocks.{block_width, block_words}
use Rattle.mir.specs.Statements.{statement_width, statement_words}
use Rattle.mir.specs.Locals.{local_limit}
use Rattle.mir.specs.Scopes.{scope_limit, entry_limit}

-- the words of the five tables that the caller lends
pub record Body : Type 0 where
  pub blocks : List ℕ
  pub statements : List ℕ
  pub locals : List ℕ
  pub scopes : List ℕ
  pub entries : List ℕ

abbrev pub body : List ℕ → List ℕ → List ℕ → List ℕ → List ℕ → Body
body b s l c e = record { blocks = b; statements = s; locals = l; scopes = c; entries = e }

-- the rows in use
pub record State : Type 0 where
  -- a block's row is its terminator
  pub blocks : List (List ℕ)
  -- in order of creation, each with its block's number
  pub statements : List (List ℕ)
  -- the words of the locals' types
  pub locals : List ℕ
  -- for each scope, how many entries there were when it was opened
  pub scopes : List ℕ
  -- the locals that leave with their scopes
  pub entries : List ℕ

-- the state that tables and counts stand for
unfoldable pub decode : Body → Counts → State
decode b c =
    record {
      blocks = rows_of block_width b.blocks c.blocks;
      statements = rows_of statement_width b.statements c.statements;
      locals = take c.locals b.locals;
      scopes = take c.scopes b.scopes;
      entries = take c.entries b.entries;
    }

-- words, and then zeros, as a table of so many words
unfoldable pub padded : ℕ → List ℕ → List ℕ
padded size words = words ++ zeros (size - length words)

-- the tables that hold a state: its rows, and zeros above
unfoldable pub encode : State → Body
encode st =
    record {
      blocks = encode_rows block_words st.blocks;
      statements = encode_rows statement_words st.statements;
      locals = padded local_limit st.locals;
      scopes = padded scope_limit st.scopes;
      entries = padded entry_limit st.entries;
    }

-- how many rows of each table a state has
unfoldable pub counts_of : State → Counts
counts_of st =
    record {
      blocks = length st.blocks;
      statements = length st.statements;
      locals = length st.locals;
      scopes = length st.scopes;
      entries = length st.entries;
    }
