-- What the contracts of the lowering's functions say of tables and counts. Assumes nothing: these are definitions.
use Rattle.std.specs.Prelude.{Ok, Err}
use Rattle.std.specs.Prelude.{ℕ, ◌*◌, ◌-◌, ◌≤◌, ◌<◌, ◌≡◌, ◌⊎◌, List, length, take, drop}
use Rattle.std.proofs.Math.Option.{Option, none, some}
use Rattle.row_tables.specs.Rows.{zeros, row_at, Blank}
use Rattle.mir.specs.declared.Counts.{Counts}
use Rattle.refusals.specs.Refusals.{Result, done, stopped}
use Rattle.mir.specs.Blocks.{block_limit, block_words, block_width}
use Rattle.mir.specs.Statements.{statement_limit, statement_words, statement_width}
use Rattle.mir.specs.Locals.{local_limit}
use Rattle.mir.specs.Scopes.{scope_limit, entry_limit}
use Rattle.state.specs.Results.{Stepped}
use Rattle.state.specs.State.{Body, State, decode}

-- past its first n words a table has zeros
abbrev pub BlankWords : List ℕ → ℕ → Type 0
BlankWords table n = drop n table ≡ zeros (length table - n)

-- the tables have their sizes, the counts are within document 01's limits, and zeros stand above the counts
pub record Ready (b : Body) (c : Counts) : Type 0 where
  pub blocks : length b.blocks ≡ block_words
  pub statements : length b.statements ≡ statement_words
  pub locals : length b.locals ≡ local_limit
  pub scopes : length b.scopes ≡ scope_limit
  pub entries : length b.entries ≡ entry_limit
  pub block_count_lem : c.blocks ≤ block_limit
  pub statement_count : c.statements ≤ statement_limit
  pub local_count : c.locals ≤ local_limit
  pub scope_count : c.scopes ≤ scope_limit
  pub entry_count : c.entries ≤ entry_limit
  pub blank_blocks : Blank block_width b.blocks c.blocks
  pub blank_statements : Blank statement_width b.statements c.statements
  pub blank_locals : BlankWords b.locals c.locals
  pub blank_scopes : BlankWords b.scopes c.scopes
  pub blank_entries : BlankWords b.entries c.entries

-- nothing was taken away
pub record Grown (c c' : Counts) : Type 0 where
  pub blocks : c.blocks ≤ c'.blocks
  pub statements : c.statements ≤ c'.statements
  pub locals : c.locals ≤ c'.locals
  pub scopes : c.scopes ≤ c'.scopes
  pub entries : c.entries ≤ c'.entries

-- what lies below the counts is as it was, but for the row of one block
pub record Kept (c : Counts) (current : ℕ) (b b' : Body) : Type 0 where
  pub blocks : (i : ℕ) → i < c.blocks → (i ≡ current → ⊥) → row_at block_width b'.blocks i ≡ row_at block_width b.blocks i
  pub statements : take (statement_width * c.statements) b'.statements ≡ take (statement_width * c.statements) b.statements
  pub locals : take c.locals b'.locals ≡ take c.locals b.locals
  pub scopes : take c.scopes b'.scopes ≡ take c.scopes b.scopes
  pub entries : take c.entries b'.entries ≡ take c.entries b.entries

-- the block whose terminator a later step may set: the same, or a new one
abbrev pub Own : Counts → ℕ → ℕ → Type 0
Own c current next = (next ≡ current) ⊎ (c.blocks ≤ next)

-- what holds of the tables and the counts where an answer has some
abbrev pub Goes : Counts → Option Counts → Body → Type 0
Goes c none b' = Unit
Goes c (some c') b' = Ready b' c' × Grown c c'

-- An answer that, with the tables at exit, is what the definition gives. Where it has counts the tables are ready for the next step, and in any case
-- what lay below the counts is as it was, but for the terminator of one block.
pub record Answers {A : Type 0} (b : Body) (c : Counts) (current : ℕ) (b' : Body) (c' : Option Counts) (given defined : A) : Type 0 where
  pub says : given ≡ defined
  pub goes : Goes c c' b'
  pub kept : Kept c current b b'

-- the answer of a step, as the definitions have it
abbrev pub stepped_result : Stepped → Body → Result State
stepped_result (Ok c) b = done (decode b c)
stepped_result (Err e) b = stopped e

abbrev pub stepped_counts : Stepped → Option Counts
stepped_counts (Ok c) = some c
stepped_counts (Err e) = none
