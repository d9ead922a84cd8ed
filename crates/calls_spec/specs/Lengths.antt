-- The tables that a call is lent. Assumes nothing: these are definitions.
use Rattle.std.specs.Prelude.{◌≡◌, length}
use Rattle.mir.specs.Blocks.{block_words}
use Rattle.mir.specs.Statements.{statement_words}
use Rattle.mir.specs.Locals.{local_limit}
use Rattle.mir.specs.Scopes.{scope_limit, entry_limit}
use Rattle.state.specs.State.{Body}

-- the lengths of a body's tables, which are parts of one lent table: a table of another length is shut out by its type
pub record Lengths (b : Body) : Type 0 where
  pub blocks : length b.blocks ≡ block_words
  pub statements : length b.statements ≡ statement_words
  pub locals : length b.locals ≡ local_limit
  pub scopes : length b.scopes ≡ scope_limit
  pub entries : length b.entries ≡ entry_limit
