-- A body and its scopes in one table of 57,888 words: blocks, statements, locals, scopes and entries, one behind the other. Assumes nothing: these are
-- definitions.
use Rattle.std.specs.Prelude.{ℕ, ◌+◌, List, take, drop}
use Rattle.mir.specs.Blocks.{block_words}
use Rattle.mir.specs.Statements.{statement_words}
use Rattle.mir.specs.Locals.{local_limit}
use Rattle.mir.specs.Scopes.{scope_limit, entry_limit}
use Rattle.state.specs.State.{Body, body}

-- where each table begins, that of the blocks at 0, and how many words there are: a local, a scope and an entry have one each
abbrev pub statements_at : ℕ
statements_at = block_words

abbrev pub locals_at : ℕ
locals_at = statements_at + statement_words

abbrev pub scopes_at : ℕ
scopes_at = locals_at + local_limit

abbrev pub entries_at : ℕ
entries_at = scopes_at + scope_limit

abbrev pub body_words : ℕ
body_words = entries_at + entry_limit

-- the five tables that the words hold
unfoldable pub body_of : List ℕ → Body
body_of words =
    body
    (take block_words (drop 0 words))
    (take statement_words (drop statements_at words))
    (take local_limit (drop locals_at words))
    (take scope_limit (drop scopes_at words))
    (take entry_limit (drop entries_at words))

-- a body with another table in the place of one of its own
abbrev pub with_blocks : Body → List ℕ → Body
with_blocks b t = body t b.statements b.locals b.scopes b.entries

abbrev pub with_statements : Body → List ℕ → Body
with_statements b t = body b.blocks t b.locals b.scopes b.entries

abbrev pub with_locals : Body → List ℕ → Body
with_locals b t = body b.blocks b.statements t b.scopes b.entries

abbrev pub with_scopes : Body → List ℕ → Body
with_scopes b t = body b.blocks b.statements b.locals t b.entries

abbrev pub with_entries : Body → List ℕ → Body
with_entries b t = body b.blocks b.statements b.locals b.scopes t
