-- The steps that build a body, on its state: first each by itself, then where it may pass a limit. Assumes nothing: these are definitions.
use Rattle.std.specs.Prelude.{ℕ, ◌-◌, Bool, cond, List, [], ◌∷◌, ◌++◌, ltb, length, take, get_or, set}
use Rattle.refusals.specs.declared.MirLowerError.{MirLowerError}
use Rattle.refusals.specs.Refusals.{Result, done, stopped}
use Rattle.row_tables.specs.Rows.{zeros}
use Rattle.place.specs.declared.LocalId.{LocalId}
use Rattle.mir.specs.declared.BasicBlockId.{BasicBlockId}
use Rattle.mir.specs.declared.blocks.Terminator.{Terminator}
use Rattle.mir.specs.Blocks.{block_limit, term_row}
use Rattle.mir.specs.Statements.{statement_limit}
use Rattle.mir.specs.Locals.{local_limit}
use Rattle.mir.specs.Scopes.{scope_limit, entry_limit}
use Rattle.state.specs.State.{State}

-- the number of the block that comes next
abbrev pub next_block : State → BasicBlockId
next_block st = record { 0 = length st.blocks }

-- the number of the local that comes next
abbrev pub next_local : State → LocalId
next_local st = record { 0 = length st.locals }

-- one block more, open
unfoldable pub new_block : State → State
new_block st = record { blocks = st.blocks ++ (zeros 12 ∷ []); statements = st.statements; locals = st.locals; scopes = st.scopes; entries = st.entries }

-- the terminator of a block, in place of what it had
unfoldable pub set_terminator : State → BasicBlockId → Terminator → State
set_terminator st b t =
    record { blocks = set st.blocks b.0 (term_row t); statements = st.statements; locals = st.locals; scopes = st.scopes; entries = st.entries }

-- one statement more
unfoldable pub push_statement : State → List ℕ → State
push_statement st row = record { blocks = st.blocks; statements = st.statements ++ (row ∷ []); locals = st.locals; scopes = st.scopes; entries = st.entries }

-- one local more, of the type that the word says
unfoldable pub new_local : State → ℕ → State
new_local st word = record { blocks = st.blocks; statements = st.statements; locals = st.locals ++ (word ∷ []); scopes = st.scopes; entries = st.entries }

-- one scope more, with no entry
unfoldable pub push_scope : State → State
push_scope st =
    record { blocks = st.blocks; statements = st.statements; locals = st.locals; scopes = st.scopes ++ (length st.entries ∷ []); entries = st.entries }

-- a local as the last entry of the last scope
unfoldable pub push_entry : State → LocalId → State
push_entry st l = record { blocks = st.blocks; statements = st.statements; locals = st.locals; scopes = st.scopes; entries = st.entries ++ (l.0 ∷ []) }

-- where the entries of the scope i begin; those of a scope that there is not would begin behind the last
unfoldable pub scope_start : State → ℕ → ℕ
scope_start st i = get_or st.scopes i (length st.entries)

-- without the last scope and its entries
unfoldable pub pop_scope : State → State
pop_scope st =
    record {
      blocks = st.blocks;
      statements = st.statements;
      locals = st.locals;
      scopes = take (length st.scopes - 1) st.scopes;
      entries = take (scope_start st (length st.scopes - 1)) st.entries;
    }

-- where there is room, and otherwise document 01's number 11
abbrev pub within : {A : Type 0} → Bool → A → Result A
within room a = cond room (done a) (stopped MirLowerError.Limit)

unfoldable pub try_block : State → Result State
try_block st = within (ltb (length st.blocks) block_limit) (new_block st)

unfoldable pub try_statement : State → List ℕ → Result State
try_statement st row = within (ltb (length st.statements) statement_limit) (push_statement st row)

unfoldable pub try_local : State → ℕ → Result State
try_local st word = within (ltb (length st.locals) local_limit) (new_local st word)

unfoldable pub try_scope : State → Result State
try_scope st = within (ltb (length st.scopes) scope_limit) (push_scope st)

unfoldable pub try_entry : State → LocalId → Result State
try_entry st l = within (ltb (length st.entries) entry_limit) (push_entry st l)
