-- Drop scopes and their entries, a word each. Assumes nothing: these are definitions.
use Rattle.std.specs.Prelude.{Some, None}
use Rattle.std.specs.Prelude.{ℕ, ◌+◌, cond, List, ltb, set}
use Rattle.mir.specs.declared.Counts.{Counts}
use Rattle.mir.specs.Results.{Counted}

-- document 01: "32 scopes with 1,024 entries together"
abbrev pub scope_limit : ℕ
scope_limit = 32

abbrev pub entry_limit : ℕ
entry_limit = 1024

-- the counts with one scope more
abbrev pub one_scope_more : Counts → Counts
one_scope_more c = record { blocks = c.blocks; statements = c.statements; locals = c.locals; scopes = c.scopes + 1; entries = c.entries }

-- the counts with one entry more
abbrev pub one_entry_more : Counts → Counts
one_entry_more c = record { blocks = c.blocks; statements = c.statements; locals = c.locals; scopes = c.scopes; entries = c.entries + 1 }

-- a new scope; the 33rd passes the limit
unfoldable pub new_scope : Counts → Counted
new_scope c = cond (ltb c.scopes scope_limit) (Some (one_scope_more c)) None

-- the table with it: its entries begin behind those that there are
unfoldable pub scopes_after : Counts → List ℕ → List ℕ
scopes_after c table = cond (ltb c.scopes scope_limit) (set table c.scopes c.entries) table

-- a new entry; the 1,025th passes the limit
unfoldable pub new_entry : Counts → Counted
new_entry c = cond (ltb c.entries entry_limit) (Some (one_entry_more c)) None

-- the table with it
unfoldable pub entries_after : Counts → List ℕ → ℕ → List ℕ
entries_after c table l = cond (ltb c.entries entry_limit) (set table c.entries l) table
