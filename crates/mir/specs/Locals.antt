-- Locals, a word each in a table of 512. Assumes nothing: these are definitions.
use Rattle.std.specs.Prelude.{Some, None}
use Rattle.std.specs.Prelude.{ℕ, ◌+◌, ◌-◌, Bool, cond, List, [], ◌∷◌, ltb, get_or, set}
use Rattle.place.specs.declared.place_ty.PlaceTy.{PlaceTy}
use Rattle.mir.specs.declared.Counts.{Counts}
use Rattle.mir.specs.Results.{NewLocal}

-- document 01: "512 locals"
abbrev pub local_limit : ℕ
local_limit = 512

-- the types that follow the type table's 256: bool, usize, i128
abbrev pub test_types : List PlaceTy
test_types = PlaceTy.Bool ∷ PlaceTy.Usize ∷ PlaceTy.I128 ∷ []

-- the type of a local's word
unfoldable pub local_ty : ℕ → PlaceTy
local_ty word = cond (ltb word 256) (PlaceTy.Ty word) (get_or test_types (word - 256) PlaceTy.Inapplicable)

-- the counts with one local more
abbrev pub one_local_more : Counts → Counts
one_local_more c = record { blocks = c.blocks; statements = c.statements; locals = c.locals + 1; scopes = c.scopes; entries = c.entries }

-- a new local: its number is the count of the locals before it; the 513th passes the limit
unfoldable pub new_local : Counts → NewLocal
new_local c = cond (ltb c.locals local_limit) (Some (one_local_more c, record { 0 = c.locals })) None

-- the table with it
unfoldable pub locals_after : Counts → List ℕ → ℕ → List ℕ
locals_after c table word = cond (ltb c.locals local_limit) (set table c.locals word) table
