use Prim.Native.Nat.{ℕ, ◌≤◌}
use mathlib.Core.Path.{◌≡◌}
use mathlib.Core.Bool.{Bool, true}
use mathlib.Core.List.{List}
use Rattle.image.specs.Lists.{all_below}
use Rattle.name_tables.specs.Names.{name_row_at, name_row_holds}
use Rattle.name_rules.proofs.name_rows_hold.Given as goal

-- the row i holds
abbrev tried : List ℕ → List ℕ → ℕ → Bool
tried sheet names i = name_row_holds sheet names (name_row_at names i)

abbrev pub invariant-loop-i : goal.invariant-loop-i
invariant-loop-i l = (l.i ≤ l.count) × (all_below (tried l.sheet l.names) l.i ≡ true)
