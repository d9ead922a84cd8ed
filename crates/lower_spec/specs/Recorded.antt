-- Request S-4, "One drop per local", of the entries of all open scopes as one list. Assumes nothing: these are definitions.
use Rattle.std.specs.Prelude.{ℕ, ◌+◌, ◌≤◌, cond, List, [], ◌∷◌, ◌++◌, eqb}
use Rattle.image.specs.Lists.{member}
use Rattle.state.specs.State.{State}

-- the entries after locals were marked live one after the other: each becomes the last entry, unless it is one
unfoldable pub recorded : List ℕ → List ℕ → List ℕ
recorded entries [] = entries
recorded entries (l ∷ ls) = recorded (cond (member l entries) entries (entries ++ (l ∷ []))) ls

-- how often a local stands in entries
unfoldable pub occurs : ℕ → List ℕ → ℕ
occurs l [] = 0
occurs l (x ∷ xs) = cond (eqb l x) 1 0 + occurs l xs

-- "Where a local stands at most once in all the scopes handed in, it still does afterwards"
abbrev pub OncePerLocal : State → State → Type 0
OncePerLocal before after = (l : ℕ) → occurs l before.entries ≤ 1 → occurs l after.entries ≤ 1
