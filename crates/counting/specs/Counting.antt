-- Document 01's counts of visits, blocks and statements, for a pattern that `pattern_match` lowers. Assumes nothing: these are definitions.
use Rattle.std.specs.Prelude.{Some, None}
use Rattle.std.specs.Prelude.{ℕ, ◌+◌, ◌*◌, max, ◌≡◌, Bool, false, cond, List, [], ◌∷◌, ◌⊎◌, eqb}
use Rattle.std.proofs.Math.Option.{Option, none, some}
use Rattle.image.specs.Tree.{Pat}
use Rattle.place.specs.declared.place_ty.PlaceTy.{PlaceTy}
use Rattle.lower_spec.specs.Results.{OptBlock}
use Rattle.counting.specs.Reaching.{Reached, can_fail, reached}

-- one where it holds
abbrev pub one : Bool → ℕ
one b = cond b 1 0

-- the sum of what f has of each
unfoldable pub total : (Reached → ℕ) → List Reached → ℕ
total f [] = 0
total f (r ∷ rs) = f r + total f rs

-- the patterns reached from the root
abbrev pub reached_from : List ℕ → Pat → PlaceTy → List Reached
reached_from image root ty = reached image root ty 0 false

-- "k Ors above: k + 1 Check visits, 1 Bind visit"
abbrev pub check_visits : Reached → ℕ
check_visits r = r.ors + 1

-- how often the pattern number n is visited
unfoldable pub visits_of : ℕ → List Reached → ℕ
visits_of n rs = total (λ r. cond (eqb r.number n) (check_visits r + 1) 0) rs

-- r stands in the list
abbrev pub IsReached : Reached → List Reached → Type 0
IsReached r [] = ⊥
IsReached r (q ∷ rs) = (r ≡ q) ⊎ IsReached r rs

-- "Blocks: each Check visit makes 1 per test, and 1 more if the pattern is an alternative that can fail; each visit to an Or makes 1"
abbrev pub blocks_of : Reached → ℕ
blocks_of r = check_visits r * (r.tests + one r.failing_alternative) + one r.is_or * (check_visits r + 1)

-- "1 more comes if the root can fail and no else was supplied"
abbrev pub else_made : Bool → OptBlock → ℕ
else_made fails None = one fails
else_made fails (Some b) = 0

unfoldable pub new_blocks : List ℕ → Pat → PlaceTy → OptBlock → ℕ
new_blocks image root ty else = total blocks_of (reached_from image root ty) + else_made (can_fail image root ty) else

-- "a Bind visit makes 2 for a Bind, and 2 for a Slice's rest that is one"
abbrev pub bind_statements : Option ℕ → ℕ
bind_statements none = 0
bind_statements (some b) = 2

-- "Statements: per Check visit a test makes 2, but .."
abbrev pub statements_of : Reached → ℕ
statements_of r = check_visits r * r.test_statements + bind_statements r.bound

unfoldable pub new_statements : List ℕ → Pat → PlaceTy → ℕ
new_statements image root ty = total statements_of (reached_from image root ty)

-- the greatest count of Ors above any reached pattern
unfoldable pub most_ors : List Reached → ℕ
most_ors [] = 0
most_ors (r ∷ rs) = max r.ors (most_ors rs)
