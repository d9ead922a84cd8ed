-- The bounds on what is counted, and the counts of both passes together. Assumes nothing.
use Rattle.std.specs.Prelude.{Some, None}
use mathlib.Core.Path.{◌≡◌, refl, sym, ap, ◌∙◌}
use mathlib.Core.Bool.{Bool, true, false, cond}
use mathlib.Core.Option.{Option, none, some}
use mathlib.Core.List.{List, [], ◌∷◌}
use Prim.Native.Nat.{ℕ, ◌+◌, ◌*◌, ◌≤◌}
use native.Mathlib.Nat.{le_refl, le_trans, le-max_left, le-max_right, add-mul, mul-add, one-mul, suc-mul, mul_assoc, mul_comm, mul-le-mul_left}
use native.Mathlib.Omega.{arith}
use lib.Dec.{eqb}
use lib.ListN.{length}
use Rattle.image.specs.Tree.{Pat}
use Rattle.place.specs.declared.place_ty.PlaceTy.{PlaceTy}
use Rattle.lower_spec.specs.Results.{OptBlock}
use Rattle.counting.specs.Reaching.{Reached, reached}
use Rattle.counting.specs.Counting.{one, total, check_visits, visits_of, blocks_of, bind_statements, statements_of, else_made, most_ors}
use Rattle.counting.proofs.Going.{block, statement, visit}
use Rattle.counting.proofs.Passing.{tested, bound, Small, AllSmall}

-- a sum of sums
total_both : (g g₁ g₂ : Reached → ℕ) → ((r : Reached) → g r ≡ g₁ r + g₂ r) → (rs : List Reached) → total g rs ≡ total g₁ rs + total g₂ rs
unfolding total
total_both g g₁ g₂ e [] = refl
total_both g g₁ g₂ e (r ∷ rs) = let a = e r in let b = total_both g g₁ g₂ e rs in omega (arith, a, b)

-- both passes together: visits
pub visits_both : (n : ℕ) (rs : List Reached) → visits_of n rs ≡ total (tested (visit n)) rs + total (bound (visit n)) rs
unfolding visits_of
visits_both n = total_both (λ r. cond (eqb r.number n) (check_visits r + 1) 0) (tested (visit n)) (bound (visit n)) (λ r. each r (eqb r.number n))
  where
    each : (r : Reached) (b : Bool) → cond b (check_visits r + 1) 0 ≡ cond b 1 0 + (r.ors * cond b 1 0 + cond b 1 0)
    each r true = omega arith
    each r false = omega arith

-- blocks
pub blocks_both : (rs : List Reached) → total blocks_of rs ≡ total (tested block) rs + total (bound block) rs
blocks_both = total_both blocks_of (tested block) (bound block) (λ r. each r r.is_or (r.tests + one r.failing_alternative))
  where
    each : (r : Reached) (b : Bool) (t : ℕ) → check_visits r * t + one b * (check_visits r + 1) ≡ t + one b + (r.ors * (t + one b) + one b)
    each r true t = let a = add-mul r.ors 1 t in let b = mul-add r.ors t 1 in let c = one-mul t in omega (arith, a, b, c)
    each r false t = let a = add-mul r.ors 1 t in let b = mul-add r.ors t 0 in let c = one-mul t in omega (arith, a, b, c)

-- and statements
pub statements_both : (rs : List Reached) → total statements_of rs ≡ total (tested statement) rs + total (bound statement) rs
statements_both = total_both statements_of (tested statement) (bound statement) (λ r. each r r.test_statements (bind_statements r.bound))
  where
    each : (r : Reached) (t s : ℕ) → check_visits r * t + s ≡ t + (r.ors * t + s)
    each r t s = let a = add-mul r.ors 1 t in let b = one-mul t in omega (arith, a, b)

-- where each of a list is counted below n(d + 2), and d is the greatest count of Ors
total_bound : (g : Reached → ℕ) (n d : ℕ) → ((r : Reached) → Small r → g r + 1 ≤ n * (r.ors + 2)) → (rs : List Reached) → AllSmall rs → most_ors rs ≤ d →
    total g rs + length rs ≤ length rs * (n * (d + 2))
unfolding total most_ors
total_bound g n d h [] small m = omega arith
total_bound g n d h (r ∷ rs) small m =
    let a = h r small.0 in
    let ors : r.ors ≤ d = le_trans (le-max_left r.ors (most_ors rs)) m in
    let b = mul-le-mul_left n (plus_two ors) in
    let c = total_bound g n d h rs small.1 (le_trans (le-max_right r.ors (most_ors rs)) m) in
    let e = suc-mul (length rs) (n * (d + 2)) in
    omega (arith, a, b, c, e)
  where
    plus_two : {x y : ℕ} → x ≤ y → x + 2 ≤ y + 2
    plus_two l = omega arith

-- and one more at most
bounded : (g : Reached → ℕ) (n more : ℕ) → ((r : Reached) → Small r → g r + 1 ≤ n * (r.ors + 2)) → (rs : List Reached) → AllSmall rs → 1 ≤ length rs → more ≤ 1 →
    total g rs + more ≤ n * length rs * (most_ors rs + 2)
bounded g n more h rs small there few =
    let a = total_bound g n (most_ors rs) h rs small (le_refl _) in
    let b : length rs * (n * (most_ors rs + 2)) ≡ n * length rs * (most_ors rs + 2) =
    sym (mul_assoc (length rs) n (most_ors rs + 2)) ∙ ap (λ (x : ℕ). x * (most_ors rs + 2)) (mul_comm (length rs) n) in
    omega (arith, a, b, there, few)

-- a truth counts once
at_most_one : (b : Bool) → one b ≤ 1
at_most_one true = omega arith
at_most_one false = omega arith

-- "at most 3n(d + 2) blocks"
pub blocks_bound : (rs : List Reached) (fails : Bool) (els : OptBlock) → AllSmall rs → 1 ≤ length rs → total blocks_of rs + else_made fails els ≤ 3 * length rs * (most_ors rs + 2)
blocks_bound rs fails els small there = bounded blocks_of 3 (else_made fails els) each rs small there (few fails els)
  where
    few : (fails : Bool) (els : OptBlock) → else_made fails els ≤ 1
    few fails None = at_most_one fails
    few fails (Some e) = omega arith

    by : (r : Reached) (b : Bool) (t : ℕ) (f : Bool) → t + 2 * one b ≤ 2 → check_visits r * (t + one f) + one b * (check_visits r + 1) + 1 ≤ 3 * (r.ors + 2)
    by r true t f h = let a = at_most_one f in let t₁ : t + one f ≤ 1 = omega (arith, h, a) in let b = mul-le-mul_left (check_visits r) t₁ in omega (arith, b)
    by r false t f h = let a = at_most_one f in let t₁ : t + one f ≤ 3 = omega (arith, h, a) in let b = mul-le-mul_left (check_visits r) t₁ in omega (arith, b)

    each : (r : Reached) → Small r → blocks_of r + 1 ≤ 3 * (r.ors + 2)
    each r s = by r r.is_or r.tests r.failing_alternative s.tests

-- "and 4n(d + 2) statements"
pub statements_bound : (rs : List Reached) → AllSmall rs → 1 ≤ length rs → total statements_of rs ≤ 4 * length rs * (most_ors rs + 2)
statements_bound rs small there = let b = bounded statements_of 4 0 each rs small there (omega arith) in omega (arith, b)
  where
    few : (o : Option ℕ) → bind_statements o ≤ 2
    few none = omega arith
    few (some b) = omega arith

    each : (r : Reached) → Small r → statements_of r + 1 ≤ 4 * (r.ors + 2)
    each r s = let b = mul-le-mul_left (check_visits r) s.test_statements in let c = few r.bound in omega (arith, b, c)

-- a pattern is reached from itself
pub some_reached : (image : List ℕ) (p : Pat) (ty : PlaceTy) (k : ℕ) (f : Bool) → 1 ≤ length (reached image p ty k f)
unfolding reached
some_reached image (Pat.Missing h) ty k f = omega arith
some_reached image (Pat.Rest h) ty k f = omega arith
some_reached image (Pat.NotNull h) ty k f = omega arith
some_reached image (Pat.Wild h) ty k f = omega arith
some_reached image (Pat.Tuple h args ellipsis) ty k f = omega arith
some_reached image (Pat.Or h alts) ty k f = omega arith
some_reached image (Pat.Record h fields args v) ty k f = omega arith
some_reached image (Pat.Range h start end halfOpen) ty k f = omega arith
some_reached image (Pat.Slice h prefix rest suffix) ty k f = omega arith
some_reached image (Pat.Path h target) ty k f = omega arith
some_reached image (Pat.Lit h operand) ty k f = omega arith
some_reached image (Pat.Bind h b s how annotation) ty k f = omega arith
some_reached image (Pat.TupleStruct h args ellipsis v) ty k f = omega arith
some_reached image (Pat.Ref h s) ty k f = omega arith
some_reached image (Pat.Expr h) ty k f = omega arith
some_reached image (Pat.Box h) ty k f = omega arith
some_reached image (Pat.Deref h) ty k f = omega arith
