-- The two passes over a pattern, and what each adds for a list of reached patterns. Assumes nothing.
use mathlib.Core.Path.{◌≡◌, refl, ap, subst, ◌∙◌}
use mathlib.Core.Bool.{Bool, false, cond, ◌||◌, or-false}
use mathlib.Core.Option.{Option, none}
use mathlib.Core.List.{List, [], ◌∷◌, ◌++◌, append-nil}
use Prim.Native.Nat.{ℕ, ◌+◌, ◌*◌, ◌≤◌}
use native.Mathlib.Nat.{mul-add, mul-zero, add-zero}
use native.Mathlib.Omega.{arith}
use lib.Dec.{eqb}
use Rattle.image.specs.Tree.{Head}
use Rattle.mir.specs.declared.BasicBlockId.{BasicBlockId}
use Rattle.lower_spec.specs.Results.{OptBlock}
use Rattle.pattern_matching.specs.declared.MatchingMode.{MatchingMode}
use Rattle.pattern_matching.specs.Walking.{Ctx, Out, visited}
use Rattle.counting.specs.Reaching.{Reached, testing, binding}
use Rattle.counting.specs.Counting.{one, total, bind_statements}
use Rattle.counting.proofs.Going.{What, block, statement, visit, nothing, made, Built, built_none, went_built, seen, went_visited}
use Rattle.counting.proofs.Stepping.{Steps, steps_on, steps_as, steps_plain}

-- the pass in Check, and that in Bind
pub data Pass : Type 0 where
  checks : Pass
  binds : Pass

-- its mode
abbrev pub mode_of : Pass → MatchingMode
mode_of checks = MatchingMode.Check
mode_of binds = MatchingMode.Bind

-- what tests do is done in Check
abbrev pub in_checks : Pass → Bool → Bool
in_checks checks b = b
in_checks binds b = false

-- what a visit in Check adds
abbrev pub tested : What → Reached → ℕ
tested block r = r.tests + one r.failing_alternative + one r.is_or
tested statement r = r.test_statements
tested (visit n) r = cond (eqb r.number n) 1 0

-- what a visit in Bind adds by itself
abbrev pub own : What → Reached → ℕ
own block r = one r.is_or
own statement r = bind_statements r.bound
own (visit n) r = cond (eqb r.number n) 1 0

-- a pattern under so many Ors is tested once more for each of them in Bind
abbrev pub bound : What → Reached → ℕ
bound w r = r.ors * tested w r + own w r

-- an alternative that can fail has its own else, which is counted with the alternative
abbrev pub flag : Bool → What → ℕ
flag f block = one f
flag f statement = 0
flag f (visit n) = 0

-- what is counted twice: in Check an alternative's own else, and in Bind the Ors that lie above all of the list
abbrev pub minus_of : Pass → ℕ → Bool → List Reached → What → ℕ
minus_of checks k f rs w = flag f w
minus_of binds k f rs w = k * total (tested w) rs

-- what is counted
abbrev pub plus_of : Pass → List Reached → What → ℕ
plus_of checks rs w = total (tested w) rs
plus_of binds rs w = total (bound w) rs

-- the bounds of what is counted of one pattern
pub record Small (r : Reached) : Type 0 where
  pub tests : r.tests + 2 * one r.is_or ≤ 2
  pub test_statements : r.test_statements ≤ 4

-- each of a list keeps to them
abbrev pub AllSmall : List Reached → Type 0
AllSmall [] = Unit {0}
AllSmall (r ∷ rs) = Small r × AllSmall rs

-- a pass has gone from c to r over patterns under k Ors; f says whether the first of them is an alternative that can fail
pub record After (pass : Pass) (c : Ctx) (els : OptBlock) (fails : Bool) (k : ℕ) (f : Bool) (rs : List Reached) (r : Out) : Type 0 where
  pub steps : Steps c els r (in_checks pass fails) (minus_of pass k f rs) (plus_of pass rs)
  pub small : AllSmall rs

-- the sum over two lists
pub total_append : (g : Reached → ℕ) (xs ys : List Reached) → total g (xs ++ ys) ≡ total g xs + total g ys
unfolding total
total_append g [] ys = omega arith
total_append g (x ∷ xs) ys = let e = total_append g xs ys in omega (arith, e)

-- both lists keep to the bounds
small_append : (xs ys : List Reached) → AllSmall xs → AllSmall ys → AllSmall (xs ++ ys)
small_append [] ys h k = k
small_append (x ∷ xs) ys h k = (h.0, small_append xs ys h.1 k)

-- no alternative, no else of its own
pub no_flag : (w : What) → flag false w ≡ 0
no_flag block = refl
no_flag statement = refl
no_flag (visit n) = refl

-- nothing made is nothing counted
pub none_made : (w : What) → made 0 0 w ≡ 0
none_made block = refl
none_made statement = refl
none_made (visit n) = refl

-- nothing is reached, and nothing is counted
pub after_same : (pass : Pass) {c c' : Ctx} (current : BasicBlockId) (els : OptBlock) (k : ℕ) → Built c.state c'.state 0 0 → c'.visits ≡ c.visits →
    After pass c els false k false [] (record { ctx = c'; then = current; else = els })
unfolding total
after_same pass {c = c} {c' = c'} current els k g v =
    record { steps = by pass; small = tt }
  where
    by : (pass : Pass) → Steps c els (record { ctx = c'; then = current; else = els }) (in_checks pass false) (minus_of pass k false []) (plus_of pass [])
    by checks = steps_as (λ w. let e = none_made w in let n = no_flag w in omega (arith, e, n)) (steps_plain current els (went_built g v))
    by binds = steps_as (λ w. let e = none_made w in let n = mul-zero k in omega (arith, e, n)) (steps_plain current els (went_built g v))

-- nothing is done
pub after_none : (pass : Pass) (c : Ctx) (current : BasicBlockId) (els : OptBlock) (k : ℕ) → After pass c els false k false [] (record { ctx = c; then = current; else = els })
after_none pass c current els k = after_same pass current els k (built_none c.state) refl

-- one list, and then another
pub after_more : {pass : Pass} {c : Ctx} {els : OptBlock} {fails fails' : Bool} {k : ℕ} {f : Bool} {rs rs' : List Reached} {r r' : Out} →
    After pass c els fails k f rs r → After pass r.ctx r.else fails' k false rs' r' → After pass c els (fails || fails') k f (rs ++ rs') r'
after_more {pass = pass} {c = c} {els = els} {fails = fails} {fails' = fails'} {k = k} {f = f} {rs = rs} {rs' = rs'} {r = r} {r' = r'} g h =
    record { steps = by pass g.steps h.steps; small = small_append rs rs' g.small h.small }
  where
    by : (pass : Pass) → Steps c els r (in_checks pass fails) (minus_of pass k f rs) (plus_of pass rs) →
        Steps r.ctx r.else r' (in_checks pass fails') (minus_of pass k false rs') (plus_of pass rs') →
        Steps c els r' (in_checks pass (fails || fails')) (minus_of pass k f (rs ++ rs')) (plus_of pass (rs ++ rs'))
    by checks a b =
        steps_as (λ w. let e = total_append (tested w) rs rs' in let n = no_flag w in omega (arith, e, n)) (steps_on a b)
    by binds a b =
        steps_as
        (λ w.
        let e = total_append (bound w) rs rs' in
        let n : k * total (tested w) (rs ++ rs') ≡ k * total (tested w) rs + k * total (tested w) rs' = ap (λ (x : ℕ). k * x) (total_append (tested w) rs rs') ∙ mul-add k (total (tested w) rs) (total (tested w) rs') in
        omega (arith, e, n))
        (steps_on a b)

-- a list, and then what no pattern is counted for
pub after_end : {pass : Pass} {c : Ctx} {els : OptBlock} {fails fails' : Bool} {k : ℕ} {f : Bool} {rs : List Reached} {r r' : Out} →
    After pass c els fails k f rs r → After pass r.ctx r.else fails' k false [] r' → After pass c els (fails || fails') k f rs r'
after_end {pass = pass} {c = c} {els = els} {fails = fails} {fails' = fails'} {k = k} {f = f} {rs = rs} {r' = r'} g h =
    subst (λ (l : List Reached). After pass c els (fails || fails') k f l r') (append-nil rs) (after_more g h)

-- the blocks that a pattern's own visit makes
abbrev pub own_blocks : Pass → Reached → ℕ
own_blocks checks x = x.tests + one x.is_or
own_blocks binds x = one x.is_or

-- and the statements
abbrev pub own_statements : Pass → Reached → ℕ
own_statements checks x = x.test_statements
own_statements binds x = bind_statements x.bound

-- a pattern's own visit
pub after_head : (pass : Pass) (x : Reached) {c : Ctx} {els : OptBlock} {fails : Bool} {r : Out} → Small x →
    Steps (visited c x.number) els r (in_checks pass fails) nothing (made (own_blocks pass x) (own_statements pass x)) →
    After pass c els fails x.ors x.failing_alternative (x ∷ []) r
unfolding total visited
after_head pass x {c = c} {els = els} {fails = fails} {r = r} small steps =
    record { steps = by pass steps; small = (small, tt) }
  where
    once : (w : What) → 0 + 0 + (tested w x + 0) ≡ flag x.failing_alternative w + (seen x.number w + made (own_blocks checks x) (own_statements checks x) w)
    once block = omega arith
    once statement = omega arith
    once (visit n) = omega arith

    its : (w : What) → seen x.number w + made (own_blocks binds x) (own_statements binds x) w ≡ own w x
    its block = omega arith
    its statement = omega arith
    its (visit n) = omega arith

    again : (w : What) → 0 + 0 + (bound w x + 0) ≡ x.ors * (tested w x + 0) + (seen x.number w + made (own_blocks binds x) (own_statements binds x) w)
    again w = let e : x.ors * (tested w x + 0) ≡ x.ors * tested w x = ap (λ (n : ℕ). x.ors * n) (add-zero (tested w x)) in let i = its w in omega (arith, e, i)

    by : (pass : Pass) → Steps (visited c x.number) els r (in_checks pass fails) nothing (made (own_blocks pass x) (own_statements pass x)) →
        Steps c els r (in_checks pass fails) (minus_of pass x.ors x.failing_alternative (x ∷ [])) (plus_of pass (x ∷ []))
    by checks s = steps_as once (steps_on (steps_plain r.then els (went_visited c x.number)) s)
    by binds s = steps_as again (steps_on (steps_plain r.then els (went_visited c x.number)) s)

-- what a pass in Bind makes late
abbrev pub late_in : Pass → ℕ → ℕ
late_in checks n = 0
late_in binds n = n

-- a pattern that binds, and only after others are walked
pub after_late : {pass : Pass} {c : Ctx} {els : OptBlock} {fails : Bool} {k : ℕ} {f : Bool} {rs : List Reached} {r r' : Out} (h : Head) (t s : ℕ) (o : Option ℕ) →
    After pass c els fails k f (binding h k f t s none ∷ rs) r → Steps r.ctx r.else r' false nothing (made 0 (late_in pass (bind_statements o))) →
    After pass c els fails k f (binding h k f t s o ∷ rs) r'
unfolding total
after_late {pass = pass} {c = c} {els = els} {fails = fails} {k = k} {f = f} {rs = rs} {r = r} {r' = r'} h t s o g late =
    record {
      steps = by pass g.steps late;
      small = (record { tests = g.small.0.tests; test_statements = g.small.0.test_statements }, g.small.1);
    }
  where
    x₀ : Reached
    x₀ = binding h k f t s none

    x : Reached
    x = binding h k f t s o

    same : (w : What) → tested w x ≡ tested w x₀
    same block = refl
    same statement = refl
    same (visit m) = refl

    its : (w : What) → own w x ≡ own w x₀ + made 0 (bind_statements o) w
    its block = refl
    its statement = omega arith
    its (visit m) = omega arith

    once : (w : What) → flag f w + 0 + (tested w x + total (tested w) rs) ≡ flag f w + (tested w x₀ + total (tested w) rs + made 0 0 w)
    once w = let a = none_made w in let b = same w in omega (arith, a, b)

    again : (w : What) → k * (tested w x₀ + total (tested w) rs) + 0 + (k * tested w x + own w x + total (bound w) rs) ≡
        k * (tested w x + total (tested w) rs) + (k * tested w x₀ + own w x₀ + total (bound w) rs + made 0 (bind_statements o) w)
    again w = rw (same w) (let a = its w in omega (arith, a))

    by : (pass : Pass) → Steps c els r (in_checks pass fails) (minus_of pass k f (x₀ ∷ rs)) (plus_of pass (x₀ ∷ rs)) →
        Steps r.ctx r.else r' false nothing (made 0 (late_in pass (bind_statements o))) →
        Steps c els r' (in_checks pass fails) (minus_of pass k f (x ∷ rs)) (plus_of pass (x ∷ rs))
    by checks a b =
        subst (λ (e : Bool). Steps c els r' e (minus_of checks k f (x ∷ rs)) (plus_of checks (x ∷ rs))) (or-false fails) (steps_as once (steps_on a b))
    by binds a b = steps_as again (steps_on a b)

-- a visit that tests nothing and binds nothing
pub after_plain : (pass : Pass) (h : Head) (k : ℕ) (f : Bool) (c : Ctx) (current : BasicBlockId) (els : OptBlock) →
    After pass c els false k f (testing h k f 0 0 ∷ []) (record { ctx = visited c h.number; then = current; else = els })
after_plain pass h k f c current els = after_head pass (testing h k f 0 0) small (by pass)
  where
    small : Small (testing h k f 0 0)
    small = record { tests = omega arith; test_statements = omega arith }

    by : (pass : Pass) → Steps (visited c h.number) els (record { ctx = visited c h.number; then = current; else = els }) (in_checks pass false) nothing
        (made (own_blocks pass (testing h k f 0 0)) (own_statements pass (testing h k f 0 0)))
    by checks = steps_plain current els (went_built (built_none _) refl)
    by binds = steps_plain current els (went_built (built_none _) refl)
