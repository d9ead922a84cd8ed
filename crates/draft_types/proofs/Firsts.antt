-- The laws of the first number that passes a test. Assumes nothing.
use Prim.Native.Nat.{ℕ, zero, suc, ◌+◌, ◌-◌, ◌≤◌, ◌<◌}
use mathlib.Core.Path.{◌≡◌, refl, sym, ap, ap₂, ◌∙◌}
use mathlib.Core.Bool.{Bool, true, false, cond}
use mathlib.Core.Option.{Option, none, some}
use native.Mathlib.Numerals.{add-one}
use native.Mathlib.Omega.{arith}
use Rattle.name_tables.specs.Names.{first_from}

-- the search begins
pub first_start : (test : ℕ → Bool) (many : ℕ) → first_from test 0 (many - 0) ≡ first_from test 0 many
first_start test many = let left : many - 0 ≡ many = omega arith in ap (first_from test 0) left

module _ (test : ℕ → Bool) (at many : ℕ) where
  -- it is the next one
  pub first_here : at < many → test at ≡ true → first_from test at (many - at) ≡ some at
  unfolding first_from
  first_here h e =
      let left : many - at ≡ suc (many - suc at) = omega arith in
      ap (first_from test at) left ∙ ap (λ (b : Bool). cond b (some at) (first_from test (suc at) (many - suc at))) e

  -- or it comes later
  pub first_later : at < many → test at ≡ false → first_from test at (many - at) ≡ first_from test (at + 1) (many - (at + 1))
  unfolding first_from
  first_later h e =
      let left : many - at ≡ suc (many - suc at) = omega arith in
      ap (first_from test at) left
      ∙ ap (λ (b : Bool). cond b (some at) (first_from test (suc at) (many - suc at))) e
      ∙ ap (λ (k : ℕ). first_from test k (many - k)) (sym (add-one at))

  -- or none is left
  pub first_none : many ≤ at → first_from test at (many - at) ≡ none
  unfolding first_from
  first_none h = let left : many - at ≡ 0 = omega arith in ap (first_from test at) left

-- tests that say the same of the numbers
pub first_same : (test other : ℕ → Bool) (at many : ℕ) → ((i : ℕ) → at ≤ i → i < at + many → test i ≡ other i) → first_from test at many ≡ first_from other at many
unfolding first_from
first_same test other at zero same = refl
first_same test other at (suc many) same =
    ap₂ (λ (b : Bool) (o : Option ℕ). cond b (some at) o)
    (same at (omega arith) (omega arith))
    (first_same test other (suc at) many (λ i low high. same i (omega arith) (omega arith)))

-- what is found is one of the numbers
pub first_below : (test : ℕ → Bool) (at many found : ℕ) → some found ≡ first_from test at many → found < at + many
unfolding first_from
first_below test at zero found e = absurd (let z : ◌≡◌ {A = ℕ} 0 1 = cc in omega arith)
first_below test at (suc many) found e = go (test at) e (λ q. first_below test (suc at) many found q)
  where
    go : (b : Bool) → some found ≡ cond b (some at) (first_from test (suc at) many) → (some found ≡ first_from test (suc at) many → found < suc at + many) → found < at + suc many
    go true q later = let same : found ≡ at = cc in omega arith
    go false q later = omega (arith, later q)
