-- The bytes of a node's name, and what is found of it in the name table. Assumes nothing.
use Rattle.std.specs.Prelude.{None}
use Prim.Native.Nat.{ℕ, zero, suc, ◌+◌, ◌-◌, ◌≤◌, ◌<◌}
use mathlib.Core.Path.{◌≡◌, refl, sym, ◌∙◌}
use mathlib.Core.Bool.{Bool, true, false, cond}
use mathlib.Core.Option.{Option, none, some}
use mathlib.Core.List.{List, []}
use native.Mathlib.Omega.{arith}
use borrow.Author.Tests.{ltb-true, ltb-false, lt-ltb, le-ltb}
use lib.Dec.{ltb}
use lib.ListN.{length, take, drop, length-drop}
use lib.Seq.{take_all, take-nil}
use Rattle.pattern_syntax.specs.Reduced.{bytes_from}
use Rattle.pattern_typing.specs.Failing.{lower}
use Rattle.name_tables.specs.Names.{row_count, first_from, row_for, Use}
use Rattle.name_resolving.specs.Gives.{named_as}

pub lower_first : (a b : ℕ) → a ≤ b → lower a b ≡ a
unfolding lower
lower_first a b h = rw (le-ltb b a h)

pub lower_second : (a b : ℕ) → b < a → lower a b ≡ b
unfolding lower
lower_second a b h = rw (lt-ltb b a h)

module _ (names : List ℕ) (first last : ℕ) where
  abbrev end : ℕ
  end = lower last (length names)

  pub end_within : end ≤ length names
  end_within = go (ltb (length names) last) refl
    where
      go : (b : Bool) → ltb (length names) last ≡ b → lower last (length names) ≤ length names
      go true e = omega (arith, lower_second last (length names) (ltb-true _ _ e))
      go false e = omega (arith, lower_first last (length names) (ltb-false _ _ e), ltb-false (length names) last e)

  pub start_within : lower first end ≤ end
  start_within = go (ltb end first) refl
    where
      go : (b : Bool) → ltb end first ≡ b → lower first end ≤ end
      go true e = omega (arith, lower_second first end (ltb-true _ _ e))
      go false e = omega (arith, lower_first first end (ltb-false _ _ e), ltb-false end first e)

  past_end : length names ≤ first → drop first names ≡ []
  past_end h = let z = length-drop first names in nothing (drop first names) (omega arith)
    where
      nothing : (l : List ℕ) → length l ≡ 0 → l ≡ []
      nothing l e = sym (take_all 0 l (omega arith)) ∙ refl

  -- what is cut at the end of the names is the same
  pub cut_same : take (end - lower first end) (drop (lower first end) names) ≡ bytes_from names first last
  unfolding bytes_from
  cut_same = go (ltb end first) (ltb (length names) last) refl refl
    where
      go : (p q : Bool) → ltb end first ≡ p → ltb (length names) last ≡ q → take (end - lower first end) (drop (lower first end) names) ≡ take (last - first) (drop first names)
      go true true e f =
          let le = lower_second last (length names) (ltb-true _ _ f) in
          let fe = lower_second first end (ltb-true _ _ e) in
          let none : end - lower first end ≡ 0 = omega arith in
          let gone = past_end (omega (arith, ltb-true end first e)) in
          rw (none, gone) (sym (take-nil (last - first)))
      go true false e f =
          let le = lower_first last (length names) (ltb-false _ _ f) in
          let fe = lower_second first end (ltb-true _ _ e) in
          let none : end - lower first end ≡ 0 = omega arith in
          let also : last - first ≡ 0 = omega (arith, ltb-true end first e) in
          rw (none, also)
      go false true e f =
          let le = lower_second last (length names) (ltb-true _ _ f) in
          let fe = lower_first first end (ltb-false _ _ e) in
          let long = length-drop first names in
          rw fe (take_all (end - first) (drop first names) (omega arith) ∙ sym (take_all (last - first) (drop first names) (omega (arith, ltb-true (length names) last f))))
      go false false e f =
          let le = lower_first last (length names) (ltb-false _ _ f) in
          let fe = lower_first first end (ltb-false _ _ e) in
          rw (fe, le)

-- a row that is found is one of the table's
first_below : (test : ℕ → Bool) (at many row : ℕ) → some row ≡ first_from test at many → row < at + many
unfolding first_from
first_below test at zero row e = absurd (let z : ◌≡◌ {A = ℕ} 0 1 = cc in omega arith)
first_below test at (suc many) row e = go (test at) e (λ q. first_below test (suc at) many row q)
  where
    go : (b : Bool) → some row ≡ cond b (some at) (first_from test (suc at) many) → (some row ≡ first_from test (suc at) many → row < suc at + many) → row < at + suc many
    go true q later = let same : row ≡ at = cc in omega arith
    go false q later = omega (arith, later q)

pub row_below : (names : List ℕ) (wanted : Use) (name : List ℕ) (row : ℕ) → some row ≡ row_for names wanted name → row < row_count names
unfolding row_for
row_below names wanted name row e = omega (arith, first_below _ 0 (row_count names) row e)

pub lacking : (names : List ℕ) {o : Option ℕ} → none ≡ o → None ≡ named_as names o
unfolding named_as
lacking names e = rw (← e)
