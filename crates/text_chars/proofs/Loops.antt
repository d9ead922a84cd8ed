-- The definitions that a loop computes, one byte further: from a position on, by the byte that stands there. Assumes nothing.
use Rattle.std.specs.Prelude.{Some, None, Ok, Err}
use Prim.Native.Nat.{ℕ, zero, suc, ◌+◌, ◌-◌, ◌<◌, ◌≤◌}
use mathlib.Core.Path.{◌≡◌, refl, sym, ap₂}
use mathlib.Core.Bool.{Bool, true, false, cond, ◌&&◌, ◌||◌}
use mathlib.Core.List.{List, [], ◌∷◌}
use native.Mathlib.Omega.{arith}
use native.Mathlib.Numerals.{add-one}
use borrow.Author.Tests.{eq-eqb, ne_eqb, eqb-true, eqb-false}
use lib.Dec.{eqb}
use lib.ListN.{length, get_or, take, drop, length-drop, drop_of_length-le}
use lib.Seq.{drop-cons, take_all}
use Rattle.std.specs.List.{list_any}
use Rattle.image.specs.Lists.{member}
use Rattle.text_chars.specs.Bytes.{run}
use Rattle.text_chars.specs.Scalars.{scalar_of, is_utf8}
use Rattle.text_chars.specs.Gaps.{closes, opens, depth_behind, unpaired, block_from, gap_of, start_from}
use Rattle.text_chars.specs.declared.Gap.{Gap}

-- one byte further
pub on : (bytes : List ℕ) (at : ℕ) → at < length bytes → drop at bytes ≡ get_or bytes at 0 ∷ drop (at + 1) bytes
on bytes at h = rw (add-one) (drop-cons bytes at 0 h)

-- at the end
pub over : (bytes : List ℕ) (at : ℕ) → length bytes ≤ at → drop at bytes ≡ []
over bytes at h = drop_of_length-le bytes h

-- all that is left of a slice, as a part of it
pub left : (bytes : List ℕ) (at : ℕ) → take (length bytes - at) (drop at bytes) ≡ drop at bytes
left bytes at = take_all (length bytes - at) (drop at bytes) (simp length-drop (omega arith))

module _ (test : ℕ → Bool) (bytes : List ℕ) (at : ℕ) where
  pub run_on : at < length bytes → test (get_or bytes at 0) ≡ true → run test (drop at bytes) ≡ suc (run test (drop (at + 1) bytes))
  unfolding run
  run_on h e = rw (on bytes at h, e)

  pub run_stops : at < length bytes → test (get_or bytes at 0) ≡ false → run test (drop at bytes) ≡ 0
  unfolding run
  run_stops h e = rw (on bytes at h, e)

  pub run_over : length bytes ≤ at → run test (drop at bytes) ≡ 0
  unfolding run
  run_over h = rw (over bytes at h)

-- a test says the same of two numbers in either order
eqb_back : (a b : ℕ) → eqb a b ≡ eqb b a
eqb_back a b = by (eqb b a) refl
  where
    by : (r : Bool) → eqb b a ≡ r → eqb a b ≡ r
    by true e = eq-eqb a b (sym (eqb-true b a e))
    by false e = ne_eqb a b (λ (q : a ≡ b). eqb-false b a e (sym q))

-- a number of the list is one that equals it
pub any_member : (x : ℕ) (table : List ℕ) → list_any (λ y. eqb y x) table ≡ member x table
unfolding member
any_member x [] = refl
any_member x (y ∷ ys) = ap₂ (λ (a b : Bool). a || b) (eqb_back y x) (any_member x ys)

module _ (bytes : List ℕ) (at : ℕ) where
  pub utf8_short : (left rest : ℕ) → (left ≡ 0 → ⊥) → length bytes ≤ at → is_utf8 left rest (drop at bytes) ≡ false
  unfolding is_utf8
  utf8_short zero rest n h = absurd (n refl)
  utf8_short (suc left) zero n h = rw (over bytes at h)
  utf8_short (suc left) (suc rest) n h = rw (over bytes at h)

  pub utf8_on : (left rest : ℕ) → (left ≡ 0 → ⊥) → (rest ≡ 0 → ⊥) → at < length bytes → is_utf8 left rest (drop at bytes) ≡ is_utf8 (left - 1) (rest - 1) (drop (at + 1) bytes)
  unfolding is_utf8
  utf8_on zero rest n m h = absurd (n refl)
  utf8_on (suc left) zero n m h = absurd (m refl)
  utf8_on (suc left) (suc rest) n m h =
      let el : suc left - 1 ≡ left = omega arith in
      let er : suc rest - 1 ≡ rest = omega arith in
      rw (on bytes at h, el, er)

  pub utf8_next : (left v more : ℕ) → (left ≡ 0 → ⊥) → at < length bytes → scalar_of (drop at bytes) ≡ Some (v, more) → is_utf8 left 0 (drop at bytes) ≡ is_utf8 (left - 1) more (drop (at + 1) bytes)
  unfolding is_utf8
  utf8_next zero v more n h e = absurd (n refl)
  utf8_next (suc left) v more n h e =
      let el : suc left - 1 ≡ left = omega arith in
      let s = rw (on bytes at h) at e in
      rw (on bytes at h, s, el)

  pub utf8_broken : (left : ℕ) → (left ≡ 0 → ⊥) → at < length bytes → scalar_of (drop at bytes) ≡ None → is_utf8 left 0 (drop at bytes) ≡ false
  unfolding is_utf8
  utf8_broken zero n h e = absurd (n refl)
  utf8_broken (suc left) n h e =
      let s = rw (on bytes at h) at e in
      rw (on bytes at h, s)

  pub utf8_end : (left rest : ℕ) → left ≡ 0 → is_utf8 left rest (drop at bytes) ≡ eqb rest 0
  unfolding is_utf8
  utf8_end left rest e = rw e

  pub block_on : (depth before : ℕ) → at < length bytes → block_from at depth before (drop at bytes)
      ≡ cond (closes before (get_or bytes at 0) && eqb depth 0) (Gap.Of at) (block_from (at + 1) (depth_behind depth before (get_or bytes at 0)) (unpaired before (get_or bytes at 0)) (drop (at + 1) bytes))
  unfolding block_from
  block_on depth before h = rw (on bytes at h, add-one at)

  pub block_over : (depth before : ℕ) → length bytes ≤ at → block_from at depth before (drop at bytes) ≡ Gap.Broken
  unfolding block_from
  block_over depth before h = rw (over bytes at h)

  pub start_over : (rest : ℕ) → length bytes ≤ at → start_from at rest (drop at bytes) ≡ Ok at
  unfolding start_from
  start_over zero h = rw (over bytes at h)
  start_over (suc rest) h = rw (over bytes at h)

  pub start_on : (rest : ℕ) → (rest ≡ 0 → ⊥) → at < length bytes → start_from at rest (drop at bytes) ≡ start_from (at + 1) (rest - 1) (drop (at + 1) bytes)
  unfolding start_from
  start_on zero n h = absurd (n refl)
  start_on (suc rest) n h =
      let er : suc rest - 1 ≡ rest = omega arith in
      rw (on bytes at h, add-one at, er)

  pub start_gap : (more : ℕ) → at < length bytes → gap_of (drop at bytes) ≡ Gap.Of more → start_from at 0 (drop at bytes) ≡ start_from (at + 1) more (drop (at + 1) bytes)
  unfolding start_from
  start_gap more h e =
      let s = rw (on bytes at h) at e in
      rw (on bytes at h, s, add-one at)

  pub start_here : at < length bytes → gap_of (drop at bytes) ≡ Gap.Nothing → start_from at 0 (drop at bytes) ≡ Ok at
  unfolding start_from
  start_here h e =
      let s = rw (on bytes at h) at e in
      rw (on bytes at h, s)

  pub start_broken : at < length bytes → gap_of (drop at bytes) ≡ Gap.Broken → start_from at 0 (drop at bytes) ≡ Err at
  unfolding start_from
  start_broken h e =
      let s = rw (on bytes at h) at e in
      rw (on bytes at h, s)

grows : (shut again : Bool) (depth : ℕ) → cond shut (depth - 1) (cond again (suc depth) depth) ≤ depth + 1
grows true again depth = omega arith
grows false true depth = omega arith
grows false false depth = omega arith

-- two bytes open at most one comment
pub depth_grows : (depth b c : ℕ) → depth_behind depth b c ≤ depth + 1
unfolding depth_behind
depth_grows depth b c = grows (closes b c) (opens b c) depth
