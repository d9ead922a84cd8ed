-- The ways through the search of a name: words that are compared byte by byte, and the first row that passes a test. Assumes nothing.
use Prim.Native.Nat.{ℕ, suc, ◌+◌, ◌-◌, ◌≤◌, ◌<◌}
use mathlib.Core.Path.{◌≡◌, refl, sym, ap, ◌∙◌}
use mathlib.Core.Bool.{Bool, true, false, cond, ◌&&◌}
use mathlib.Core.Option.{none, some}
use mathlib.Core.List.{List, [], ◌∷◌}
use native.Mathlib.Numerals.{add-one}
use native.Mathlib.Omega.{arith}
use borrow.Author.Tests.{eq-eqb, ne_eqb}
use lib.Dec.{eqb}
use lib.ListN.{length, take, drop, get_or}
use lib.Seq.{drop-cons, drop-length}
use Rattle.image.proofs.Bools.{and_false_left, and_false_right}
use Rattle.pattern_words.specs.Words.{same_word}
use Rattle.name_tables.specs.declared.NameRow.{NameRow}
use Rattle.name_tables.specs.Names.{name_bytes_at, name_row_at, row_name, first_from, Use, serves, is_named}

pub other_length : (a b : List ℕ) → (length a ≡ length b → ⊥) → false ≡ same_word a b
unfolding same_word
other_length [] [] ne = absurd (ne refl)
other_length [] (c ∷ cs) ne = refl
other_length (b ∷ bs) [] ne = refl
other_length (b ∷ bs) (c ∷ cs) ne = sym (and_false_right (eqb b c) (same_word bs cs) (sym (other_length bs cs (λ e. ne (ap suc e)))))

module _ (a b : List ℕ) where
  -- what is left to compare says whether the words are the same
  pub record Alike (i : ℕ) : Type 0 where
    pub long : length a ≡ length b
    pub within : i ≤ length a
    pub left : same_word (drop i a) (drop i b) ≡ same_word a b

  step : (i : ℕ) → i < length a → i < length b → same_word (drop i a) (drop i b) ≡ eqb (get_or a i 0) (get_or b i 0) && same_word (drop (i + 1) a) (drop (i + 1) b)
  unfolding same_word
  step i h k = rw (add-one, drop-cons a i 0 h, drop-cons b i 0 k)

  pub byte_differs : {i : ℕ} → Alike i → i < length a → (get_or a i 0 ≡ get_or b i 0 → ⊥) → false ≡ same_word a b
  byte_differs {i} L h ne =
      let k : i < length b = omega (arith, L.long) in
      sym (sym L.left ∙ (step i h k ∙ and_false_left (eqb (get_or a i 0) (get_or b i 0)) (same_word (drop (i + 1) a) (drop (i + 1) b)) (ne_eqb _ _ ne)))

  pub byte_same : {i : ℕ} → Alike i → i < length a → get_or a i 0 ≡ get_or b i 0 → Alike (i + 1)
  byte_same {i} L h e =
      let k : i < length b = omega (arith, L.long) in
      let same : eqb (get_or a i 0) (get_or b i 0) ≡ true = eq-eqb _ _ e in
      record { long = L.long; within = omega arith; left = sym (rw same at (step i h k)) ∙ L.left }

  pub all_same : {i : ℕ} → Alike i → length a ≤ i → true ≡ same_word a b
  unfolding same_word
  all_same {i} L h =
      let ea : i ≡ length a = omega (arith, L.within) in
      let eb : i ≡ length b = omega (arith, L.within, L.long) in
      let na : drop i a ≡ [] = ap (λ (n : ℕ). drop n a) ea ∙ drop-length a in
      let nb : drop i b ≡ [] = ap (λ (n : ℕ). drop n b) eb ∙ drop-length b in
      rw (na, nb) at L.left

module _ (test : ℕ → Bool) (count : ℕ) where
  -- what is left to try gives the first number that passes
  pub record Trying (i : ℕ) : Type 0 where
    pub within : i ≤ count
    pub left : first_from test i (count - i) ≡ first_from test 0 count

  one_more_lem : (i : ℕ) → i < count → first_from test i (count - i) ≡ cond (test i) (some i) (first_from test (i + 1) (count - (i + 1)))
  unfolding first_from
  one_more_lem i h =
      let e : count - i ≡ suc (count - (i + 1)) = omega arith in
      rw (e, add-one)

  pub try_first : Trying 0
  try_first = record { within = omega arith; left = let e : count - 0 ≡ count = omega arith in rw e }

  pub hit : {i : ℕ} → Trying i → i < count → test i ≡ true → some i ≡ first_from test 0 count
  hit {i} T h e = sym (sym T.left ∙ rw e at (one_more_lem i h))

  pub miss : {i : ℕ} → Trying i → i < count → test i ≡ false → Trying (i + 1)
  miss {i} T h e = record { within = omega arith; left = sym (rw e at (one_more_lem i h)) ∙ T.left }

  pub no_more_lem : {i : ℕ} → Trying i → count ≤ i → none ≡ first_from test 0 count
  unfolding first_from
  no_more_lem {i} T h = let e : count - i ≡ 0 = omega arith in rw e at T.left

-- the ways through the test of a row
module _ (names : List ℕ) (wanted : Use) (name : List ℕ) (i : ℕ) where
  pub serves_not : {row : NameRow} → row ≡ name_row_at names i → serves wanted row ≡ false → false ≡ is_named names wanted name i
  unfolding is_named
  serves_not e s = rw (← e, s)

  pub name_compared : {row : NameRow} {first last : ℕ} {r : Bool} → row ≡ name_row_at names i → serves wanted row ≡ true → first ≡ name_bytes_at names + row.start → last ≡ first + row.count → r ≡ same_word (take (last - first) (drop first names)) name → r ≡ is_named names wanted name i
  unfolding is_named row_name
  name_compared {row} {first} {last} e s f l told =
      let long : last - first ≡ row.count = omega arith in
      rw (← e, s) (rw (long, f) at told)
