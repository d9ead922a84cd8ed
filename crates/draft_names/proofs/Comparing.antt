-- The bytes of a name, and the name of a row. Assumes nothing.
use Prim.Native.Nat.{ℕ, ◌-◌, ◌≤◌, ◌<◌, min}
use mathlib.Core.Path.{◌≡◌, refl, sym, ap, ap₂, ◌∙◌}
use mathlib.Core.Bool.{Bool, true, false}
use mathlib.Core.List.{List}
use mathlib.Core.Logic.{◌⊎◌, inl, inr, ⊎_elim}
use native.Mathlib.Omega.{arith}
use borrow.Author.Tests.{leb-true, leb-false}
use lib.Dec.{leb}
use lib.ListN.{length, take, drop, length-drop, drop_of_length-le}
use lib.Seq.{take_all, take-nil}
use Rattle.pattern_words.specs.Words.{same_word}
use Rattle.pattern_syntax.specs.Reduced.{bytes_from}
use Rattle.draft_tables.specs.declared.NameRange.{NameRange}
use Rattle.draft_tables.specs.Layout.{range_of_words, name_of_words}

le_or_lt : (a b : ℕ) → (a ≤ b) ⊎ (b < a)
le_or_lt a b = by (leb a b) refl
  where
    by : (t : Bool) → leb a b ≡ t → (a ≤ b) ⊎ (b < a)
    by true e = inl (leb-true a b e)
    by false e = inr (leb-false a b e)

-- `name_bytes`: a range that goes past the names ends with them
pub clamped : (names : List ℕ) (from to : ℕ) → take (min to (length names) - min from (min to (length names))) (drop (min from (min to (length names))) names) ≡ bytes_from names from to
unfolding bytes_from
clamped names from to =
    ⊎_elim
    (λ (short : to ≤ length names).
    ⊎_elim
    (λ (h : from ≤ to). by from (to - from) (omega arith) (omega arith))
    (λ (h : to < from). let none : to - from ≡ 0 = omega arith in by to 0 (omega arith) (omega arith) ∙ sym (ap (λ (k : ℕ). take k (drop from names)) none))
    (le_or_lt from to))
    (λ (long : length names < to).
    ⊎_elim
    (λ (h : from ≤ length names).
    by from (length names - from) (omega arith) (omega arith)
    ∙ take_all (length names - from) (drop from names) (omega (arith, length-drop from names))
    ∙ sym (take_all (to - from) (drop from names) (omega (arith, length-drop from names))))
    (λ (h : length names < from).
    by (length names) 0 (omega arith) (omega arith) ∙ sym (ap (take (to - from)) (drop_of_length-le names {i = from} (omega arith)) ∙ take-nil (to - from)))
    (le_or_lt from (length names)))
    (le_or_lt to (length names))
  where
    by : (start many : ℕ) → min from (min to (length names)) ≡ start → min to (length names) - min from (min to (length names)) ≡ many → take (min to (length names) - min from (min to (length names))) (drop (min from (min to (length names))) names) ≡ take many (drop start names)
    by start many s m = ap₂ (λ (k j : ℕ). take k (drop j names)) m s

-- `binding_of`: the name of a row
pub named_test : (names ws : List ℕ) (range : NameRange) (from to : ℕ) (x y : List ℕ) (r : Bool) → range ≡ range_of_words ws → x ≡ bytes_from names range.from range.to → y ≡ bytes_from names from to → r ≡ same_word x y → same_word (name_of_words names ws) (bytes_from names from to) ≡ r
unfolding range_of_words name_of_words
named_test names ws range from to x y r e f g h =
    sym (h ∙ ap₂ same_word (f ∙ ap (λ (n : NameRange). bytes_from names n.from n.to) e) g)
