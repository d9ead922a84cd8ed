-- Arguments in a row, with an ellipsis or none: the parts that are tested are the definition's. Assumes nothing.
use Prim.Native.Nat.{ℕ, zero, suc, ◌+◌, ◌*◌, ◌-◌, ◌≤◌, ◌<◌}
use mathlib.Core.Path.{◌≡◌, refl, sym, ap, ◌∙◌}
use mathlib.Core.Bool.{Bool, true, false, ◌&&◌}
use mathlib.Core.Option.{some}
use mathlib.Core.List.{List, [], ◌∷◌}
use native.Mathlib.Omega.{arith}
use borrow.Author.Tests.{eq-eqb, ne_eqb, le-leb, lt-leb}
use lib.Dec.{ltb}
use lib.ListN.{length, take, drop, drop_of_length-le}
use lib.Seq.{take_all}
use Rattle.image.specs.Rows.{list_at}
use Rattle.image.specs.Lists.{all_in}
use Rattle.image.specs.Rules.{absent, names_type, listed}
use Rattle.image.specs.Tree.{trees, tree, word?}
use Rattle.image.proofs.Bools.{and_left, and_right, and_true}
use Rattle.place.proofs.Fields.{length_listed}
use Rattle.meaning.specs.Typing.{TypeNumber}
use Rattle.meaning.specs.Fit.{arguments_fit, row_fits, types_fit, fitting, each_fits}
use Rattle.fit_shapes.specs.Numbers.{TypesAt}
use Rattle.fit_types.specs.Parts.{fitting_at, Items, Pairs}
use Rattle.fit_shapes.proofs.Fielding.{word_absent, word_there}

-- only as many types as there are arguments count
each_short : (fs : List (TypeNumber → Bool)) (ts : List ℕ) → length fs ≤ length ts → each_fits fs ts ≡ each_fits fs (take (length fs) ts)
unfolding each_fits
each_short [] ts h = refl
each_short (f ∷ fs) [] h = absurd (omega arith)
each_short (f ∷ fs) (t ∷ ts) h = ap (λ (b : Bool). f (some t) && b) (each_short fs ts (omega arith))

module _ (image : List ℕ) where
  pub fitting_length : (step at count : ℕ) → length (fitting_at image step at count) ≡ count
  unfolding fitting_at fitting trees listed
  fitting_length step at zero = refl
  fitting_length step at (suc count) = ap suc (fitting_length step (at + step) count)

  -- the first k, and those behind them
  fitting_take : (at count k : ℕ) → k ≤ count → take k (fitting_at image 1 at count) ≡ fitting_at image 1 at k
  unfolding fitting_at fitting trees listed
  fitting_take at count zero h = refl
  fitting_take at zero (suc k) h = absurd (omega arith)
  fitting_take at (suc count) (suc k) h = ap (λ (fs : List (TypeNumber → Bool)). (λ t. types_fit image (tree image (list_at image at)) t) ∷ fs) (fitting_take (at + 1) count k (omega arith))

  fitting_drop : (at count k : ℕ) → k ≤ count → drop k (fitting_at image 1 at count) ≡ fitting_at image 1 (at + k) (count - k)
  unfolding fitting_at fitting trees listed
  fitting_drop at count zero h = let e : at + 0 ≡ at = omega arith in let d : count - 0 ≡ count = omega arith in rw (e, d) refl
  fitting_drop at zero (suc k) h = absurd (omega arith)
  fitting_drop at (suc count) (suc k) h =
      let e : at + suc k ≡ at + 1 + k = omega arith in
      let d : suc count - suc k ≡ count - k = omega arith in
      rw (e, d) (fitting_drop (at + 1) count k (omega arith))

  listed_take : (at count k : ℕ) → k ≤ count → take k (listed image 1 at count) ≡ listed image 1 at k
  unfolding listed
  listed_take at count zero h = refl
  listed_take at zero (suc k) h = absurd (omega arith)
  listed_take at (suc count) (suc k) h = ap (λ (xs : List ℕ). list_at image at ∷ xs) (listed_take (at + 1) count k (omega arith))

  listed_drop : (at count k : ℕ) → k ≤ count → drop k (listed image 1 at count) ≡ listed image 1 (at + k) (count - k)
  unfolding listed
  listed_drop at count zero h = let e : at + 0 ≡ at = omega arith in let d : count - 0 ≡ count = omega arith in rw (e, d) refl
  listed_drop at zero (suc k) h = absurd (omega arith)
  listed_drop at (suc count) (suc k) h =
      let e : at + suc k ≡ at + 1 + k = omega arith in
      let d : suc count - suc k ≡ count - k = omega arith in
      rw (e, d) (listed_drop (at + 1) count k (omega arith))

  -- a test that a range passes, a part of it passes
  all_take : (f : ℕ → Bool) (at count k : ℕ) → k ≤ count → all_in f (listed image 1 at count) ≡ true → all_in f (listed image 1 at k) ≡ true
  unfolding listed all_in
  all_take f at count zero h e = refl
  all_take f at zero (suc k) h e = absurd (omega arith)
  all_take f at (suc count) (suc k) h e =
      and_true (f (list_at image at)) (all_in f (listed image 1 (at + 1) k)) (and_left (f (list_at image at)) (all_in f (listed image 1 (at + 1) count)) e)
      (all_take f (at + 1) count k (omega arith) (and_right (f (list_at image at)) (all_in f (listed image 1 (at + 1) count)) e))

  all_drop : (f : ℕ → Bool) (step at count k : ℕ) → k ≤ count → all_in f (listed image step at count) ≡ true → all_in f (listed image step (at + step * k) (count - k)) ≡ true
  unfolding listed all_in
  all_drop f step at count zero h e = let p : at + step * 0 ≡ at = omega arith in let d : count - 0 ≡ count = omega arith in rw (p, d) e
  all_drop f step at zero (suc k) h e = absurd (omega arith)
  all_drop f step at (suc count) (suc k) h e =
      let p : at + step * suc k ≡ at + step + step * k = omega arith in
      let d : suc count - suc k ≡ count - k = omega arith in
      rw (p, d) (all_drop f step (at + step) count k (omega arith) (and_right (f (list_at image at)) (all_in f (listed image step (at + step) count)) e))

  pub items_take : {p at count : ℕ} (k : ℕ) → k ≤ count → Items image p at count → Items image p at k
  items_take {p} {at} {count} k h i = let w = i.within in record { within = omega arith; below = all_take (λ q. ltb q p) at count k h i.below }

  pub items_drop : {p at count : ℕ} (k : ℕ) → k ≤ count → Items image p at count → Items image p (at + k) (count - k)
  items_drop {p} {at} {count} k h i =
      let w = i.within in
      let place : at + 1 * k ≡ at + k = omega arith in
      record { within = omega arith; below = rw place at (all_drop (λ q. ltb q p) 1 at count k h i.below) }

  pub types_take : {from count : ℕ} (k : ℕ) → k ≤ count → TypesAt image from count → TypesAt image from k
  types_take {from} {count} k h t = let w = t.within in record { within = omega arith; named = all_take (names_type image) from count k h t.named }

  -- the last k
  pub types_last : {from count : ℕ} (k : ℕ) → k ≤ count → TypesAt image from count → TypesAt image (from + (count - k)) k
  types_last {from} {count} k h t =
      let w = t.within in
      let last : count - (count - k) ≡ k = omega arith in
      let place : from + 1 * (count - k) ≡ from + (count - k) = omega arith in
      record { within = omega arith; named = rw (last, place) at (all_drop (names_type image) 1 from count (count - k) (omega arith) t.named) }

  -- where a loop has come to: those that are left
  pub items_left : {p at count i : ℕ} → Items image p at count → at ≤ i → i < at + count → Items image p i (at + count - i)
  items_left {p} {at} {count} {i} items past few =
      let place : at + (i - at) ≡ i = omega arith in
      let left : count - (i - at) ≡ at + count - i = omega arith in
      rw (left, place) at (items_drop (i - at) (omega arith) items)

  pub types_left : {from count k : ℕ} → TypesAt image from count → k < count → TypesAt image (from + k) (count - k)
  types_left {from} {count} {k} types few =
      let behind : count - (count - k) ≡ k = omega arith in
      rw behind at (types_last (count - k) (omega arith) types)

  pub pairs_left : {p at count k : ℕ} → Pairs image p at count → k < count → Pairs image p (at + 2 * k) (count - k)
  pairs_left {p} {at} {count} {k} pairs few =
      let w = pairs.within in
      let place : at + 1 + 2 * k ≡ at + 2 * k + 1 = omega arith in
      record { within = omega arith; below = rw place at (all_drop (λ q. ltb q p) 2 (at + 1) count k (omega arith) pairs.below) }

  -- `row_fits`
  module _ (ellipsis at count from n : ℕ) where
    abbrev fs : List (TypeNumber → Bool)
    fs = fitting_at image 1 at count

    abbrev ts : List ℕ
    ts = listed image 1 from n

    abbrev whole : Bool
    whole = row_fits (word? ellipsis) fs ts

    module _ (missing : ellipsis ≡ absent) where
      pub row_unequal : (count ≡ n → ⊥) → false ≡ whole
      unfolding row_fits arguments_fit
      row_unequal h = rw (word_absent ellipsis missing, fitting_length 1 at count, length_listed image 1 from n, ne_eqb count n h)

      pub row_equal : {r : Bool} → count ≡ n → r ≡ each_fits fs (listed image 1 from count) → r ≡ whole
      unfolding row_fits arguments_fit
      row_equal h e = e ∙ rw (word_absent ellipsis missing, fitting_length 1 at count, length_listed image 1 from n, eq-eqb count n h, h)

    module _ (there : ellipsis ≡ absent → ⊥) where
      pub row_surplus : n < count → false ≡ whole
      unfolding row_fits arguments_fit
      row_surplus h = rw (word_there ellipsis there, fitting_length 1 at count, length_listed image 1 from n, lt-leb count n h)

      module _ (few : count ≤ n) where
        -- what is left of the definition where the arguments are not too many
        left_over : whole ≡ each_fits (take ellipsis fs) ts && each_fits (drop ellipsis fs) (drop (n - (count - ellipsis)) ts)
        unfolding row_fits arguments_fit
        left_over = rw (word_there ellipsis there, fitting_length 1 at count, length_listed image 1 from n, le-leb count n few)

        front : (k : ℕ) → k ≤ count → each_fits (fitting_at image 1 at k) ts ≡ each_fits (fitting_at image 1 at k) (listed image 1 from k)
        front k h =
            each_short (fitting_at image 1 at k) ts (rw (fitting_length 1 at k, length_listed image 1 from n) (omega arith))
            ∙ ap (each_fits (fitting_at image 1 at k)) (ap (λ (m : ℕ). take m ts) (fitting_length 1 at k) ∙ listed_take from n k (omega arith))

        -- all stand before the ellipsis
        pub row_before : {r : Bool} → count ≤ ellipsis → r ≡ each_fits fs (listed image 1 from count) → r ≡ whole
        unfolding each_fits
        row_before h e =
            e ∙ sym (left_over ∙ rw (take_all ellipsis fs (rw (fitting_length 1 at count) h), drop_of_length-le fs {i = ellipsis} (rw (fitting_length 1 at count) h), front count (omega arith)) (and_yes (each_fits fs (listed image 1 from count))))
          where
            and_yes : (b : Bool) → b && true ≡ b
            and_yes true = refl
            and_yes false = refl

        module _ (within : ellipsis < count) {r : Bool} (first : r ≡ each_fits (fitting_at image 1 at ellipsis) (listed image 1 from ellipsis)) where
          fronts : each_fits (take ellipsis fs) ts ≡ r
          fronts = ap (λ (gs : List (TypeNumber → Bool)). each_fits gs ts) (fitting_take at count ellipsis (omega arith)) ∙ front ellipsis (omega arith) ∙ sym first

          pub row_front : r ≡ false → false ≡ whole
          row_front e = sym (left_over ∙ rw (fronts, e))

          pub row_behind : r ≡ true → {s : Bool} → s ≡ each_fits (fitting_at image 1 (at + ellipsis) (count - ellipsis)) (listed image 1 (from + (n - (count - ellipsis))) (count - ellipsis)) → s ≡ whole
          row_behind e last =
              let same : n - (n - (count - ellipsis)) ≡ count - ellipsis = omega arith in
              last ∙ sym (left_over ∙ rw (fronts, e, fitting_drop at count ellipsis (omega arith), listed_drop from n (n - (count - ellipsis)) (omega arith), same))
