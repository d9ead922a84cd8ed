-- Arguments in a row as lists: their elements, their patterns, and the lowerings of these. Assumes nothing.
use Prim.Native.Nat.{ℕ, zero, suc, ◌+◌, ◌*◌, ◌-◌, ◌≤◌}
use mathlib.Core.Path.{◌≡◌, refl, ap, ap₂, ◌∙◌}
use mathlib.Core.Bool.{Bool, true, false, cond}
use mathlib.Core.Option.{none, some}
use mathlib.Core.List.{List, [], ◌∷◌, ◌++◌, map, reverse, reverse-append, map-append}
use native.Mathlib.Omega.{arith}
use lib.Dec.{eqb}
use lib.ListN.{length, take, drop}
use Rattle.image.specs.Rows.{list_at}
use Rattle.image.specs.Lists.{up_from}
use Rattle.image.specs.Rules.{listed}
use Rattle.image.specs.Tree.{tree, trees, word?}
use Rattle.place.specs.declared.elems.ProjectionElem.{ProjectionElem}
use Rattle.pattern_matching.specs.Walking.{Lowering}
use Rattle.pattern_matching.specs.Variants.{fields_up_to, ellipsis_at}
use Rattle.pattern_matching.specs.Patterns.{pattern_match_inner, lowerings}
use Rattle.pattern_rows.specs.declared.ArgumentRow.{ArgumentRow}
use Rattle.pattern_rows.specs.Rows.{argument_elem, argument_pat, before_ellipsis}
use Rattle.pattern_nodes.specs.Arguments.{lowered, argument_elems, argument_pats}

-- the elements of each row
module _ (image : List ℕ) (from fields : ℕ) where
  pub items_elems : (i n : ℕ) → argument_elems ArgumentRow.Items image from fields i n ≡ map (λ i. ProjectionElem.Index i) (up_from i n)
  unfolding argument_elems argument_elem up_from
  items_elems i zero = refl
  items_elems i (suc n) = ap (λ (es : List ProjectionElem). ProjectionElem.Index i ∷ es) (items_elems (i + 1) n)

  pub last_items_elems : (i n : ℕ) → argument_elems ArgumentRow.LastItems image from fields i n ≡ map (λ i. ProjectionElem.IndexFromEnd (fields - 1 - i)) (up_from i n)
  unfolding argument_elems argument_elem up_from
  last_items_elems i zero = refl
  last_items_elems i (suc n) = ap (λ (es : List ProjectionElem). ProjectionElem.IndexFromEnd (fields - 1 - i) ∷ es) (last_items_elems (i + 1) n)

  pub record_elems : (i n : ℕ) → argument_elems ArgumentRow.RecordFields image from fields i n ≡ map (λ i. ProjectionElem.Field i) (listed image 2 (from + 2 * i) n)
  unfolding argument_elems argument_elem listed
  record_elems i zero = refl
  record_elems i (suc n) =
      let next : from + 2 * (i + 1) ≡ from + 2 * i + 2 = omega arith in
      ap (λ (es : List ProjectionElem). ProjectionElem.Field (list_at image (from + 2 * i)) ∷ es) (rw next at (record_elems (i + 1) n))

-- the patterns of each row
module _ (image : List ℕ) (from : ℕ) where
  pub items_pats : (i n : ℕ) → argument_pats ArgumentRow.Items image from i n ≡ listed image 1 (from + i) n
  unfolding argument_pats argument_pat listed
  items_pats i zero = refl
  items_pats i (suc n) =
      let next : from + (i + 1) ≡ from + i + 1 = omega arith in
      ap (λ (qs : List ℕ). list_at image (from + i) ∷ qs) (rw next at (items_pats (i + 1) n))

  pub last_items_pats : (i n : ℕ) → argument_pats ArgumentRow.LastItems image from i n ≡ listed image 1 (from + i) n
  unfolding argument_pats argument_pat listed
  last_items_pats i zero = refl
  last_items_pats i (suc n) =
      let next : from + (i + 1) ≡ from + i + 1 = omega arith in
      ap (λ (qs : List ℕ). list_at image (from + i) ∷ qs) (rw next at (last_items_pats (i + 1) n))

  pub record_pats : (i n : ℕ) → argument_pats ArgumentRow.RecordFields image from i n ≡ listed image 2 (from + 1 + 2 * i) n
  unfolding argument_pats argument_pat listed
  record_pats i zero = refl
  record_pats i (suc n) =
      let here : from + 2 * i + 1 ≡ from + 1 + 2 * i = omega arith in
      let next : from + 1 + 2 * (i + 1) ≡ from + 1 + 2 * i + 2 = omega arith in
      ap₂ (λ (q : ℕ) (qs : List ℕ). q ∷ qs) (ap (list_at image) here) (rw next at (record_pats (i + 1) n))

-- the lowerings of so many patterns in a row
module _ (image bindings : List ℕ) where
  pub lowered_none : (from : ℕ) → lowered image bindings from 0 ≡ []
  unfolding lowered lowerings trees listed
  lowered_none from = refl

  pub lowered_length : (from count : ℕ) → length (lowered image bindings from count) ≡ count
  unfolding lowered lowerings trees listed
  lowered_length from zero = refl
  lowered_length from (suc count) = ap suc (lowered_length (from + 1) count)

  -- the first of them
  pub lowered_take : (at from count : ℕ) → at ≤ count → take at (lowered image bindings from count) ≡ lowered image bindings from at
  unfolding lowered lowerings trees listed
  lowered_take zero from count h = refl
  lowered_take (suc at) from zero h = absurd (omega arith)
  lowered_take (suc at) from (suc count) h =
      ap (λ (ls : List Lowering). pattern_match_inner image bindings (tree image (list_at image from)) ∷ ls) (lowered_take at (from + 1) count (omega arith))

  -- those behind them
  pub lowered_drop : (at from count : ℕ) → at ≤ count → drop at (lowered image bindings from count) ≡ lowered image bindings (from + at) (count - at)
  unfolding lowered lowerings trees listed
  lowered_drop zero from count h =
      let e : from + 0 ≡ from = omega arith in
      let d : count - 0 ≡ count = omega arith in
      rw (e, d)
  lowered_drop (suc at) from zero h = absurd (omega arith)
  lowered_drop (suc at) from (suc count) h =
      let e : from + suc at ≡ from + 1 + at = omega arith in
      let d : suc count - suc at ≡ count - at = omega arith in
      rw (e, d) (lowered_drop at (from + 1) count (omega arith))

  -- one more at the end
  lowered_more : (from count : ℕ) → lowered image bindings from (suc count) ≡ lowered image bindings from count ++ (pattern_match_inner image bindings (tree image (list_at image (from + count))) ∷ [])
  unfolding lowered lowerings trees listed
  lowered_more from zero = let e : from + 0 ≡ from = omega arith in rw e
  lowered_more from (suc count) =
      let e : from + suc count ≡ from + 1 + count = omega arith in
      rw e (ap (λ (ls : List Lowering). pattern_match_inner image bindings (tree image (list_at image from)) ∷ ls) (lowered_more (from + 1) count))

  -- from the last on
  pub lowered_last : (from count : ℕ) →
      reverse (lowered image bindings from (suc count)) ≡ pattern_match_inner image bindings (tree image (list_at image (from + count))) ∷ reverse (lowered image bindings from count)
  lowered_last from count =
      ap reverse (lowered_more from count) ∙ reverse-append (lowered image bindings from count) (pattern_match_inner image bindings (tree image (list_at image (from + count))) ∷ [])

  -- so many stand before the ellipsis
  pub ellipsis_before : (ellipsis from count : ℕ) → ellipsis_at (word? ellipsis) (lowered image bindings from count) ≡ before_ellipsis ellipsis count
  unfolding word? ellipsis_at before_ellipsis
  ellipsis_before ellipsis from count = by (eqb ellipsis 65535)
    where
      by : (b : Bool) → ellipsis_at (cond b none (some ellipsis)) (lowered image bindings from count) ≡ cond b count ellipsis
      by true = lowered_length from count
      by false = refl

-- the numbers from a on, one more at the end
from_more : (a n : ℕ) → up_from a (suc n) ≡ up_from a n ++ ((a + n) ∷ [])
unfolding up_from
from_more a zero = let e : a + 0 ≡ a = omega arith in rw e
from_more a (suc n) = let e : a + suc n ≡ a + 1 + n = omega arith in rw e (ap (λ (ns : List ℕ). a ∷ ns) (from_more (a + 1) n))

-- fields from the last on
pub fields_last : (n : ℕ) → reverse (fields_up_to (suc n)) ≡ ProjectionElem.Field n ∷ reverse (fields_up_to n)
fields_last n =
    let e : 0 + n ≡ n = omega arith in
    ap reverse (ap (map (λ i. ProjectionElem.Field i)) (from_more 0 n) ∙ map-append (λ i. ProjectionElem.Field i) (up_from 0 n) ((0 + n) ∷ []))
    ∙ reverse-append (fields_up_to n) (ProjectionElem.Field (0 + n) ∷ [])
    ∙ ap (λ (i : ℕ). ProjectionElem.Field i ∷ reverse (fields_up_to n)) e
