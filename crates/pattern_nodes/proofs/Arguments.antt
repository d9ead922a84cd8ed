-- Arguments in a row, each on the place one element on: one after the other, and as the definitions have them. Assumes nothing.
use Prim.Native.Nat.{ℕ, zero, suc, ◌+◌, ◌*◌, ◌-◌, ◌≤◌, ◌<◌}
use mathlib.Core.Path.{◌≡◌, refl, ap, ap₂, ◌∙◌}
use mathlib.Core.Bool.{Bool, true, false, cond}
use mathlib.Core.List.{List, map, reverse}
use native.Mathlib.Omega.{arith}
use borrow.Author.Tests.{ltb-true, ltb-false, lt-ltb, le-ltb, le-leb, lt-leb}
use lib.Dec.{leb, ltb}
use lib.ListN.{length, take, drop}
use Rattle.image.specs.Rows.{list_at}
use Rattle.image.specs.Lists.{up_from}
use Rattle.image.specs.Rules.{listed}
use Rattle.image.specs.Tree.{tree, trees, word?}
use Rattle.refusals.specs.declared.MirLowerError.{MirLowerError}
use Rattle.place.specs.declared.elems.ProjectionElem.{ProjectionElem}
use Rattle.pattern_matching.specs.Walking.{refused, Lowering, next, step, project}
use Rattle.pattern_matching.specs.Variants.{pattern_match_adt, fields_up_to, pattern_match_tuple_like, ellipsis_at}
use Rattle.pattern_matching.specs.Slices.{suffix_items}
use Rattle.pattern_matching.specs.Patterns.{refusing, passing, pattern_match_inner, lowerings}
use Rattle.pattern_rows.specs.declared.ArgumentRow.{ArgumentRow}
use Rattle.pattern_rows.specs.Rows.{argument_elem, argument_pat, before_ellipsis, smaller}
use Rattle.pattern_nodes.specs.Arguments.{lowered, argument_elems, argument_pats}
use Rattle.pattern_nodes.proofs.Rows.{items_elems, last_items_elems, record_elems, items_pats, last_items_pats, record_pats, lowered_none, lowered_length, lowered_take, lowered_drop, lowered_last, ellipsis_before, fields_last}

-- so many arguments from the argument i on
abbrev pub arguments_from : ArgumentRow → List ℕ → List ℕ → ℕ → ℕ → ℕ → ℕ → ℕ → Lowering
arguments_from row image bindings p from fields i left =
    pattern_match_adt p (argument_elems row image from fields i left) (lowerings image bindings (trees (tree image) (argument_pats row image from i left)))

-- an argument on the place one element on, and then the rest
abbrev pub argument_then : ℕ → ProjectionElem → Lowering → Lowering → Lowering
argument_then p elem arg rest mode ctx current els place =
    step p (project place elem) (λ place'. next (arg mode ctx current els place') (λ r. rest mode r.ctx r.then r.else place))

-- a lowering, and then another on the same place
abbrev pub in_turn : Lowering → Lowering → Lowering
in_turn first second mode ctx current els place = next (first mode ctx current els place) (λ r. second mode r.ctx r.then r.else place)

-- `pattern_match_tuple_like`, by the test of the ellipsis
abbrev tuple_like : ℕ → List Lowering → ℕ → ℕ → Bool → Lowering
tuple_like p args at fields within mode ctx current els place =
    cond within (in_turn (pattern_match_adt p (fields_up_to fields) (take at args)) (pattern_match_adt p (reverse (fields_up_to fields)) (reverse (drop at args))) mode ctx current els place)
    (refused MirLowerError.Ellipsis p)

-- `count` arguments are all left before the first
pub arguments_start : (row : ArgumentRow) (image bindings : List ℕ) (p from fields count : ℕ) →
    arguments_from row image bindings p from fields 0 count ≡ arguments_from row image bindings p from fields 0 (count - 0)
arguments_start row image bindings p from fields count = let e : count ≡ count - 0 = omega arith in ap (arguments_from row image bindings p from fields 0) e

-- what is left of `count` arguments from the argument i on
module _ (row : ArgumentRow) (image bindings : List ℕ) (p from fields count i : ℕ) where
  -- nothing
  pub arguments_none : count ≤ i → arguments_from row image bindings p from fields i (count - i) ≡ passing
  unfolding pattern_match_adt argument_elems argument_pats
  arguments_none h = let e : count - i ≡ 0 = omega arith in rw e

  -- one more
  pub arguments_more : i < count →
      arguments_from row image bindings p from fields i (count - i)
      ≡ argument_then p (argument_elem row image from fields i) (pattern_match_inner image bindings (tree image (argument_pat row image from i)))
      (arguments_from row image bindings p from fields (i + 1) (count - (i + 1)))
  unfolding pattern_match_adt argument_elems argument_pats trees lowerings
  arguments_more h = let e : count - i ≡ suc (count - (i + 1)) = omega arith in rw e

-- `pattern_match_tuple_like` tests the ellipsis
tuple_like_tested : (p : ℕ) (args : List Lowering) (at fields : ℕ) (b : Bool) → leb at (length args) ≡ b → pattern_match_tuple_like p args at fields ≡ tuple_like p args at fields b
unfolding pattern_match_tuple_like
tuple_like_tested p args at fields b e = ap (tuple_like p args at fields) e

-- the smaller of a number and none is none
smaller_zero : (n : ℕ) → smaller n 0 ≡ 0
unfolding smaller
smaller_zero n = rw (le-ltb n 0 (omega arith))

-- of none and a number too
pub zero_smaller : (n : ℕ) → smaller 0 n ≡ 0
unfolding smaller
zero_smaller zero = smaller_zero 0
zero_smaller (suc n) = rw (lt-ltb 0 (suc n) (omega arith))

-- and both may be one more
smaller_suc : (m n : ℕ) → smaller (suc m) (suc n) ≡ suc (smaller m n)
unfolding smaller
smaller_suc m n = by (ltb m n) refl
  where
    by : (b : Bool) → ltb m n ≡ b → cond (ltb (suc m) (suc n)) (suc m) (suc n) ≡ suc (cond (ltb m n) m n)
    by true e = let lt = ltb-true m n e in rw (e, lt-ltb (suc m) (suc n) (omega arith))
    by false e = let le = ltb-false m n e in rw (e, le-ltb (suc m) (suc n) (omega arith))

module _ (image bindings : List ℕ) (p : ℕ) where
  -- the first fields from the field i on
  first_fields : (from fields f n i : ℕ) →
      pattern_match_adt p (map (λ i. ProjectionElem.Field i) (up_from i f)) (lowered image bindings (from + i) n) ≡ arguments_from ArgumentRow.Fields image bindings p from fields i (smaller n f)
  unfolding pattern_match_adt argument_elems argument_elem argument_pats argument_pat lowered lowerings trees listed up_from
  first_fields from fields zero n i = rw (smaller_zero n)
  first_fields from fields (suc f) zero i = rw (zero_smaller (suc f))
  first_fields from fields (suc f) (suc n) i =
      let e : from + i + 1 ≡ from + (i + 1) = omega arith in
      rw (smaller_suc n f, e) (ap (argument_then p (ProjectionElem.Field i) (pattern_match_inner image bindings (tree image (list_at image (from + i))))) (first_fields from fields f n (i + 1)))

  -- the last fields, f of them before those that are done, and the last arguments: those of n that begin at a
  last_fields : (from fields a f n i : ℕ) → fields ≡ f + i → from ≡ a + n + i →
      pattern_match_adt p (reverse (fields_up_to f)) (reverse (lowered image bindings a n)) ≡ arguments_from ArgumentRow.LastFields image bindings p from fields i (smaller n f)
  unfolding pattern_match_adt argument_elems argument_elem argument_pats argument_pat lowerings trees up_from
  last_fields from fields a zero n i d e = rw (smaller_zero n)
  last_fields from fields a (suc f) zero i d e = rw (zero_smaller (suc f), fields_last f, lowered_none image bindings a)
  last_fields from fields a (suc f) (suc n) i d e =
      let d' : fields - 1 - i ≡ f = omega (arith, d) in
      let e' : from - 1 - i ≡ a + n = omega (arith, e) in
      rw (smaller_suc n f, d', e', fields_last f, lowered_last image bindings a n)
      (ap (argument_then p (ProjectionElem.Field f) (pattern_match_inner image bindings (tree image (list_at image (a + n))))) (last_fields from fields a f n (i + 1) (omega (arith, d)) (omega (arith, e))))

  -- arguments before an ellipsis, on the first of so many fields
  pub fields_by_rows : (from fields at count : ℕ) → at ≤ count →
      pattern_match_adt p (fields_up_to fields) (take at (lowered image bindings from count)) ≡ arguments_from ArgumentRow.Fields image bindings p from fields 0 (smaller at fields)
  fields_by_rows from fields at count h =
      let e : from ≡ from + 0 = omega arith in
      ap (pattern_match_adt p (fields_up_to fields)) (lowered_take image bindings at from count h ∙ ap (λ (f : ℕ). lowered image bindings f at) e) ∙ first_fields from fields fields at 0

  -- those behind it, on the last ones
  pub last_fields_by_rows : (from fields at count : ℕ) → at ≤ count →
      pattern_match_adt p (reverse (fields_up_to fields)) (reverse (drop at (lowered image bindings from count)))
      ≡ arguments_from ArgumentRow.LastFields image bindings p (from + count) fields 0 (smaller (count - at) fields)
  last_fields_by_rows from fields at count h =
      ap (λ (ls : List Lowering). pattern_match_adt p (reverse (fields_up_to fields)) (reverse ls)) (lowered_drop image bindings at from count h)
      ∙ last_fields (from + count) fields (from + at) fields (count - at) 0 (omega arith) (omega (arith, h))

  -- `pattern_match_tuple_like`: more arguments before the ellipsis than there are
  pub tuple_like_refused : (from count ellipsis fields : ℕ) → count < before_ellipsis ellipsis count →
      pattern_match_tuple_like p (lowered image bindings from count) (ellipsis_at (word? ellipsis) (lowered image bindings from count)) fields ≡ refusing MirLowerError.Ellipsis p
  tuple_like_refused from count ellipsis fields h =
      let args = lowered image bindings from count in
      let before = before_ellipsis ellipsis count in
      ap (λ (at : ℕ). pattern_match_tuple_like p args at fields) (ellipsis_before image bindings ellipsis from count)
      ∙ tuple_like_tested p args before fields false (ap (leb before) (lowered_length image bindings from count) ∙ lt-leb before count h)

  -- otherwise those before the ellipsis, and then those behind it
  pub tuple_like_by_rows : (from count ellipsis fields : ℕ) → before_ellipsis ellipsis count ≤ count →
      pattern_match_tuple_like p (lowered image bindings from count) (ellipsis_at (word? ellipsis) (lowered image bindings from count)) fields
      ≡ in_turn (arguments_from ArgumentRow.Fields image bindings p from fields 0 (smaller (before_ellipsis ellipsis count) fields))
      (arguments_from ArgumentRow.LastFields image bindings p (from + count) fields 0 (smaller (count - before_ellipsis ellipsis count) fields))
  tuple_like_by_rows from count ellipsis fields h =
      let args = lowered image bindings from count in
      let before = before_ellipsis ellipsis count in
      ap (λ (at : ℕ). pattern_match_tuple_like p args at fields) (ellipsis_before image bindings ellipsis from count)
      ∙ tuple_like_tested p args before fields true (ap (leb before) (lowered_length image bindings from count) ∙ le-leb before count h)
      ∙ ap₂ in_turn (fields_by_rows from fields before count h) (last_fields_by_rows from fields before count h)

  -- the first items of an array or a slice
  pub items_by_rows : (from fields count : ℕ) →
      pattern_match_adt p (map (λ i. ProjectionElem.Index i) (up_from 0 count)) (lowered image bindings from count) ≡ arguments_from ArgumentRow.Items image bindings p from fields 0 count
  unfolding lowered
  items_by_rows from fields count =
      let e : from + 0 ≡ from = omega arith in
      rw (items_elems image from fields 0 count, items_pats image from 0 count, e)

  -- the last items
  pub last_items_by_rows : (from count : ℕ) →
      pattern_match_adt p (suffix_items count) (lowered image bindings from count) ≡ arguments_from ArgumentRow.LastItems image bindings p from count 0 count
  unfolding lowered
  last_items_by_rows from count =
      let e : from + 0 ≡ from = omega arith in
      rw (last_items_elems image from count 0 count, last_items_pats image from 0 count, e)

  -- fields by their numbers
  pub record_fields_by_rows : (from fields count : ℕ) →
      pattern_match_adt p (map (λ i. ProjectionElem.Field i) (listed image 2 from count)) (lowerings image bindings (trees (tree image) (listed image 2 (from + 1) count)))
      ≡ arguments_from ArgumentRow.RecordFields image bindings p from fields 0 count
  record_fields_by_rows from fields count =
      let e : from + 2 * 0 ≡ from = omega arith in
      let d : from + 1 + 2 * 0 ≡ from + 1 = omega arith in
      rw (record_elems image from fields 0 count, record_pats image from 0 count, e, d)
