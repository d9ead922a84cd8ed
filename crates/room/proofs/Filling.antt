-- Bindings, and the items and the rest of a Slice, take what is counted of them. Assumes nothing.
use mathlib.Core.Path.{◌≡◌, refl, sym, ap, subst, ◌∙◌}
use mathlib.Core.Bool.{Bool, true, false, cond, ◌||◌}
use mathlib.Core.Option.{Option, none, some}
use mathlib.Core.List.{List, [], ◌∷◌, ◌++◌, map, append-nil}
use Prim.Native.Nat.{ℕ, suc, ◌+◌, ◌-◌, ◌≤◌, max}
use native.Mathlib.Nat.{le_refl, le_trans, le_antisymm, le-max_left, le-max_right, max-le, max-zero, zero-max}
use native.Mathlib.Omega.{arith}
use lib.ListN.{length}
use Rattle.image.specs.declared.kinds.BindingMode.{BindingMode}
use Rattle.image.specs.Lists.{up_from}
use Rattle.image.specs.Types.{Shape, integer, bool, char, str, tuple, adt, reference, array, slice, unknown}
use Rattle.image.specs.Tree.{Head}
use Rattle.refusals.specs.declared.MirLowerError.{MirLowerError}
use Rattle.place.specs.declared.Place.{Place}
use Rattle.place.specs.declared.elems.ProjectionElem.{ProjectionElem}
use Rattle.place.specs.declared.place_ty.PlaceTy.{PlaceTy}
use Rattle.place.specs.Elems.{Fits}
use Rattle.mir.specs.declared.BasicBlockId.{BasicBlockId}
use Rattle.lower_spec.specs.Results.{OptBlock}
use Rattle.pattern_matching.specs.Walking.{Ctx, Lowering, out, project, in_check}
use Rattle.pattern_matching.specs.Tests.{pattern_match_binding}
use Rattle.pattern_matching.specs.Variants.{pattern_match_adt}
use Rattle.pattern_matching.specs.Slices.{RestOf, length_test, rest_bound, slice_items, slice_on, suffix_items}
use Rattle.pattern_matching.specs.Patterns.{bind_pattern}
use Rattle.cases_spec.specs.Cases.{if_there}
use Rattle.counting.specs.Reaching.{Argument, zip, is_slice_shape, slice_arguments, some_argument, Reached, Reaching, testing, binding, through_arguments}
use Rattle.counting.specs.Counting.{total}
use Rattle.counting.proofs.Rests.{statements_by, binding_by}
use Rattle.counting.proofs.Passing.{Pass, checks, binds, mode_of, in_checks, total_append}
use Rattle.counting.proofs.Arguments.{fit_all}
use Rattle.counting.proofs.Rows.{through_append, some_argument_append}
use Rattle.room.specs.Elements.{most_of_arguments}
use Rattle.room.proofs.Telling.{Origin, Sound, sound_ok, sound_step, sound_as}
use Rattle.room.proofs.Recording.{Alike, alike_is, alike_on, alike_moved}
use Rattle.room.proofs.Building.{Table, block, statement, local, entry, make, Goal, owing, has_as, has_by}
use Rattle.room.proofs.Spending.{At, Ends, reach_none, reach_back, no_or, idle_testing, free_testing, spent_free, spent, tested, own, marked_by, marked_in, marked_append, AllAbove, above_append, Fares, Spends, spends_within, spends_as, spends_under, spends_refused, spends_both, spends_test, sure_project}
use Rattle.room.proofs.Rows.{Each, none_left, one_more_lem, Row, spends_arguments, most_append}
use Rattle.room.proofs.Testing.{sound_length, sound_binding}

-- what a binding takes in Bind
fills : {A : Type 0} {base : Origin} {T : Goal} (h : Head) (b k : ℕ) (F : Bool) (m : Table → ℕ) (c : Ctx) (els : OptBlock) → Fares A base T F (λ w. total (spent binds k w) (binding h k false 0 0 (some b) ∷ []) + m w) c els →
    Fares A base T F (λ w. make 0 2 0 0 w + m w) c els
unfolding total
fills h b k F m c els room = has_by room _ (omega arith) (omega arith) (omega arith) (omega arith)

-- how many elements lead to what a rest binds
abbrev pub elements_by : RestOf → ℕ
elements_by rest = if_there (binding_by rest) (λ b. 1) 0

module _ {A : Type 0} {base : Origin} {image : List ℕ} (ty : PlaceTy) (h : Head) where
  -- a binding
  spends_binding : (q b : ℕ) (how : BindingMode) →
      Spends A base image ty (λ mode c current els place. in_check mode (out c current els) (pattern_match_binding base.bindings h.number q b how c current els place)) false 0
      (λ k. binding h k false 0 0 (some b) ∷ [])
  unfolding total
  spends_binding q b how = record { above = λ k. (le_refl _, tt); goes = by }
    where
      by : (pass : Pass) (k : ℕ) (T : Goal) (F : Bool) (m : Table → ℕ) (c : Ctx) (current : BasicBlockId) (els : OptBlock) (place : Place) → At image base place ty → (A → place.len + 0 ≤ 16) →
          (in_checks pass false ≡ true → F ≡ true) → Fares A base (owing (marked_in base.bindings pass (binding h k false 0 0 (some b) ∷ [])) T) F (λ w. total (spent pass k w) (binding h k false 0 0 (some b) ∷ []) + m w) c els →
          Sound A base (Ends A base T F m pass place 0) (in_check (mode_of pass) (out c current els) (pattern_match_binding base.bindings h.number q b how c current els place))
      by checks k T F m c current els place at len f room = sound_ok (Ends A base T F m checks place 0) _ (has_by room _ (omega arith) (omega arith) (omega arith) (omega arith), tt)
      by binds k T F m c current els place at len f room =
          sound_as (λ r z. (z, reach_none binds place at.short)) (sound_binding image h.number m c F base.bindings q b how current els place (fills h b k F m c els room))

  -- a Bind: its subpattern first
  pub spends_bind : {l : Lowering} {fails : Bool} {deep : ℕ} {rs : ℕ → List Reached} (b : ℕ) (how : BindingMode) → Spends A base image ty l fails deep rs →
      Spends A base image ty (bind_pattern base.bindings h.number b how l) fails deep (λ k. binding h k false 0 0 (some b) ∷ rs k)
  unfolding bind_pattern total
  spends_bind {l = l} {fails = fails} {deep = deep} {rs = rs} b how g =
      let both = spends_within {fails' = fails} {deep' = deep} {rs' = λ k. binding h k false 0 0 (some b) ∷ rs k} (or_only fails) (max-zero deep) (λ k. (le_refl _, g.above k))
      (λ pass k w. let x = total_append (spent pass k w) (rs k) (binding h k false 0 0 (some b) ∷ []) in omega (arith, x)) (λ pass k ls. late pass k ls) (spends_both l _ g (spends_binding h.number b how)) in
      record { above = both.above; goes = both.goes }
    where
      late : (pass : Pass) (k : ℕ) (ls : List ℕ) →
          Alike (marked_in base.bindings pass (binding h k false 0 0 (some b) ∷ rs k) ++ ls) (marked_in base.bindings pass (rs k ++ (binding h k false 0 0 (some b) ∷ [])) ++ ls)
      late pass k ls =
          let own = marked_by base.bindings pass (some b) in
          let below = marked_in base.bindings pass (rs k) in
          alike_on (alike_is (ap (λ (l : List ℕ). (own ++ l) ++ ls) (sym (append-nil below))))
          (alike_on (alike_moved own below [] ls) (alike_is (ap (λ (l : List ℕ). l ++ ls) (sym (marked_append base.bindings pass (rs k) (binding h k false 0 0 (some b) ∷ []))))))

      or_only : (x : Bool) → (x || false) ≡ true → x ≡ true
      or_only true e = refl
      or_only false e = e

  -- a rest
  spends_rest : (front end : ℕ) (rest : RestOf) →
      Spends A base image ty (rest_bound rest base.bindings h.number front end) false (elements_by rest) (λ k. binding h k false 0 0 (binding_by rest) ∷ [])
  unfolding rest_bound binding_by total
  spends_rest front end RestOf.none =
      record {
        above = λ k. (le_refl _, tt);
        goes = λ pass k T F m c current els place at len f room.
            sound_ok (Ends A base T F m pass place 0) _
            (has_as _ (λ w. let a = spent_free (λ k. testing h k false 0 0) (free_testing h) pass k w in omega (arith, a)) room, reach_none pass place at.short);
      }
  spends_rest front end RestOf.ignores =
      record {
        above = λ k. (le_refl _, tt);
        goes = λ pass k T F m c current els place at len f room.
            sound_ok (Ends A base T F m pass place 0) _
            (has_as _ (λ w. let a = spent_free (λ k. testing h k false 0 0) (free_testing h) pass k w in omega (arith, a)) room, reach_none pass place at.short);
      }
  spends_rest front end (RestOf.binds q b how) = record { above = λ k. (le_refl _, tt); goes = by }
    where
      by : (pass : Pass) (k : ℕ) (T : Goal) (F : Bool) (m : Table → ℕ) (c : Ctx) (current : BasicBlockId) (els : OptBlock) (place : Place) → At image base place ty → (A → place.len + 1 ≤ 16) →
          (in_checks pass false ≡ true → F ≡ true) → Fares A base (owing (marked_in base.bindings pass (binding h k false 0 0 (some b) ∷ [])) T) F (λ w. total (spent pass k w) (binding h k false 0 0 (some b) ∷ []) + m w) c els →
          Sound A base (Ends A base T F m pass place 1) (rest_bound (RestOf.binds q b how) base.bindings h.number front end (mode_of pass) c current els place)
      by checks k T F m c current els place at len f room = sound_ok (Ends A base T F m checks place 1) _ (has_by room _ (omega arith) (omega arith) (omega arith) (omega arith), tt)
      by binds k T F m c current els place at len f room =
          sound_step h.number (project place (ProjectionElem.Subslice front end)) _ (sure_project place (ProjectionElem.Subslice front end) 0 len) (λ place' o.
          sound_as (λ r z. (z, reach_back binds place place' 1 0 o.longer (reach_none binds place' o.short)))
          (sound_binding image h.number m c F base.bindings q b how current els place' (fills h b k F m c els room)))

-- as many of each
each_count : {A : Type 0} {base : Origin} {image : List ℕ} {ls : List Lowering} {fs : List (PlaceTy → Bool)} {rs : List Reaching} {ds : List (PlaceTy → ℕ)} → Each A base image ls fs rs ds →
    (length ls ≡ length fs) × (length ls ≡ length rs) × (length ls ≡ length ds)
each_count none_left = (refl, refl, refl)
each_count (one_more_lem c e) = let (a, b, d) = each_count e in (ap suc a, ap suc b, ap suc d)

-- items of one end
spends_items : {A : Type 0} {base : Origin} {image : List ℕ} {ls : List Lowering} {fs : List (PlaceTy → Bool)} {rs : List Reaching} {ds : List (PlaceTy → ℕ)} (p : ℕ) (ty : PlaceTy)
    (elem : ℕ → ℕ → ProjectionElem) → ((n i : ℕ) → Fits (elem n i)) → Each A base image ls fs rs ds → Row A base image ty (pattern_match_adt p (map (elem (length ls)) (up_from 0 (length ls))) ls)
    (zip (map (elem (length fs)) (up_from 0 (length fs))) fs) (zip (map (elem (length ds)) (up_from 0 (length ds))) ds) (zip (map (elem (length rs)) (up_from 0 (length rs))) rs)
spends_items {image = image} {ls = ls} {fs = fs} {rs = rs} {ds = ds} p ty elem fit e =
    let (a, b, d) = each_count e in
    spends_as (ap (λ (n : ℕ). some_argument image ty (zip (map (elem n) (up_from 0 n)) fs)) a) (ap (λ (n : ℕ). most_of_arguments image ty (zip (map (elem n) (up_from 0 n)) ds)) d)
    (λ k. ap (λ (n : ℕ). through_arguments image ty k (zip (map (elem n) (up_from 0 n)) rs)) b) (spends_arguments p (map (elem (length ls)) (up_from 0 (length ls))) ty e (fit_all (elem (length ls)) (fit (length ls)) (up_from 0 (length ls))))

-- what a Slice takes is what its test takes and what its rest does
slice_split : (h : Head) (t s : ℕ) (o : Option ℕ) (pass : Pass) (k : ℕ) (w : Table) →
    spent pass k w (binding h k false t s o) ≡ spent pass k w (binding h k false t s none) + spent pass k w (binding h k false 0 0 o)
slice_split h t s o checks k block = omega arith
slice_split h t s o checks k statement = omega arith
slice_split h t s o checks k local = omega arith
slice_split h t s o checks k entry = omega arith
slice_split h t s o binds k w =
    let a = no_or k (tested w (binding h k false t s o)) in
    let b = no_or k (tested w (binding h k false t s none)) in
    let c = no_or k (tested w (binding h k false 0 0 o)) in
    let d = its w in
    omega (arith, a, b, c, d)
  where
    its : (w : Table) → own w (binding h k false t s o) ≡ own w (binding h k false t s none) + own w (binding h k false 0 0 o)
    its block = omega arith
    its statement = omega arith
    its local = omega arith
    its entry = omega arith

-- the greatest of three, in another order
max_turned : (a b c : ℕ) → max a (max b c) ≡ max b (max a c)
max_turned a b c = le_antisymm (turned a b c) (turned b a c)
  where
    turned : (a b c : ℕ) → max a (max b c) ≤ max b (max a c)
    turned a b c =
        let r = le-max_right b (max a c) in
        max-le (le_trans (le-max_left a c) r) (max-le (le-max_left b (max a c)) (le_trans (le-max_right a c) r))

-- the items in front and at the end
abbrev prefix : {X : Type 0} → List X → List (Argument X)
prefix xs = zip (map (λ i. ProjectionElem.Index i) (up_from 0 (length xs))) xs

abbrev suffix : {X : Type 0} → List X → List (Argument X)
suffix xs = zip (suffix_items (length xs)) xs

module _ {A : Type 0} {base : Origin} {image : List ℕ} {ls ls' : List Lowering} {fs fs' : List (PlaceTy → Bool)} {rs rs' : List Reaching} {ds ds' : List (PlaceTy → ℕ)} (front : Each A base image ls fs rs ds)
    (back : Each A base image ls' fs' rs' ds') (ty : PlaceTy) (h : Head) (rest : RestOf) where
  -- what is reached through them
  abbrev first : ℕ → List Reached
  first k = through_arguments image ty k (prefix rs)

  abbrev last : ℕ → List Reached
  last k = through_arguments image ty k (suffix rs')

  -- how many elements are appended
  abbrev most : ℕ
  most = max (most_of_arguments image ty (prefix ds)) (max (elements_by rest) (most_of_arguments image ty (suffix ds')))

  -- the items in front, the rest, and the items at the end
  spends_inner : Spends A base image ty (slice_items base.bindings h.number ls rest ls') (some_argument image ty (prefix fs) || some_argument image ty (suffix fs')) most
      (λ k. first k ++ (binding h k false 0 0 (binding_by rest) ∷ last k))
  unfolding slice_items
  spends_inner =
      let g = spends_both _ _ (spends_items h.number ty (λ n i. ProjectionElem.Index i) (λ n i. tt) front)
      (spends_both _ _ (spends_rest ty h (length ls) (length ls') rest) (spends_items h.number ty (λ n i. ProjectionElem.IndexFromEnd (n - 1 - i)) (λ n i. tt) back)) in
      record { above = g.above; goes = g.goes }

  -- with what the length's test takes
  slice_as : {l : Lowering} (f : Bool) (t s : ℕ) {deep : ℕ} → deep ≡ most → Spends A base image ty l (f || (some_argument image ty (prefix fs) || some_argument image ty (suffix fs'))) deep
      (λ k. binding h k false t s none ∷ (first k ++ (binding h k false 0 0 (binding_by rest) ∷ last k))) →
      Spends A base image ty l (f || some_argument image ty (slice_arguments fs fs')) (max (elements_by rest) (most_of_arguments image ty (slice_arguments ds ds')))
      (λ k. binding h k false t s (binding_by rest) ∷ through_arguments image ty k (slice_arguments rs rs'))
  unfolding slice_arguments total
  slice_as f t s same g =
      let R = elements_by rest in
      let through : (k : ℕ) → through_arguments image ty k (prefix rs ++ suffix rs') ≡ first k ++ last k = λ k. through_append image ty k (prefix rs) (suffix rs') in
      spends_within (λ e. ap (λ (x : Bool). f || x) (some_argument_append image ty (prefix fs) (suffix fs')) ∙ e)
      (same ∙ max_turned (most_of_arguments image ty (prefix ds)) R (most_of_arguments image ty (suffix ds')) ∙ ap (max R) (most_append image ty (prefix ds) (suffix ds')))
      (λ k. (
        le_refl _,
        subst (AllAbove k) (sym (through k)) (above_append k (first k) (last k) ((spends_items h.number ty (λ n i. ProjectionElem.Index i) (λ n i. tt) front).above k)
            ((spends_items h.number ty (λ n i. ProjectionElem.IndexFromEnd (n - 1 - i)) (λ n i. tt) back).above k)),
      ))
      (λ pass k w.
      let x = total_append (spent pass k w) (first k) (binding h k false 0 0 (binding_by rest) ∷ last k) in
      let y : total (spent pass k w) (through_arguments image ty k (prefix rs ++ suffix rs')) ≡ total (spent pass k w) (first k) + total (spent pass k w) (last k) =
      ap (total (spent pass k w)) (through k) ∙ total_append (spent pass k w) (first k) (last k) in
      let z = slice_split h t s (binding_by rest) pass k w in
      omega (arith, x, y, z))
      (λ pass k ls. late pass k ls)
      g
    where
      late : (pass : Pass) (k : ℕ) (ls : List ℕ) → Alike (marked_in base.bindings pass (binding h k false t s (binding_by rest) ∷ through_arguments image ty k (prefix rs ++ suffix rs')) ++ ls)
          (marked_in base.bindings pass (binding h k false t s none ∷ (first k ++ (binding h k false 0 0 (binding_by rest) ∷ last k))) ++ ls)
      late pass k ls =
          let own = marked_by base.bindings pass (binding_by rest) in
          let marked : List Reached → List ℕ = λ rs. marked_in base.bindings pass rs in
          alike_on (alike_is (ap (λ (l : List ℕ). (own ++ l) ++ ls) (ap marked (through_append image ty k (prefix rs) (suffix rs')) ∙ marked_append base.bindings pass (first k) (last k))))
          (alike_on (alike_moved own (marked (first k)) (marked (last k)) ls)
          (alike_is (ap (λ (l : List ℕ). l ++ ls) (sym (marked_append base.bindings pass (first k) (binding h k false 0 0 (binding_by rest) ∷ last k))))))

  -- the length's test
  spends_length : (n : ℕ) → Spends A base image ty (λ mode c current els place. in_check mode (length_test rest image h.number n c current els place) (out c current els)) true 0
      (λ k. binding h k false 1 (statements_by rest) none ∷ [])
  unfolding total
  spends_length n =
      spends_test true (λ k. binding h k false 1 (statements_by rest) none) (λ c current els place. length_test rest image h.number n c current els place) (idle_testing h 1 (statements_by rest))
      (λ k T F m c current els place f room.
      sound_length image h.number m c F rest n current els place (f refl) (has_by room _ (omega arith) (omega arith) (omega arith) (omega arith)))

  -- of what is no slice nothing is tested
  spends_array : Spends A base image ty (slice_items base.bindings h.number ls rest ls') (some_argument image ty (slice_arguments fs fs')) (max (elements_by rest) (most_of_arguments image ty (slice_arguments ds ds')))
      (λ k. binding h k false 0 0 (binding_by rest) ∷ through_arguments image ty k (slice_arguments rs rs'))
  spends_array = slice_as false 0 0 refl (spends_under (λ k. binding h k false 0 0 none) (free_testing h) spends_inner)

  -- a Slice by its own type
  -- a Slice spends what it does where n statements test its length and o is bound
  abbrev pub Sliced : Shape → ℕ → Option ℕ → Type 0
  Sliced s n o =
      Spends A base image ty (slice_on s image base.bindings h.number ls rest ls') (is_slice_shape s || some_argument image ty (slice_arguments fs fs'))
      (max (if_there o (λ b. 1) 0) (most_of_arguments image ty (slice_arguments ds ds')))
      (λ k. binding h k false (cond (is_slice_shape s) 1 0) (cond (is_slice_shape s) n 0) o ∷ through_arguments image ty k (slice_arguments rs rs'))

  spends_slice : (s : Shape) → Sliced s (statements_by rest) (binding_by rest)
  unfolding slice_on is_slice_shape
  spends_slice (array t n) = record { above = spends_array.above; goes = spends_array.goes }
  spends_slice (slice t) =
      let g = slice_as true 1 (statements_by rest) (zero-max most) (spends_both _ _ (spends_length (length ls + length ls')) spends_inner) in
      record { above = g.above; goes = g.goes }
  spends_slice (integer size signed) = let g = spends_refused (MirLowerError.TypeError 2) h.number tt spends_array.above in record { above = g.above; goes = g.goes }
  spends_slice bool = let g = spends_refused (MirLowerError.TypeError 2) h.number tt spends_array.above in record { above = g.above; goes = g.goes }
  spends_slice char = let g = spends_refused (MirLowerError.TypeError 2) h.number tt spends_array.above in record { above = g.above; goes = g.goes }
  spends_slice str = let g = spends_refused (MirLowerError.TypeError 2) h.number tt spends_array.above in record { above = g.above; goes = g.goes }
  spends_slice (tuple fields) = let g = spends_refused (MirLowerError.TypeError 2) h.number tt spends_array.above in record { above = g.above; goes = g.goes }
  spends_slice (adt kind variants) = let g = spends_refused (MirLowerError.TypeError 2) h.number tt spends_array.above in record { above = g.above; goes = g.goes }
  spends_slice (reference t) = let g = spends_refused (MirLowerError.TypeError 2) h.number tt spends_array.above in record { above = g.above; goes = g.goes }
  spends_slice unknown = let g = spends_refused (MirLowerError.TypeError 2) h.number tt spends_array.above in record { above = g.above; goes = g.goes }

  pub spends_slice_as : (s : Shape) (n : ℕ) (o : Option ℕ) → statements_by rest ≡ n → binding_by rest ≡ o → Sliced s n o
  spends_slice_as s n o p q = subst (λ (m : ℕ). Sliced s m o) p (subst (λ (x : Option ℕ). Sliced s (statements_by rest) x) q (spends_slice s))
