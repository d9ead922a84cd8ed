-- Bind patterns and Slice patterns add what is counted of them. Assumes nothing.
use mathlib.Core.Path.{◌≡◌, refl, sym, ap, subst, ◌∙◌}
use mathlib.Core.Bool.{Bool, true, false, cond, ◌||◌, or_assoc}
use mathlib.Core.Option.{none, some}
use mathlib.Core.List.{List, [], ◌∷◌, ◌++◌, map}
use Prim.Native.Nat.{ℕ, suc, ◌+◌, ◌-◌, ◌≤◌}
use native.Mathlib.Omega.{arith}
use lib.ListN.{length}
use Rattle.image.specs.declared.kinds.BindingMode.{BindingMode}
use Rattle.image.specs.Lists.{up_from}
use Rattle.image.specs.Types.{Shape, integer, bool, char, str, tuple, adt, reference, array, slice, unknown}
use Rattle.image.specs.Tree.{Head}
use Rattle.refusals.specs.declared.MirLowerError.{MirLowerError}
use Rattle.place.specs.declared.LocalId.{LocalId}
use Rattle.place.specs.declared.Place.{Place}
use Rattle.place.specs.declared.elems.ProjectionElem.{ProjectionElem}
use Rattle.place.specs.declared.place_ty.PlaceTy.{PlaceTy}
use Rattle.place.specs.Elems.{Fits}
use Rattle.mir.specs.declared.BasicBlockId.{BasicBlockId}
use Rattle.mir.specs.Rvalues.{place_rvalue_row}
use Rattle.state.specs.State.{State}
use Rattle.state.specs.Steps.{try_statement}
use Rattle.lower_spec.specs.Results.{OptBlock}
use Rattle.lower_spec.specs.Temps.{is_held, binding_local, push_storage_live_for_local}
use Rattle.pattern_matching.specs.Walking.{Ctx, Out, Walk, ok, Lowering, next, step, out, with_state, project, visited, in_check}
use Rattle.pattern_matching.specs.Tests.{binding_rvalue, pattern_match_binding}
use Rattle.pattern_matching.specs.Variants.{pattern_match_adt}
use Rattle.pattern_matching.specs.Slices.{RestOf, length_test, rest_bound, slice_items, slice_on, suffix_items}
use Rattle.pattern_matching.specs.Patterns.{bind_pattern}
use Rattle.counting.specs.Reaching.{Argument, zip, slice_arguments, some_argument, is_slice_shape, binding, Reaching, Reached, through_arguments}
use Rattle.counting.specs.Counting.{bind_statements}
use Rattle.counting.proofs.Rests.{statements_by, binding_by}
use Rattle.counting.proofs.Holding.{Holds, holds, refuses, holds_next, holds_step, holds_as}
use Rattle.counting.proofs.Going.{built_on, built_none, went_built, nothing, made}
use Rattle.counting.proofs.Building.{gives_live, gives_statement}
use Rattle.counting.proofs.Stepping.{Steps, steps_plain}
use Rattle.counting.proofs.Passing.{Pass, checks, binds, mode_of, Small, After, late_in, after_more, after_head, after_plain, after_late}
use Rattle.counting.proofs.Typed.{On, on_went, on_unvisited}
use Rattle.counting.proofs.Testing.{anything, holds_length}
use Rattle.counting.proofs.Arguments.{Each, none_left, one_more_lem, fit_all, on_after, holds_arguments}
use Rattle.counting.proofs.Rows.{AfterArguments, through_append, some_argument_append}

-- nothing is added
steps_none : (c : Ctx) (current : BasicBlockId) (els : OptBlock) → Steps c els (record { ctx = c; then = current; else = els }) false nothing (made 0 0)
steps_none c current els = steps_plain current els (went_built (built_none _) refl)

-- a binding is filled: two statements
pub holds_binding : (bindings : List ℕ) (p q b : ℕ) (how : BindingMode) (c : Ctx) (current : BasicBlockId) (els : OptBlock) (place : Place) →
    Holds (λ r. Steps c els r false nothing (made 0 2)) (pattern_match_binding bindings p q b how c current els place)
unfolding pattern_match_binding
holds_binding bindings p q b how c current els place =
    holds_step q (binding_local bindings b) k₁ (anything (binding_local bindings b)) (λ l _.
    holds_step p (push_storage_live_for_local c.state l current) (k₂ l) (gives_live (is_held c.state l) c.state l current) (λ st₁ g₁.
    holds_step p (try_statement st₁ (row l)) k₃ (gives_statement st₁ (row l)) (λ st₂ g₂.
    holds (λ r. Steps c els r false nothing (made 0 2)) _ (steps_plain current els (went_built (built_on g₁ g₂) refl)))))
  where
    row : LocalId → List ℕ
    row l = place_rvalue_row current l (binding_rvalue how) place

    k₃ : State → Walk Out
    k₃ st₂ = out (with_state c st₂) current els

    k₂ : LocalId → State → Walk Out
    k₂ l st₁ = step p (try_statement st₁ (row l)) k₃

    k₁ : LocalId → Walk Out
    k₁ l = step p (push_storage_live_for_local c.state l current) (k₂ l)

-- a Bind: its subpattern, and then, beyond Check, the binding
pub holds_bind : (bindings : List ℕ) (h : Head) (b : ℕ) (how : BindingMode) (subpattern : Lowering) (pass : Pass) (c : Ctx) (current : BasicBlockId) (els : OptBlock) (place : Place) (fails : Bool) (k : ℕ)
    (f : Bool) (rs : List Reached) → Holds (After pass (visited c h.number) els fails k false rs) (subpattern (mode_of pass) (visited c h.number) current els place) →
    Holds (After pass c els fails k f (binding h k f 0 0 (some b) ∷ rs)) (bind_pattern bindings h.number b how subpattern (mode_of pass) (visited c h.number) current els place)
unfolding bind_pattern
holds_bind bindings h b how subpattern pass c current els place fails k f rs below =
    holds_next (subpattern (mode_of pass) (visited c h.number) current els place) last below (λ r a.
    holds_as (λ r' s. after_late h 0 0 (some b) (after_more (after_plain pass h k f c current els) a) s) (late pass r))
  where
    last : Out → Walk Out
    last r = in_check (mode_of pass) (ok r) (pattern_match_binding bindings h.number h.number b how r.ctx r.then r.else place)

    late : (pass : Pass) (r : Out) → Holds (λ r'. Steps r.ctx r.else r' false nothing (made 0 (late_in pass 2)))
        (in_check (mode_of pass) (ok r) (pattern_match_binding bindings h.number h.number b how r.ctx r.then r.else place))
    late checks r = holds (λ r'. Steps r.ctx r.else r' false nothing (made 0 0)) r (steps_none r.ctx r.then r.else)
    late binds r = holds_binding bindings h.number h.number b how r.ctx r.then r.else place

-- a rest that binds is filled in Bind
holds_rest : (rest : RestOf) (bindings : List ℕ) (p front end : ℕ) (pass : Pass) (c : Ctx) (current : BasicBlockId) (els : OptBlock) (place : Place) →
    Holds (λ r. Steps c els r false nothing (made 0 (late_in pass (bind_statements (binding_by rest))))) (rest_bound rest bindings p front end (mode_of pass) c current els place)
unfolding rest_bound binding_by
holds_rest RestOf.none bindings p front end checks c current els place = holds (λ r. Steps c els r false nothing (made 0 0)) _ (steps_none c current els)
holds_rest RestOf.none bindings p front end binds c current els place = holds (λ r. Steps c els r false nothing (made 0 0)) _ (steps_none c current els)
holds_rest RestOf.ignores bindings p front end checks c current els place = holds (λ r. Steps c els r false nothing (made 0 0)) _ (steps_none c current els)
holds_rest RestOf.ignores bindings p front end binds c current els place = holds (λ r. Steps c els r false nothing (made 0 0)) _ (steps_none c current els)
holds_rest (RestOf.binds q b how) bindings p front end checks c current els place = holds (λ r. Steps c els r false nothing (made 0 0)) _ (steps_none c current els)
holds_rest (RestOf.binds q b how) bindings p front end binds c current els place =
    holds_step p (project place (ProjectionElem.Subslice front end)) (λ place'. pattern_match_binding bindings p q b how c current els place')
    (anything (project place (ProjectionElem.Subslice front end))) (λ place' _. holds_binding bindings p q b how c current els place')

-- as many that can fail as lowerings
each_fails : {image : List ℕ} {ls : List Lowering} {fs : List (PlaceTy → Bool)} {rs : List Reaching} → Each image ls fs rs → length ls ≡ length fs
each_fails none_left = refl
each_fails (one_more_lem h e) = ap suc (each_fails e)

-- as many that are reached
each_reach : {image : List ℕ} {ls : List Lowering} {fs : List (PlaceTy → Bool)} {rs : List Reaching} → Each image ls fs rs → length ls ≡ length rs
each_reach none_left = refl
each_reach (one_more_lem h e) = ap suc (each_reach e)

-- items of a Slice, each at its index
holds_indexed : {image : List ℕ} {ls : List Lowering} {fs : List (PlaceTy → Bool)} {rs : List Reaching} (p : ℕ) (index : ℕ → ℕ → ProjectionElem) → ((n i : ℕ) → Fits (index n i)) →
    Each image ls fs rs → (pass : Pass) (c : Ctx) (current : BasicBlockId) (els : OptBlock) (place : Place) (ty : PlaceTy) (k : ℕ) → On image c place ty →
    Holds (AfterArguments image pass c els ty k (zip (map (index (length fs)) (up_from 0 (length fs))) fs) (zip (map (index (length rs)) (up_from 0 (length rs))) rs))
    (pattern_match_adt p (map (index (length ls)) (up_from 0 (length ls))) ls (mode_of pass) c current els place)
holds_indexed {image = image} {ls = ls} {fs = fs} {rs = rs} p index fit e pass c current els place ty k o =
    subst (λ (n : ℕ). Holds (AfterArguments image pass c els ty k (zip (map (index n) (up_from 0 n)) fs) (zip (map (index (length rs)) (up_from 0 (length rs))) rs)) (pattern_match_adt p (map (index (length ls)) (up_from 0 (length ls))) ls (mode_of pass) c current els place)) (each_fails e)
    (subst (λ (n : ℕ). Holds (AfterArguments image pass c els ty k (zip (map (index (length ls)) (up_from 0 (length ls))) fs) (zip (map (index n) (up_from 0 n)) rs)) (pattern_match_adt p (map (index (length ls)) (up_from 0 (length ls))) ls (mode_of pass) c current els place)) (each_reach e)
    (holds_arguments p (map (index (length ls)) (up_from 0 (length ls))) e (fit_all (index (length ls)) (fit (length ls)) (up_from 0 (length ls))) pass c current els place ty k o))

module _ {image : List ℕ} {ls ls' : List Lowering} {fs fs' : List (PlaceTy → Bool)} {rs rs' : List Reaching} (front : Each image ls fs rs) (back : Each image ls' fs' rs') (bindings : List ℕ) (h : Head)
    (rest : RestOf) (pass : Pass) (c : Ctx) (els : OptBlock) (place : Place) (ty : PlaceTy) (k : ℕ) (f : Bool) where
  -- the arguments in front
  abbrev front_of : {A : Type 0} → List A → List (Argument A)
  front_of xs = zip (map (λ i. ProjectionElem.Index i) (up_from 0 (length xs))) xs

  -- those at the end
  abbrev back_of : {A : Type 0} → List A → List (Argument A)
  back_of xs = zip (suffix_items (length xs)) xs

  -- the items in front, the rest, and the items at the end, behind the pattern's own visit
  holds_items : (fails : Bool) (t s : ℕ) (r : Out) → After pass c els fails k f (binding h k f t s none ∷ []) r → On image r.ctx place ty →
      Holds (After pass c els (fails || some_argument image ty (slice_arguments fs fs')) k f (binding h k f t s (binding_by rest) ∷ through_arguments image ty k (slice_arguments rs rs')))
      (slice_items bindings h.number ls rest ls' (mode_of pass) r.ctx r.then r.else place)
  unfolding slice_items slice_arguments
  holds_items fails t s r a o =
      holds_next (pattern_match_adt h.number (map (λ i. ProjectionElem.Index i) (up_from 0 (length ls))) ls (mode_of pass) r.ctx r.then r.else place) k₁
      (holds_indexed h.number (λ n i. ProjectionElem.Index i) (λ n i. tt) front pass r.ctx r.then r.else place ty k o) (λ r₁ a₁.
      holds_next (rest_bound rest bindings h.number (length ls) (length ls') (mode_of pass) r₁.ctx r₁.then r₁.else place) k₂
      (holds_rest rest bindings h.number (length ls) (length ls') pass r₁.ctx r₁.then r₁.else place) (λ r₂ s₂.
      let x = after_late h t s (binding_by rest) (after_more a a₁) s₂ in
      holds_as (λ r₃ a₃. whole r₃ (after_more x a₃))
      (holds_indexed h.number (λ n i. ProjectionElem.IndexFromEnd (n - 1 - i)) (λ n i. tt) back pass r₂.ctx r₂.then r₂.else place ty k (on_went s₂.went (on_after a₁ o)))))
    where
      k₂ : Out → Walk Out
      k₂ r₂ = pattern_match_adt h.number (suffix_items (length ls')) ls' (mode_of pass) r₂.ctx r₂.then r₂.else place

      k₁ : Out → Walk Out
      k₁ r₁ = next (rest_bound rest bindings h.number (length ls) (length ls') (mode_of pass) r₁.ctx r₁.then r₁.else place) k₂

      whole : (r₃ : Out) →
          After pass c els (fails || some_argument image ty (front_of fs) || some_argument image ty (back_of fs')) k f
          (binding h k f t s (binding_by rest) ∷ (through_arguments image ty k (front_of rs) ++ through_arguments image ty k (back_of rs'))) r₃ →
          After pass c els (fails || some_argument image ty (front_of fs ++ back_of fs')) k f (binding h k f t s (binding_by rest) ∷ through_arguments image ty k (front_of rs ++ back_of rs')) r₃
      whole r₃ a₃ =
          subst (λ (l : List Reached). After pass c els (fails || some_argument image ty (front_of fs ++ back_of fs')) k f (binding h k f t s (binding_by rest) ∷ l) r₃) (sym (through_append image ty k (front_of rs) (back_of rs')))
          (subst (λ (x : Bool). After pass c els x k f (binding h k f t s (binding_by rest) ∷ (through_arguments image ty k (front_of rs) ++ through_arguments image ty k (back_of rs'))) r₃)
          (or_assoc fails (some_argument image ty (front_of fs)) (some_argument image ty (back_of fs')) ∙ ap (λ (x : Bool). fails || x) (sym (some_argument_append image ty (front_of fs) (back_of fs')))) a₃)

  -- what a Slice adds, its length tested or not
  abbrev Slices : Bool → Out → Type 0
  Slices tested r =
      After pass c els (tested || some_argument image ty (slice_arguments fs fs')) k f
      (binding h k f (cond tested 1 0) (cond tested (statements_by rest) 0) (binding_by rest) ∷ through_arguments image ty k (slice_arguments rs rs')) r

  -- the test of a slice's length
  length_tested : (current : BasicBlockId) (n : ℕ) → Holds (After pass c els true k f (binding h k f 1 (statements_by rest) none ∷ []))
      (in_check (mode_of pass) (length_test rest image h.number n (visited c h.number) current els place) (out (visited c h.number) current els))
  unfolding statements_by
  length_tested current n = by pass
    where
      few : (rest : RestOf) → statements_by rest ≤ 4
      few RestOf.none = omega arith
      few (RestOf.binds q b how) = omega arith
      few RestOf.ignores = omega arith

      x : Reached
      x = binding h k f 1 (statements_by rest) none

      small : Small x
      small = record { tests = omega arith; test_statements = few rest }

      by : (pass : Pass) → Holds (After pass c els true k f (x ∷ []))
          (in_check (mode_of pass) (length_test rest image h.number n (visited c h.number) current els place) (out (visited c h.number) current els))
      by checks = holds_as (λ r s. after_head checks x small s) (holds_length rest image h.number n (visited c h.number) current els place)
      by binds = holds (After binds c els true k f (x ∷ [])) _ (after_head binds x small (steps_none (visited c h.number) current els))

  -- a Slice pattern by its own type
  pub holds_slice : (shape : Shape) (current : BasicBlockId) → On image (visited c h.number) place ty → Holds (Slices (is_slice_shape shape)) (slice_on shape image bindings h.number ls rest ls' (mode_of pass) (visited c h.number) current els place)
  unfolding slice_on is_slice_shape
  holds_slice (integer size signed) current o = refuses (Slices false) (MirLowerError.TypeError 2) h.number
  holds_slice bool current o = refuses (Slices false) (MirLowerError.TypeError 2) h.number
  holds_slice char current o = refuses (Slices false) (MirLowerError.TypeError 2) h.number
  holds_slice str current o = refuses (Slices false) (MirLowerError.TypeError 2) h.number
  holds_slice (tuple fields) current o = refuses (Slices false) (MirLowerError.TypeError 2) h.number
  holds_slice (adt kind variants) current o = refuses (Slices false) (MirLowerError.TypeError 2) h.number
  holds_slice (reference t) current o = refuses (Slices false) (MirLowerError.TypeError 2) h.number
  holds_slice (array t n) current o = holds_items false 0 0 _ (after_plain pass h k f c current els) o
  holds_slice (slice t) current o =
      holds_next (in_check (mode_of pass) (length_test rest image h.number (length ls + length ls') (visited c h.number) current els place) (out (visited c h.number) current els))
      (λ r. slice_items bindings h.number ls rest ls' (mode_of pass) r.ctx r.then r.else place) (length_tested current (length ls + length ls')) (λ r a.
      holds_items true 1 (statements_by rest) r a (on_after a (on_unvisited h.number o)))
  holds_slice unknown current o = refuses (Slices false) (MirLowerError.TypeError 2) h.number
