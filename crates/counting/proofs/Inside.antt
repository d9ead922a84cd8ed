-- Each kind of pattern, behind its derefs, adds what is counted of it. Assumes nothing.
use mathlib.Core.Path.{sym, subst}
use mathlib.Core.Bool.{Bool, false}
use mathlib.Core.Option.{Option, none, some}
use mathlib.Core.List.{List, [], ◌∷◌}
use Prim.Native.Nat.{ℕ}
use lib.ListN.{length}
use Rattle.image.specs.Types.{Shape, integer, bool, char, str, tuple, adt, reference, array, slice, unknown}
use Rattle.image.specs.Tree.{Head}
use Rattle.refusals.specs.declared.MirLowerError.{MirLowerError}
use Rattle.place.specs.declared.Place.{Place}
use Rattle.place.specs.declared.elems.ProjectionElem.{ProjectionElem}
use Rattle.place.specs.declared.place_ty.PlaceTy.{PlaceTy}
use Rattle.place.specs.PlaceTypes.{projection_ty}
use Rattle.mir.specs.declared.BasicBlockId.{BasicBlockId}
use Rattle.lower_spec.specs.Results.{OptBlock}
use Rattle.pattern_matching.specs.Walking.{Ctx, Out, Lowering, project, visited, entered}
use Rattle.pattern_matching.specs.Variants.{place_ty, shape_of, needed, tuple_on, tuple_pattern, ref_on, ref_pattern}
use Rattle.pattern_matching.specs.Patterns.{refusing, passing}
use Rattle.cases_spec.specs.Cases.{tuple_fields}
use Rattle.counting.specs.Reaching.{behind_derefs, in_a_row, field_count, some_argument, Reaching, testing, through_arguments}
use Rattle.counting.proofs.Holding.{Holds, holds, refuses, holds_step, holds_as}
use Rattle.counting.proofs.Going.{visit}
use Rattle.counting.proofs.Passing.{Pass, mode_of, After, after_more, after_plain}
use Rattle.counting.proofs.Typed.{On, on_project, holds_entered}
use Rattle.counting.proofs.Arguments.{Counts, Each}
use Rattle.counting.proofs.Rows.{AfterArguments, holds_row}

-- a lowering adds what is counted, from a visit to its pattern on and on a place behind its derefs
pub record Inside (image : List ℕ) (h : Head) (l : Lowering) (fails : PlaceTy → Bool) (reach : Reaching) : Type 0 where
  pub goes : (pass : Pass) (c : Ctx) (current : BasicBlockId) (els : OptBlock) (place : Place) (ty : PlaceTy) (k : ℕ) (f : Bool) → On image (visited c h.number) place ty →
      Holds (After pass c els (fails ty) k f (reach ty k f)) (l (mode_of pass) (visited c h.number) current els place)

-- a pattern is entered
pub counts_entered : {image : List ℕ} {h : Head} {l : Lowering} {fails : PlaceTy → Bool} {reach : Reaching} → Inside image h l fails reach →
    Counts image (entered h.number h.derefs l) (λ ty. fails (behind_derefs image ty h.derefs)) (λ ty k f. reach (behind_derefs image ty h.derefs) k f)
counts_entered {image = image} {h = h} {l = l} i =
    record {
      goes = λ pass c current els place ty k f o.
          holds_entered h.number h.derefs l (mode_of pass) current els place ty o (λ place' o'. i.goes pass c current els place' (behind_derefs image ty h.derefs) k f o');
    }

-- nothing to test, and nothing to bind
pub inside_wild : (image : List ℕ) (h : Head) → Inside image h passing (λ ty. false) (λ ty k f. testing h k f 0 0 ∷ [])
inside_wild image h = record { goes = λ pass c current els place ty k f o. holds (After pass c els false k f (testing h k f 0 0 ∷ [])) _ (after_plain pass h k f c current els) }

-- refused whenever it is reached
pub inside_refused : (image : List ℕ) (h : Head) (e : MirLowerError) (fails : PlaceTy → Bool) (reach : Reaching) → Inside image h (refusing e h.number) fails reach
inside_refused image h e fails reach = record { goes = λ pass c current els place ty k f o. refuses (After pass c els (fails ty) k f (reach ty k f)) e h.number }

-- a Tuple
pub inside_tuple : {image : List ℕ} {ls : List Lowering} {fs : List (PlaceTy → Bool)} {rs : List Reaching} (h : Head) (ellipsis : Option ℕ) → Each image ls fs rs →
    Inside image h (tuple_pattern image h.number ls ellipsis) (λ ty. some_argument image ty (in_a_row ellipsis (field_count (shape_of image ty)) fs))
    (λ ty k f. testing h k f 0 0 ∷ through_arguments image ty k (in_a_row ellipsis (field_count (shape_of image ty)) rs))
unfolding tuple_pattern tuple_on field_count tuple_fields
inside_tuple {image = image} {ls = ls} {fs = fs} {rs = rs} h ellipsis e =
    record {
      goes = λ pass c current els place ty k f o.
          subst (λ (t : PlaceTy). Holds (Tuples pass c els ty k f (shape_of image ty)) (needed h.number (shape_of image t) (λ s. tuple_on s h.number ls ellipsis (mode_of pass) (visited c h.number) current els place)))
          (sym o.typed) (by pass c current els place ty k f (shape_of image ty) o);
    }
  where
    Tuples : Pass → Ctx → OptBlock → PlaceTy → ℕ → Bool → Option Shape → Out → Type 0
    Tuples pass c els ty k f s r =
        After pass c els (some_argument image ty (in_a_row ellipsis (field_count s) fs)) k f (testing h k f 0 0 ∷ through_arguments image ty k (in_a_row ellipsis (field_count s) rs)) r

    by : (pass : Pass) (c : Ctx) (current : BasicBlockId) (els : OptBlock) (place : Place) (ty : PlaceTy) (k : ℕ) (f : Bool) (s : Option Shape) → On image (visited c h.number) place ty →
        Holds (Tuples pass c els ty k f s) (needed h.number s (λ s. tuple_on s h.number ls ellipsis (mode_of pass) (visited c h.number) current els place))
    by pass c current els place ty k f none o = refuses (Tuples pass c els ty k f none) MirLowerError.PlaceType h.number
    by pass c current els place ty k f (some (integer size signed)) o = refuses (Tuples pass c els ty k f (some (integer size signed))) (MirLowerError.TypeError 1) h.number
    by pass c current els place ty k f (some bool) o = refuses (Tuples pass c els ty k f (some bool)) (MirLowerError.TypeError 1) h.number
    by pass c current els place ty k f (some char) o = refuses (Tuples pass c els ty k f (some char)) (MirLowerError.TypeError 1) h.number
    by pass c current els place ty k f (some str) o = refuses (Tuples pass c els ty k f (some str)) (MirLowerError.TypeError 1) h.number
    by pass c current els place ty k f (some (tuple fields)) o =
        let visit = after_plain pass h k f c current els in
        holds_as {P = AfterArguments image pass (visited c h.number) els ty k (in_a_row ellipsis (length fields) fs) (in_a_row ellipsis (length fields) rs)} (λ r a. after_more visit a)
        (holds_row image h.number (length fields) pass (visited c h.number) current els place ty k ellipsis e o)
    by pass c current els place ty k f (some (adt kind variants)) o = refuses (Tuples pass c els ty k f (some (adt kind variants))) (MirLowerError.TypeError 1) h.number
    by pass c current els place ty k f (some (reference t)) o = refuses (Tuples pass c els ty k f (some (reference t))) (MirLowerError.TypeError 1) h.number
    by pass c current els place ty k f (some (array t n)) o = refuses (Tuples pass c els ty k f (some (array t n))) (MirLowerError.TypeError 1) h.number
    by pass c current els place ty k f (some (slice t)) o = refuses (Tuples pass c els ty k f (some (slice t))) (MirLowerError.TypeError 1) h.number
    by pass c current els place ty k f (some unknown) o = refuses (Tuples pass c els ty k f (some unknown)) (MirLowerError.TypeError 1) h.number

-- a Ref
pub inside_ref : {image : List ℕ} {l : Lowering} {fails : PlaceTy → Bool} {reach : Reaching} (h : Head) → Counts image l fails reach →
    Inside image h (ref_pattern image h.number l) (λ ty. fails (projection_ty ty image ProjectionElem.Deref)) (λ ty k f. testing h k f 0 0 ∷ reach (projection_ty ty image ProjectionElem.Deref) k false)
unfolding ref_pattern ref_on
inside_ref {image = image} {l = l} {fails = fails} {reach = reach} h counts =
    record { goes = λ pass c current els place ty k f o. by pass c current els place ty k f (shape_of image (place_ty image (visited c h.number).state place)) o }
  where
    Refs : Pass → Ctx → OptBlock → PlaceTy → ℕ → Bool → Out → Type 0
    Refs pass c els ty k f r = After pass c els (fails (projection_ty ty image ProjectionElem.Deref)) k f (testing h k f 0 0 ∷ reach (projection_ty ty image ProjectionElem.Deref) k false) r

    by : (pass : Pass) (c : Ctx) (current : BasicBlockId) (els : OptBlock) (place : Place) (ty : PlaceTy) (k : ℕ) (f : Bool) (s : Option Shape) → On image (visited c h.number) place ty →
        Holds (Refs pass c els ty k f) (needed h.number s (λ s. ref_on s h.number l (mode_of pass) (visited c h.number) current els place))
    by pass c current els place ty k f none o = refuses (Refs pass c els ty k f) MirLowerError.PlaceType h.number
    by pass c current els place ty k f (some (integer size signed)) o = refuses (Refs pass c els ty k f) (MirLowerError.TypeError 3) h.number
    by pass c current els place ty k f (some bool) o = refuses (Refs pass c els ty k f) (MirLowerError.TypeError 3) h.number
    by pass c current els place ty k f (some char) o = refuses (Refs pass c els ty k f) (MirLowerError.TypeError 3) h.number
    by pass c current els place ty k f (some str) o = refuses (Refs pass c els ty k f) (MirLowerError.TypeError 3) h.number
    by pass c current els place ty k f (some (tuple fields)) o = refuses (Refs pass c els ty k f) (MirLowerError.TypeError 3) h.number
    by pass c current els place ty k f (some (adt kind variants)) o = refuses (Refs pass c els ty k f) (MirLowerError.TypeError 3) h.number
    by pass c current els place ty k f (some (reference t)) o =
        let visit = after_plain pass h k f c current els in
        let ty' = projection_ty ty image ProjectionElem.Deref in
        holds_step h.number (project place ProjectionElem.Deref) (λ place'. l (mode_of pass) (visited c h.number) current els place') (on_project ProjectionElem.Deref tt o) (λ place' o'.
        holds_as (λ r a. after_more visit a) (counts.goes pass (visited c h.number) current els place' ty' k false o'))
    by pass c current els place ty k f (some (array t n)) o = refuses (Refs pass c els ty k f) (MirLowerError.TypeError 3) h.number
    by pass c current els place ty k f (some (slice t)) o = refuses (Refs pass c els ty k f) (MirLowerError.TypeError 3) h.number
    by pass c current els place ty k f (some unknown) o = refuses (Refs pass c els ty k f) (MirLowerError.TypeError 3) h.number
