-- Patterns in a row, each on its part of a place, add what each of them adds. Assumes nothing.
use mathlib.Core.Bool.{Bool, false}
use mathlib.Core.List.{List, [], ◌∷◌, map, reverse, reverse_aux}
use Prim.Native.Nat.{ℕ, zero, suc}
use lib.ListN.{take, drop}
use Rattle.place.specs.declared.Place.{Place}
use Rattle.place.specs.declared.elems.ProjectionElem.{ProjectionElem}
use Rattle.place.specs.declared.place_ty.PlaceTy.{PlaceTy}
use Rattle.place.specs.Elems.{Fits}
use Rattle.place.specs.PlaceTypes.{projection_ty, multi_projection_ty}
use Rattle.mir.specs.declared.BasicBlockId.{BasicBlockId}
use Rattle.lower_spec.specs.Results.{OptBlock}
use Rattle.pattern_matching.specs.Walking.{Ctx, Out, Walk, Lowering, next, project}
use Rattle.pattern_matching.specs.Variants.{pattern_match_adt}
use Rattle.counting.specs.Reaching.{zip, some_argument, Reaching, Reached, through_arguments}
use Rattle.counting.proofs.Holding.{Holds, holds, holds_next, holds_step, holds_as}
use Rattle.counting.proofs.Typed.{On, on_went, on_project}
use Rattle.counting.proofs.Passing.{Pass, mode_of, After, after_none, after_more}

-- a lowering adds what is counted of the patterns that it reaches
pub record Counts (image : List ℕ) (l : Lowering) (fails : PlaceTy → Bool) (reach : Reaching) : Type 0 where
  pub goes : (pass : Pass) (c : Ctx) (current : BasicBlockId) (els : OptBlock) (place : Place) (ty : PlaceTy) (k : ℕ) (f : Bool) → On image c place ty →
      Holds (After pass c els (fails ty) k f (reach ty k f)) (l (mode_of pass) c current els place)

-- each of a row of lowerings does
pub data Each (image : List ℕ) : List Lowering → List (PlaceTy → Bool) → List Reaching → Type 0 where
  none_left : Each image [] [] []
  one_more_lem : {l : Lowering} {fails : PlaceTy → Bool} {reach : Reaching} {ls : List Lowering} {fs : List (PlaceTy → Bool)} {rs : List Reaching} → Counts image l fails reach →
      Each image ls fs rs → Each image (l ∷ ls) (fails ∷ fs) (reach ∷ rs)

-- the first n of a row
pub each_take : {image : List ℕ} {ls : List Lowering} {fs : List (PlaceTy → Bool)} {rs : List Reaching} (n : ℕ) → Each image ls fs rs → Each image (take n ls) (take n fs) (take n rs)
each_take zero e = none_left
each_take (suc n) none_left = none_left
each_take (suc n) (one_more_lem c e) = one_more_lem c (each_take n e)

-- those behind them
pub each_drop : {image : List ℕ} {ls : List Lowering} {fs : List (PlaceTy → Bool)} {rs : List Reaching} (n : ℕ) → Each image ls fs rs → Each image (drop n ls) (drop n fs) (drop n rs)
each_drop zero e = e
each_drop (suc n) none_left = none_left
each_drop (suc n) (one_more_lem c e) = each_drop n e

-- a row backwards, before another
each_onto : {image : List ℕ} {ls ls' : List Lowering} {fs fs' : List (PlaceTy → Bool)} {rs rs' : List Reaching} → Each image ls fs rs → Each image ls' fs' rs' →
    Each image (reverse_aux ls ls') (reverse_aux fs fs') (reverse_aux rs rs')
each_onto none_left e' = e'
each_onto (one_more_lem c e) e' = each_onto e (one_more_lem c e')

-- a row backwards
pub each_reverse : {image : List ℕ} {ls : List Lowering} {fs : List (PlaceTy → Bool)} {rs : List Reaching} → Each image ls fs rs → Each image (reverse ls) (reverse fs) (reverse rs)
each_reverse e = each_onto e none_left

-- each element has a word
abbrev pub AllFit : List ProjectionElem → Type 0
AllFit [] = Unit {0}
AllFit (elem ∷ elems) = Fits elem × AllFit elems

-- elements backwards, before others
fit_onto : (xs ys : List ProjectionElem) → AllFit xs → AllFit ys → AllFit (reverse_aux xs ys)
fit_onto [] ys h k = k
fit_onto (x ∷ xs) ys h k = fit_onto xs (x ∷ ys) h.1 (h.0, k)

-- elements backwards
pub fit_reverse : (xs : List ProjectionElem) → AllFit xs → AllFit (reverse xs)
fit_reverse xs h = fit_onto xs [] h tt

-- elements of one kind
pub fit_all : (g : ℕ → ProjectionElem) → ((i : ℕ) → Fits (g i)) → (is : List ℕ) → AllFit (map g is)
fit_all g h [] = tt
fit_all g h (i ∷ is) = (h i, fit_all g h is)

-- a place is of its type after a pass, too
pub on_after : {image : List ℕ} {pass : Pass} {c : Ctx} {els : OptBlock} {fails f : Bool} {k : ℕ} {rs : List Reached} {r : Out} {place : Place} {ty : PlaceTy} →
    After pass c els fails k f rs r → On image c place ty → On image r.ctx place ty
on_after a o = on_went a.steps.went o

-- arguments, each on the place one element on
pub holds_arguments : {image : List ℕ} {ls : List Lowering} {fs : List (PlaceTy → Bool)} {rs : List Reaching} (p : ℕ) (elems : List ProjectionElem) → Each image ls fs rs → AllFit elems →
    (pass : Pass) (c : Ctx) (current : BasicBlockId) (els : OptBlock) (place : Place) (ty : PlaceTy) (k : ℕ) → On image c place ty →
    Holds (After pass c els (some_argument image ty (zip elems fs)) k false (through_arguments image ty k (zip elems rs))) (pattern_match_adt p elems ls (mode_of pass) c current els place)
unfolding pattern_match_adt zip some_argument through_arguments multi_projection_ty
holds_arguments p [] e fit pass c current els place ty k o = holds (After pass c els false k false []) _ (after_none pass c current els k)
holds_arguments p (elem ∷ elems) none_left fit pass c current els place ty k o = holds (After pass c els false k false []) _ (after_none pass c current els k)
holds_arguments {image = image} p (elem ∷ elems) (one_more_lem {l = l} {fails = fails} {reach = reach} {ls = ls} {fs = fs} {rs = rs} h e) fit pass c current els place ty k o =
    let ty' = projection_ty ty image elem in
    let rest : Out → Walk Out = λ r. pattern_match_adt p elems ls (mode_of pass) r.ctx r.then r.else place in
    holds_step p (project place elem) (λ place'. next (l (mode_of pass) c current els place') rest) (on_project elem fit.0 o) (λ place' o'.
    holds_next (l (mode_of pass) c current els place') rest (h.goes pass c current els place' ty' k false o') (λ r a.
    holds_as (λ r' a'. after_more a a')
    (holds_arguments p elems e fit.1 pass r.ctx r.then r.else place ty k (on_after a o))))
