-- Arguments take what their patterns take: in a row, with an ellipsis or none, and by fields. Assumes nothing.
use Rattle.std.specs.Prelude.{None}
use lib.Seq.{take-length}
use mathlib.Core.Path.{◌≡◌, sym, ap, subst, ◌∙◌}
use mathlib.Core.Bool.{Bool, true, false, cond, ◌||◌}
use mathlib.Core.Option.{Option, none, some}
use mathlib.Core.List.{List, [], ◌∷◌, ◌++◌, reverse, reverse_aux}
use Prim.Native.Nat.{ℕ, zero, suc, ◌+◌, ◌≤◌, max}
use native.Mathlib.Nat.{le_refl, le-max_left, le-max_right, max-le, le_trans, le_antisymm}
use native.Mathlib.Omega.{arith}
use borrow.Author.Tests.{le-leb}
use lib.Dec.{leb}
use lib.ListN.{length, take, drop, drop_of_length-le}
use Rattle.image.specs.Lists.{up_from}
use Rattle.refusals.specs.declared.MirLowerError.{MirLowerError}
use Rattle.place.specs.declared.Place.{Place}
use Rattle.place.specs.declared.elems.ProjectionElem.{ProjectionElem}
use Rattle.place.specs.declared.place_ty.PlaceTy.{PlaceTy}
use Rattle.place.specs.PlaceTypes.{projection_ty, multi_projection_ty}
use Rattle.mir.specs.declared.BasicBlockId.{BasicBlockId}
use Rattle.lower_spec.specs.Results.{OptBlock}
use Rattle.pattern_matching.specs.declared.MatchingMode.{MatchingMode}
use Rattle.pattern_matching.specs.Walking.{Ctx, Out, Walk, refused, Lowering, next, project}
use Rattle.pattern_matching.specs.Variants.{pattern_match_adt, fields_up_to, pattern_match_tuple_like, ellipsis_at, resolved, record_fields}
use Rattle.counting.specs.Reaching.{Argument, zip, in_a_row, by_fields, some_argument, Reaching, Reached, through_arguments}
use Rattle.counting.specs.Counting.{total, else_made}
use Rattle.counting.proofs.Passing.{mode_of, total_append}
use Rattle.counting.proofs.Typed.{On}
use Rattle.counting.proofs.Holding.{Holds}
use Rattle.counting.proofs.Arguments.{AllFit, fit_reverse, fit_all}
use Rattle.counting.proofs.Rows.{through_append, some_argument_append, row_whole, Resolves, resolves}
use Rattle.room.specs.Elements.{most_of_arguments}
use Rattle.room.proofs.Telling.{Origin, sound_refused, sound_next, sound_step, sound_as}
use Rattle.room.proofs.Recording.{or_first, or_second}
use Rattle.room.proofs.Building.{owing, has_as}
use Rattle.room.proofs.Spending.{spent, marked_in, AllAbove, above_append, in_checks_lem, reach_max, reach_back, at_onward, Spends, has_both, spends_none, spends_as, spends_both, sure_on}

-- a pattern, noted as an alternative that can fail, or not
abbrev pub flagged_as : Bool → Reached → Reached
flagged_as f r =
    record {
      number = r.number;
      ors = r.ors;
      tests = r.tests;
      test_statements = r.test_statements;
      failing_alternative = f;
      is_or = r.is_or;
      bound = r.bound;
    }

-- what is reached from a pattern under k Ors is the pattern itself, which alone is noted as such, and others
pub record Headed (k : ℕ) (rs : Bool → List Reached) : Type 0 where
  pub head : Reached
  pub others : List Reached
  pub ors : head.ors ≡ k
  pub is : (f : Bool) → rs f ≡ flagged_as f head ∷ others

-- an else is there, where there was none, if there can be a mismatch
abbrev pub Settled : Bool → OptBlock → Type 0
Settled fails els = (fails ≡ false → els ≡ None) × (else_made fails els ≡ 0)

-- a lowering takes what the patterns that are reached take, whatever the type of its place, and leaves an else if it can fail
pub record Pays (A : Type 0) (base : Origin) (image : List ℕ) (l : Lowering) (fails : PlaceTy → Bool) (reach : Reaching) (deep : PlaceTy → ℕ) : Type 0 where
  pub spends : (ty : PlaceTy) → Spends A base image ty l (fails ty) (deep ty) (λ k. reach ty k false)
  pub headed : (ty : PlaceTy) (k : ℕ) → Headed k (λ f. reach ty k f)
  pub settles : (ty : PlaceTy) (c : Ctx) (current : BasicBlockId) (place : Place) → On image c place ty →
      Holds (λ (r : Out). Settled (fails ty) r.else) (l MatchingMode.Check c current None place)

-- each of a row of lowerings does
pub data Each (A : Type 0) (base : Origin) (image : List ℕ) : List Lowering → List (PlaceTy → Bool) → List Reaching → List (PlaceTy → ℕ) → Type 0 where
  none_left : Each A base image [] [] [] []
  one_more_lem : {l : Lowering} {fails : PlaceTy → Bool} {reach : Reaching} {deep : PlaceTy → ℕ} {ls : List Lowering} {fs : List (PlaceTy → Bool)} {rs : List Reaching} {ds : List (PlaceTy → ℕ)} →
      Pays A base image l fails reach deep → Each A base image ls fs rs ds → Each A base image (l ∷ ls) (fails ∷ fs) (reach ∷ rs) (deep ∷ ds)

-- arguments take what their patterns take
abbrev pub Row : Type 0 → Origin → List ℕ → PlaceTy → Lowering → List (Argument (PlaceTy → Bool)) → List (Argument (PlaceTy → ℕ)) → List (Argument Reaching) → Type 0
Row A base image ty l fs ds rs = Spends A base image ty l (some_argument image ty fs) (most_of_arguments image ty ds) (λ k. through_arguments image ty k rs)

module _ {A : Type 0} {base : Origin} {image : List ℕ} where
  -- the first n of a row
  each_take : {ls : List Lowering} {fs : List (PlaceTy → Bool)} {rs : List Reaching} {ds : List (PlaceTy → ℕ)} (n : ℕ) → Each A base image ls fs rs ds →
      Each A base image (take n ls) (take n fs) (take n rs) (take n ds)
  each_take zero e = none_left
  each_take (suc n) none_left = none_left
  each_take (suc n) (one_more_lem c e) = one_more_lem c (each_take n e)

  -- those behind them
  each_drop : {ls : List Lowering} {fs : List (PlaceTy → Bool)} {rs : List Reaching} {ds : List (PlaceTy → ℕ)} (n : ℕ) → Each A base image ls fs rs ds →
      Each A base image (drop n ls) (drop n fs) (drop n rs) (drop n ds)
  each_drop zero e = e
  each_drop (suc n) none_left = none_left
  each_drop (suc n) (one_more_lem c e) = each_drop n e

  -- a row backwards, before another
  each_onto : {ls ls' : List Lowering} {fs fs' : List (PlaceTy → Bool)} {rs rs' : List Reaching} {ds ds' : List (PlaceTy → ℕ)} → Each A base image ls fs rs ds → Each A base image ls' fs' rs' ds' →
      Each A base image (reverse_aux ls ls') (reverse_aux fs fs') (reverse_aux rs rs') (reverse_aux ds ds')
  each_onto none_left e' = e'
  each_onto (one_more_lem c e) e' = each_onto e (one_more_lem c e')

  -- each argument on the place one element on
  pub spends_arguments : {ls : List Lowering} {fs : List (PlaceTy → Bool)} {rs : List Reaching} {ds : List (PlaceTy → ℕ)} (p : ℕ) (elems : List ProjectionElem) (ty : PlaceTy) →
      Each A base image ls fs rs ds → AllFit elems → Row A base image ty (pattern_match_adt p elems ls) (zip elems fs) (zip elems ds) (zip elems rs)
  unfolding pattern_match_adt zip some_argument most_of_arguments through_arguments multi_projection_ty
  spends_arguments p [] ty e fit = record { above = λ k. tt; goes = (spends_none image ty).goes }
  spends_arguments p (elem ∷ elems) ty none_left fit = record { above = λ k. tt; goes = (spends_none image ty).goes }
  spends_arguments p (elem ∷ elems) ty (one_more_lem {l = l} {fails = fails} {reach = reach} {deep = deep} {ls = ls} {fs = fs} {rs = rs} {ds = ds} h e) fit =
      let ty' = projection_ty ty image elem in
      let g = h.spends ty' in
      let rest = spends_arguments p elems ty e fit.1 in
      record {
        above = λ k. above_append k (reach ty' k false) (through_arguments image ty k (zip elems rs)) (g.above k) (rest.above k);
        goes = λ pass k T F m c current els place at len f room.
            let first = reach ty' k false in
            let others = through_arguments image ty k (zip elems rs) in
            let most = most_of_arguments image ty (zip elems ds) in
            let after : Out → Walk Out = λ r. pattern_match_adt p elems ls (mode_of pass) r.ctx r.then r.else place in
            sound_step p (project place elem) (λ place'. next (l (mode_of pass) c current els place') after)
            (sure_on elem (deep ty') fit.0 at (λ a. let x = len a in let y = le-max_left (1 + deep ty') most in omega (arith, x, y))) (λ place' q.
            sound_next (l (mode_of pass) c current els place') after
            (g.goes pass k (owing (marked_in base.bindings pass others) T) F (λ w. total (spent pass k w) others + m w) c current els place' (at_onward q) q.0.room
            (λ t. f (in_checks_lem pass (fails ty') (fails ty' || some_argument image ty (zip elems fs)) (or_first (fails ty') (some_argument image ty (zip elems fs))) t)) (has_as _ (λ w. let x = total_append (spent pass k w) first others in omega (arith, x)) (has_both T pass first others room)))
            (λ r h.
            sound_as (λ r' z. (z.0, reach_max pass place (1 + deep ty') most (reach_back pass place place' 1 (deep ty') q.0.longer h.1) z.1))
            (rest.goes pass k T F m r.ctx r.then r.else place at (λ a. let x = len a in let y = le-max_right (1 + deep ty') most in omega (arith, x, y))
            (λ t. f (in_checks_lem pass (some_argument image ty (zip elems fs)) (fails ty' || some_argument image ty (zip elems fs)) (or_second (fails ty') (some_argument image ty (zip elems fs))) t)) h.0)));
      }

-- the most of one list is at most that of it and another
most_first : (image : List ℕ) (ty : PlaceTy) (xs ys : List (Argument (PlaceTy → ℕ))) → most_of_arguments image ty xs ≤ most_of_arguments image ty (xs ++ ys)
unfolding most_of_arguments
most_first image ty [] ys = omega arith
most_first image ty (x ∷ xs) ys =
    let n = length x.elems + x.what (multi_projection_ty image ty x.elems) in
    max-le (le-max_left n (most_of_arguments image ty (xs ++ ys))) (le_trans (most_first image ty xs ys) (le-max_right n (most_of_arguments image ty (xs ++ ys))))

-- so is that of the other
most_second : (image : List ℕ) (ty : PlaceTy) (xs ys : List (Argument (PlaceTy → ℕ))) → most_of_arguments image ty ys ≤ most_of_arguments image ty (xs ++ ys)
unfolding most_of_arguments
most_second image ty [] ys = le_refl _
most_second image ty (x ∷ xs) ys =
    le_trans (most_second image ty xs ys) (le-max_right (length x.elems + x.what (multi_projection_ty image ty x.elems)) (most_of_arguments image ty (xs ++ ys)))

-- no more is appended for both
most_both : (image : List ℕ) (ty : PlaceTy) (xs ys : List (Argument (PlaceTy → ℕ))) → most_of_arguments image ty (xs ++ ys) ≤ max (most_of_arguments image ty xs) (most_of_arguments image ty ys)
unfolding most_of_arguments
most_both image ty [] ys = le-max_right 0 (most_of_arguments image ty ys)
most_both image ty (x ∷ xs) ys =
    let n = length x.elems + x.what (multi_projection_ty image ty x.elems) in
    let X = most_of_arguments image ty xs in
    let Y = most_of_arguments image ty ys in
    let l = le-max_left (max n X) Y in
    max-le (le_trans (le-max_left n X) l) (le_trans (most_both image ty xs ys) (max-le (le_trans (le-max_right n X) l) (le-max_right (max n X) Y)))

-- the most of both
pub most_append : (image : List ℕ) (ty : PlaceTy) (xs ys : List (Argument (PlaceTy → ℕ))) → max (most_of_arguments image ty xs) (most_of_arguments image ty ys) ≡ most_of_arguments image ty (xs ++ ys)
most_append image ty xs ys = le_antisymm (max-le (most_first image ty xs ys) (most_second image ty xs ys)) (most_both image ty xs ys)

-- arguments of one list, and then those of another
pub row_both : {A : Type 0} {base : Origin} {image : List ℕ} {ty : PlaceTy} (l l' : Lowering) (fs fs' : List (Argument (PlaceTy → Bool))) (ds ds' : List (Argument (PlaceTy → ℕ)))
    (rs rs' : List (Argument Reaching)) → Row A base image ty l fs ds rs → Row A base image ty l' fs' ds' rs' →
    Row A base image ty (λ mode c current els place. next (l mode c current els place) (λ r. l' mode r.ctx r.then r.else place)) (fs ++ fs') (ds ++ ds') (rs ++ rs')
row_both {image = image} {ty = ty} l l' fs fs' ds ds' rs rs' g g' =
    spends_as (sym (some_argument_append image ty fs fs')) (most_append image ty ds ds') (λ k. sym (through_append image ty k rs rs')) (spends_both l l' g g')

-- arguments on the first of n fields, and then others on the last ones from the last on
abbrev two : ℕ → ℕ → Bool → List Lowering → List Lowering → Lowering
two p n b xs ys mode c current els place =
    cond b
    (next (pattern_match_adt p (fields_up_to n) xs mode c current els place) (λ r.
    pattern_match_adt p (reverse (fields_up_to n)) (reverse ys) mode r.ctx r.then r.else place))
    (refused MirLowerError.Ellipsis p)

module _ {A : Type 0} {base : Origin} {image : List ℕ} (p n : ℕ) (ty : PlaceTy) where
  -- both take what their patterns take
  spends_two : {xs ys : List Lowering} {fs gs : List (PlaceTy → Bool)} {rs qs : List Reaching} {ds es : List (PlaceTy → ℕ)} (b : Bool) → Each A base image xs fs rs ds → Each A base image ys gs qs es →
      Row A base image ty (two p n b xs ys) (zip (fields_up_to n) fs ++ zip (reverse (fields_up_to n)) (reverse gs)) (zip (fields_up_to n) ds ++ zip (reverse (fields_up_to n)) (reverse es))
      (zip (fields_up_to n) rs ++ zip (reverse (fields_up_to n)) (reverse qs))
  spends_two {xs = xs} {ys = ys} {fs = fs} {gs = gs} {rs = rs} {qs = qs} {ds = ds} {es = es} b e e' = by b
    where
      F : List ProjectionElem
      F = fields_up_to n

      fits : AllFit (fields_up_to n)
      fits = fit_all (λ i. ProjectionElem.Field i) (λ i. tt) (up_from 0 n)

      both : Row A base image ty (two p n true xs ys) (zip F fs ++ zip (reverse F) (reverse gs)) (zip F ds ++ zip (reverse F) (reverse es)) (zip F rs ++ zip (reverse F) (reverse qs))
      both =
          row_both (pattern_match_adt p F xs) (pattern_match_adt p (reverse F) (reverse ys)) (zip F fs) (zip (reverse F) (reverse gs)) (zip F ds) (zip (reverse F) (reverse es)) (zip F rs)
          (zip (reverse F) (reverse qs)) (spends_arguments p F ty e fits) (spends_arguments p (reverse F) ty (each_onto e' none_left) (fit_reverse F fits))

      by : (b : Bool) → Row A base image ty (two p n b xs ys) (zip F fs ++ zip (reverse F) (reverse gs)) (zip F ds ++ zip (reverse F) (reverse es)) (zip F rs ++ zip (reverse F) (reverse qs))
      by true = both
      by false = record { above = both.above; goes = λ pass k T F m c current els place at len f room. sound_refused _ MirLowerError.Ellipsis p tt }

  -- arguments in a row on n fields
  pub spends_row : {ls : List Lowering} {fs : List (PlaceTy → Bool)} {rs : List Reaching} {ds : List (PlaceTy → ℕ)} (ellipsis : Option ℕ) → Each A base image ls fs rs ds →
      Row A base image ty (pattern_match_tuple_like p ls (ellipsis_at ellipsis ls) n) (in_a_row ellipsis n fs) (in_a_row ellipsis n ds) (in_a_row ellipsis n rs)
  unfolding in_a_row pattern_match_tuple_like ellipsis_at
  spends_row {ls = ls} (some at) e = let g = spends_two (leb at (length ls)) (each_take at e) (each_drop at e) in record { above = g.above; goes = g.goes }
  spends_row {ls = ls} {fs = fs} {rs = rs} {ds = ds} none e =
      let F = fields_up_to n in
      let g = spends_as (ap (some_argument image ty) (row_whole F (reverse F) fs)) (ap (most_of_arguments image ty) (row_whole F (reverse F) ds))
      (λ k. ap (through_arguments image ty k) (row_whole F (reverse F) rs)) (spends_two true e none_left) in
      let g' : Row A base image ty (two p n (leb (length ls) (length ls)) (take (length ls) ls) (drop (length ls) ls)) (zip F fs) (zip F ds) (zip F rs) =
      subst (λ (l : Lowering). Row A base image ty l (zip F fs) (zip F ds) (zip F rs)) (sym whole) g in
      record { above = g'.above; goes = g'.goes }
    where
      whole : two p n (leb (length ls) (length ls)) (take (length ls) ls) (drop (length ls) ls) ≡ two p n true ls []
      whole =
          ap (λ (b : Bool). two p n b (take (length ls) ls) (drop (length ls) ls)) (le-leb (length ls) (length ls) (le_refl _))
          ∙ ap (λ (l : List Lowering). two p n true l (drop (length ls) ls)) (take-length ls)
          ∙ ap (two p n true ls) (drop_of_length-le ls (le_refl _))

  -- k Ors are above what is reached through fields
  above_fields : {ls : List Lowering} {fs : List (PlaceTy → Bool)} {rs : List Reaching} {ds : List (PlaceTy → ℕ)} (k : ℕ) (fields : List (Option ℕ)) → Each A base image ls fs rs ds →
      AllAbove k (through_arguments image ty k (by_fields fields rs))
  unfolding through_arguments by_fields
  above_fields k [] e = tt
  above_fields k (none ∷ fields) none_left = tt
  above_fields k (none ∷ fields) (one_more_lem h e) = above_fields k fields e
  above_fields k (some i ∷ fields) none_left = tt
  above_fields k (some i ∷ fields) (one_more_lem {reach = reach} {rs = rs} h e) =
      let ty' = multi_projection_ty image ty (ProjectionElem.Field i ∷ []) in
      above_append k (reach ty' k false) (through_arguments image ty k (by_fields fields rs)) ((h.spends ty').above k) (above_fields k fields e)

  -- arguments by fields
  pub spends_fields : {ls : List Lowering} {fs : List (PlaceTy → Bool)} {rs : List Reaching} {ds : List (PlaceTy → ℕ)} (fields : List (Option ℕ)) → Each A base image ls fs rs ds →
      Row A base image ty (record_fields (resolved n fields) p ls) (by_fields fields fs) (by_fields fields ds) (by_fields fields rs)
  unfolding record_fields
  spends_fields {ls = ls} {fs = fs} {rs = rs} {ds = ds} fields e =
      by (resolved n fields) (resolves (PlaceTy → Bool) n fields) (resolves (PlaceTy → ℕ) n fields) (resolves Reaching n fields)
    where
      by : (r : Option (List ProjectionElem)) → Resolves (PlaceTy → Bool) fields r → Resolves (PlaceTy → ℕ) fields r → Resolves Reaching fields r →
          Row A base image ty (record_fields r p ls) (by_fields fields fs) (by_fields fields ds) (by_fields fields rs)
      by none a b c =
          record {
            above = λ k. above_fields k fields e;
            goes = λ pass k T F m ctx current els place at len f room. sound_refused _ MirLowerError.UnresolvedField p tt;
          }
      by (some elems) a b c =
          let g = spends_as (ap (some_argument image ty) (sym (a.1 fs))) (ap (most_of_arguments image ty) (sym (b.1 ds))) (λ k. ap (through_arguments image ty k) (sym (c.1 rs)))
          (spends_arguments p elems ty e a.0) in
          record { above = g.above; goes = g.goes }
