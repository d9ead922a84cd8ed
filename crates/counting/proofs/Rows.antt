-- Arguments in a row, with an ellipsis or none, and arguments by fields. Assumes nothing.
use lib.Seq.{take-length}
use mathlib.Core.Path.{◌≡◌, refl, sym, ap, subst, ◌∙◌}
use mathlib.Core.Bool.{Bool, true, false, cond, ◌||◌, or_assoc}
use mathlib.Core.Option.{Option, none, some}
use mathlib.Core.List.{List, [], ◌∷◌, ◌++◌, reverse, append-nil, append_assoc}
use Prim.Native.Nat.{ℕ}
use native.Mathlib.Nat.{le_refl}
use borrow.Author.Tests.{le-leb}
use lib.Dec.{ltb, leb}
use lib.ListN.{length, take, drop, drop_of_length-le}
use Rattle.image.specs.Lists.{up_from}
use Rattle.refusals.specs.declared.MirLowerError.{MirLowerError}
use Rattle.place.specs.declared.Place.{Place}
use Rattle.place.specs.declared.elems.ProjectionElem.{ProjectionElem}
use Rattle.place.specs.declared.place_ty.PlaceTy.{PlaceTy}
use Rattle.place.specs.PlaceTypes.{multi_projection_ty}
use Rattle.mir.specs.declared.BasicBlockId.{BasicBlockId}
use Rattle.lower_spec.specs.Results.{OptBlock}
use Rattle.pattern_matching.specs.Walking.{Ctx, Out, Walk, refused, Lowering, next}
use Rattle.pattern_matching.specs.Variants.{pattern_match_adt, fields_up_to, pattern_match_tuple_like, ellipsis_at, resolved, record_fields}
use Rattle.counting.specs.Reaching.{Argument, zip, in_a_row, by_fields, some_argument, Reaching, Reached, through_arguments}
use Rattle.counting.proofs.Holding.{Holds, refuses, holds_next, holds_as}
use Rattle.counting.proofs.Typed.{On}
use Rattle.counting.proofs.Passing.{Pass, mode_of, After, after_more}
use Rattle.counting.proofs.Arguments.{Each, none_left, each_take, each_drop, each_reverse, AllFit, fit_reverse, fit_all, on_after, holds_arguments}

-- the arguments of one list behind those of another
pub through_append : (image : List ℕ) (ty : PlaceTy) (k : ℕ) (xs ys : List (Argument Reaching)) → through_arguments image ty k (xs ++ ys) ≡ through_arguments image ty k xs ++ through_arguments image ty k ys
unfolding through_arguments
through_append image ty k [] ys = refl
through_append image ty k (x ∷ xs) ys =
    ap {B = List Reached} (λ l. x.what (multi_projection_ty image ty x.elems) k false ++ l) (through_append image ty k xs ys)
    ∙ sym (append_assoc (x.what (multi_projection_ty image ty x.elems) k false) (through_arguments image ty k xs) (through_arguments image ty k ys))

-- what holds of one of two lists
pub some_argument_append : (image : List ℕ) (ty : PlaceTy) (xs ys : List (Argument (PlaceTy → Bool))) → some_argument image ty (xs ++ ys) ≡ (some_argument image ty xs || some_argument image ty ys)
unfolding some_argument
some_argument_append image ty [] ys = refl
some_argument_append image ty (x ∷ xs) ys =
    ap {B = Bool} (λ b. x.what (multi_projection_ty image ty x.elems) || b) (some_argument_append image ty xs ys)
    ∙ sym (or_assoc (x.what (multi_projection_ty image ty x.elems)) (some_argument image ty xs) (some_argument image ty ys))

-- what a pass adds for arguments
abbrev pub AfterArguments : List ℕ → Pass → Ctx → OptBlock → PlaceTy → ℕ → List (Argument (PlaceTy → Bool)) → List (Argument Reaching) → Out → Type 0
AfterArguments image pass c els ty k fs rs r = After pass c els (some_argument image ty fs) k false (through_arguments image ty k rs) r

-- those of two lists
after_both : (image : List ℕ) (ty : PlaceTy) {pass : Pass} {c : Ctx} {els : OptBlock} {k : ℕ} (fs fs' : List (Argument (PlaceTy → Bool))) (rs rs' : List (Argument Reaching)) {r r' : Out} →
    AfterArguments image pass c els ty k fs rs r → AfterArguments image pass r.ctx r.else ty k fs' rs' r' → AfterArguments image pass c els ty k (fs ++ fs') (rs ++ rs') r'
after_both image ty {pass = pass} {c = c} {els = els} {k = k} fs fs' rs rs' {r' = r'} a a' =
    subst (λ (b : Bool). After pass c els b k false (through_arguments image ty k (rs ++ rs')) r') (sym (some_argument_append image ty fs fs'))
    (subst (λ (l : List Reached). After pass c els (some_argument image ty fs || some_argument image ty fs') k false l r') (sym (through_append image ty k rs rs')) (after_more a a'))

-- no argument, no pair
zip_none : {A : Type 0} (elems : List ProjectionElem) → zip {A = A} elems [] ≡ []
unfolding zip
zip_none [] = refl
zip_none (elem ∷ elems) = refl

-- no argument stands behind an ellipsis that is absent
pub row_whole : {A : Type 0} (elems elems' : List ProjectionElem) (xs : List A) → zip elems xs ++ zip elems' [] ≡ zip elems xs
row_whole {A = A} elems elems' xs = ap (λ (l : List (Argument A)). zip elems xs ++ l) (zip_none elems') ∙ append-nil (zip elems xs)

module _ (image : List ℕ) (p n : ℕ) (pass : Pass) (c : Ctx) (current : BasicBlockId) (els : OptBlock) (place : Place) (ty : PlaceTy) (k : ℕ) where
  -- arguments on the first fields, and then others on the last ones from the last on
  abbrev two : Bool → List Lowering → List Lowering → Walk Out
  two b xs ys =
      cond b
      (next (pattern_match_adt p (fields_up_to n) xs (mode_of pass) c current els place) (λ r.
      pattern_match_adt p (reverse (fields_up_to n)) (reverse ys) (mode_of pass) r.ctx r.then r.else place))
      (refused MirLowerError.Ellipsis p)

  fits : AllFit (fields_up_to n)
  fits = fit_all (λ i. ProjectionElem.Field i) (λ i. tt) (up_from 0 n)

  -- both add what their patterns add
  holds_two : {xs ys : List Lowering} {fs gs : List (PlaceTy → Bool)} {rs qs : List Reaching} (b : Bool) → Each image xs fs rs → Each image ys gs qs → On image c place ty →
      Holds (AfterArguments image pass c els ty k (zip (fields_up_to n) fs ++ zip (reverse (fields_up_to n)) (reverse gs)) (zip (fields_up_to n) rs ++ zip (reverse (fields_up_to n)) (reverse qs))) (two b xs ys)
  holds_two {fs = fs} {gs = gs} {rs = rs} {qs = qs} false e e' o = refuses (AfterArguments image pass c els ty k (zip (fields_up_to n) fs ++ zip (reverse (fields_up_to n)) (reverse gs)) (zip (fields_up_to n) rs ++ zip (reverse (fields_up_to n)) (reverse qs))) MirLowerError.Ellipsis p
  holds_two {xs = xs} {ys = ys} {fs = fs} {gs = gs} {rs = rs} {qs = qs} true e e' o =
      let first = zip (fields_up_to n) rs in
      let last = zip (reverse (fields_up_to n)) (reverse qs) in
      holds_next (pattern_match_adt p (fields_up_to n) xs (mode_of pass) c current els place) (λ r. pattern_match_adt p (reverse (fields_up_to n)) (reverse ys) (mode_of pass) r.ctx r.then r.else place)
      (holds_arguments p (fields_up_to n) e fits pass c current els place ty k o) (λ r a.
      holds_as (λ r' a'. after_both image ty (zip (fields_up_to n) fs) (zip (reverse (fields_up_to n)) (reverse gs)) first last a a')
      (holds_arguments p (reverse (fields_up_to n)) (each_reverse e') (fit_reverse (fields_up_to n) fits) pass r.ctx r.then r.else place ty k (on_after a o)))

  -- arguments in a row on n fields
  pub holds_row : {ls : List Lowering} {fs : List (PlaceTy → Bool)} {rs : List Reaching} (ellipsis : Option ℕ) → Each image ls fs rs → On image c place ty →
      Holds (AfterArguments image pass c els ty k (in_a_row ellipsis n fs) (in_a_row ellipsis n rs)) (pattern_match_tuple_like p ls (ellipsis_at ellipsis ls) n (mode_of pass) c current els place)
  unfolding in_a_row pattern_match_tuple_like ellipsis_at
  holds_row {ls = ls} {fs = fs} {rs = rs} (some at) e o = holds_two (leb at (length ls)) (each_take at e) (each_drop at e) o
  holds_row {ls = ls} {fs = fs} {rs = rs} none e o =
      let F = fields_up_to n in
      let same = row_whole F (reverse F) rs in
      subst (λ (l : List (Argument (PlaceTy → Bool))). Holds (AfterArguments image pass c els ty k l (zip F rs)) (two (leb (length ls) (length ls)) (take (length ls) ls) (drop (length ls) ls))) (row_whole F (reverse F) fs)
      (subst (λ (l : List (Argument Reaching)). Holds (AfterArguments image pass c els ty k (zip F fs ++ zip (reverse F) []) l) (two (leb (length ls) (length ls)) (take (length ls) ls) (drop (length ls) ls))) same
      (subst (λ (w : Walk Out). Holds (AfterArguments image pass c els ty k (zip F fs ++ zip (reverse F) []) (zip F rs ++ zip (reverse F) [])) w) (sym whole)
      (holds_two true e none_left o)))
    where
      whole : two (leb (length ls) (length ls)) (take (length ls) ls) (drop (length ls) ls) ≡ two true ls []
      whole =
          ap (λ (b : Bool). two b (take (length ls) ls) (drop (length ls) ls)) (le-leb (length ls) (length ls) (le_refl _))
          ∙ ap (λ (l : List Lowering). two true l (drop (length ls) ls)) (take-length ls)
          ∙ ap (two true ls) (drop_of_length-le ls (le_refl _))

-- where each field's number is there, arguments by fields are those in a row on them
abbrev pub Resolves : Type 0 → List (Option ℕ) → Option (List ProjectionElem) → Type 0
Resolves A fields none = Unit {0}
Resolves A fields (some elems) = AllFit elems × ((xs : List A) → by_fields fields xs ≡ zip elems xs)

-- the fields' numbers are their elements
pub resolves : (A : Type 0) (count : ℕ) (fields : List (Option ℕ)) → Resolves A fields (resolved count fields)
unfolding resolved by_fields zip
resolves A count [] = (tt, λ xs. refl)
resolves A count (none ∷ fields) = tt
resolves A count (some i ∷ fields) = by (ltb i count) refl (resolved count fields) refl (resolves A count fields)
  where
    more : (elems : List ProjectionElem) → ((xs : List A) → by_fields fields xs ≡ zip elems xs) → (xs : List A) → by_fields (some i ∷ fields) xs ≡ zip (ProjectionElem.Field i ∷ elems) xs
    more elems h [] = refl
    more elems h (x ∷ xs) = ap {B = List (Argument A)} (λ l. record { elems = ProjectionElem.Field i ∷ []; what = x } ∷ l) (h xs)

    by : (b : Bool) → ltb i count ≡ b → (o : Option (List ProjectionElem)) → resolved count fields ≡ o → Resolves A fields o → Resolves A (some i ∷ fields) (resolved count (some i ∷ fields))
    by false q o e h = rw q tt
    by true q none e h = rw (q, e) tt
    by true q (some elems) e h = rw (q, e) ((tt, h.0), more elems h.1)

-- arguments by fields
pub holds_fields : {image : List ℕ} {ls : List Lowering} {fs : List (PlaceTy → Bool)} {rs : List Reaching} (p n : ℕ) (pass : Pass) (c : Ctx) (current : BasicBlockId) (els : OptBlock) (place : Place)
    (ty : PlaceTy) (k : ℕ) (fields : List (Option ℕ)) → Each image ls fs rs → On image c place ty →
    Holds (AfterArguments image pass c els ty k (by_fields fields fs) (by_fields fields rs)) (record_fields (resolved n fields) p ls (mode_of pass) c current els place)
unfolding record_fields
holds_fields {image = image} {ls = ls} {fs = fs} {rs = rs} p n pass c current els place ty k fields e o =
    by (resolved n fields) (resolves (PlaceTy → Bool) n fields) (resolves Reaching n fields)
  where
    by : (r : Option (List ProjectionElem)) → Resolves (PlaceTy → Bool) fields r → Resolves Reaching fields r →
        Holds (AfterArguments image pass c els ty k (by_fields fields fs) (by_fields fields rs)) (record_fields r p ls (mode_of pass) c current els place)
    by none h h' = refuses (AfterArguments image pass c els ty k (by_fields fields fs) (by_fields fields rs)) MirLowerError.UnresolvedField p
    by (some elems) h h' =
        subst (λ (l : List (Argument (PlaceTy → Bool))). Holds (AfterArguments image pass c els ty k l (by_fields fields rs)) (pattern_match_adt p elems ls (mode_of pass) c current els place)) (sym (h.1 fs))
        (subst (λ (l : List (Argument Reaching)). Holds (AfterArguments image pass c els ty k (zip elems fs) l) (pattern_match_adt p elems ls (mode_of pass) c current els place)) (sym (h'.1 rs))
        (holds_arguments p elems e h.0 pass c current els place ty k o))
