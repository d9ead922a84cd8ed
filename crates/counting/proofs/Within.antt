-- The reached of a pattern have a number no more often than its tree has it. Assumes nothing.
use Prim.Native.Nat.{ℕ, zero, suc, ◌+◌, ◌≤◌}
use mathlib.Core.Path.{◌≡◌, refl, ap}
use mathlib.Core.Bool.{Bool, true, false, cond}
use mathlib.Core.Option.{Option, none, some}
use mathlib.Core.List.{List, [], ◌∷◌, ◌++◌, map, reverse, reverse_aux}
use native.Mathlib.Omega.{arith}
use lib.ListN.{length, take, drop}
use Rattle.image.specs.Lists.{up_from}
use Rattle.image.specs.Types.{variant_of}
use Rattle.image.specs.Tree.{Head, Target, unresolved, variant, local, constant, other, Pat, Pats, nil, cons, PatOpt, no, sub}
use Rattle.place.specs.declared.elems.ProjectionElem.{ProjectionElem}
use Rattle.place.specs.declared.place_ty.PlaceTy.{PlaceTy}
use Rattle.place.specs.PlaceTypes.{projection_ty, multi_projection_ty}
use Rattle.pattern_matching.specs.Variants.{shape_of, fields_up_to}
use Rattle.pattern_matching.specs.Slices.{suffix_items}
use Rattle.counting.specs.Reaching.{behind_derefs, Argument, zip, in_a_row, by_fields, field_count, is_enum, downcast, of_variant, slice_arguments, failing, Reached, Reaching, path_reached, through_arguments, through_alternatives, reached, reachings, reaching?}
use Rattle.counting.specs.Counting.{total}
use Rattle.counting.proofs.Passing.{total_append}
use Rattle.counting.proofs.Tallies.{hit}
use Rattle.counting.proofs.Numbers.{times, times_all, times?}

-- how many of the reached have the number n
abbrev pub hits : ℕ → List Reached → ℕ
hits n rs = total (λ r. hit n r.number) rs

-- a pattern reaches the number n at most c times
pub record Within (n : ℕ) (reach : Reaching) (c : ℕ) : Type 0 where
  pub at : (ty : PlaceTy) (k : ℕ) (f : Bool) → hits n (reach ty k f) ≤ c

-- those in a row at most c times, each at most its share
data Row (n : ℕ) : List Reaching → ℕ → Type 0 where
  row_none : {c : ℕ} → Row n [] c
  row_more : {reach : Reaching} {rs : List Reaching} {a b c : ℕ} → Within n reach a → Row n rs b → a + b ≤ c → Row n (reach ∷ rs) c

-- arguments, too
data Args (n : ℕ) : List (Argument Reaching) → ℕ → Type 0 where
  args_none : {c : ℕ} → Args n [] c
  args_more : {arg : Argument Reaching} {args : List (Argument Reaching)} {a b c : ℕ} → Within n arg.what a → Args n args b → a + b ≤ c → Args n (arg ∷ args) c

-- a row cut in two
record Cut (n : ℕ) (rs : List Reaching) (at c : ℕ) : Type 0 where
  pub first : ℕ
  pub second : ℕ
  pub front : Row n (take at rs) first
  pub back : Row n (drop at rs) second
  pub share : first + second ≤ c

module _ {n : ℕ} where
  cut : {rs : List Reaching} {c : ℕ} (at : ℕ) → Row n rs c → Cut n rs at c
  cut {c = c} zero row = record { first = 0; second = c; front = row_none; back = row; share = omega arith }
  cut {c = c} (suc at) row_none = record { first = 0; second = c; front = row_none; back = row_none; share = omega arith }
  cut {c = c} (suc at) (row_more {a = a} w row le) =
      let x = cut at row in
      record { first = a + x.first; second = x.second; front = row_more {c = a + x.first} w x.front (omega arith); back = x.back; share = let s = x.share in omega (arith, s, le) }

  -- a row backwards, before another
  row_onto : {rs rs' : List Reaching} {a b c : ℕ} → Row n rs a → Row n rs' b → a + b ≤ c → Row n (reverse_aux rs rs') c
  row_onto row_none row_none le = row_none
  row_onto {c = c} row_none (row_more w row le') le = row_more {c = c} w row (omega (arith, le, le'))
  row_onto {b = b} (row_more {a = x} w row le') row' le = row_onto {b = x + b} row (row_more {c = x + b} w row' (omega arith)) (omega (arith, le, le'))

  row_reverse : {rs : List Reaching} {c : ℕ} → Row n rs c → Row n (reverse rs) c
  row_reverse row = row_onto {b = 0} row row_none (omega arith)

  -- a greater bound
  args_less : {args : List (Argument Reaching)} {a c : ℕ} → Args n args a → a ≤ c → Args n args c
  args_less args_none le = args_none
  args_less {c = c} (args_more w args le') le = args_more {c = c} w args (omega (arith, le, le'))

  -- arguments and then others
  args_append : {xs ys : List (Argument Reaching)} {a b c : ℕ} → Args n xs a → Args n ys b → a + b ≤ c → Args n (xs ++ ys) c
  args_append args_none args le = args_less args (omega (arith, le))
  args_append {b = b} {c = c} (args_more {b = y} w args le') args' le = args_more {b = y + b} {c = c} w (args_append {c = y + b} args args' (omega arith)) (omega (arith, le, le'))

  -- what `zip` drops does not count
  args_zip : {rs : List Reaching} {c : ℕ} (elems : List ProjectionElem) → Row n rs c → Args n (zip elems rs) c
  unfolding zip
  args_zip [] row = args_none
  args_zip (elem ∷ elems) row_none = args_none
  args_zip (elem ∷ elems) (row_more w row le) = args_more w (args_zip elems row) le

  args_in_row : {rs : List Reaching} {c : ℕ} (ellipsis : Option ℕ) (fields : ℕ) → Row n rs c → Args n (in_a_row ellipsis fields rs) c
  unfolding in_a_row
  args_in_row none fields row = args_zip (fields_up_to fields) row
  args_in_row (some at) fields row =
      let x = cut at row in
      args_append (args_zip (fields_up_to fields) x.front) (args_zip (reverse (fields_up_to fields)) (row_reverse x.back)) x.share

  args_by_fields : {rs : List Reaching} {c : ℕ} (fields : List (Option ℕ)) → Row n rs c → Args n (by_fields fields rs) c
  unfolding by_fields
  args_by_fields [] row = args_none
  args_by_fields (none ∷ fields) row_none = args_none
  args_by_fields (none ∷ fields) (row_more w row le) = args_less (args_by_fields fields row) (omega (arith, le))
  args_by_fields (some i ∷ fields) row_none = args_none
  args_by_fields (some i ∷ fields) (row_more w row le) = args_more w (args_by_fields fields row) le

  args_items : {rs rs' : List Reaching} {a b : ℕ} → Row n rs a → Row n rs' b → Args n (slice_arguments rs rs') (a + b)
  unfolding slice_arguments
  args_items {rs = rs} {rs' = rs'} row row' =
      args_append (args_zip (map (λ i. ProjectionElem.Index i) (up_from 0 (length rs))) row) (args_zip (suffix_items (length rs')) row') (omega arith)

  -- those of a variant
  args_downcast : {args : List (Argument Reaching)} {c : ℕ} (enum : Bool) (v : ℕ) → Args n args c → Args n (downcast enum v args) c
  unfolding downcast
  args_downcast false v args = args
  args_downcast true v args_none = args_none
  args_downcast true v (args_more w args le) = args_more w (args_downcast true v args) le

  args_variant : {c : ℕ} (image : List ℕ) (ty : PlaceTy) (v : Option ℕ) (args : ℕ → List (Argument Reaching)) → ((m : ℕ) → Args n (args m) c) → Args n (of_variant image ty v args) c
  unfolding of_variant
  args_variant image ty none args all = args_none
  args_variant image ty (some v) args all = args_downcast (is_enum (shape_of image ty)) v (all (length (variant_of image v).fields))

  -- all that arguments reach
  hits_arguments : {args : List (Argument Reaching)} {c : ℕ} (image : List ℕ) (ty : PlaceTy) (k : ℕ) → Args n args c → hits n (through_arguments image ty k args) ≤ c
  unfolding through_arguments total
  hits_arguments image ty k args_none = omega arith
  hits_arguments image ty k (args_more {arg = arg} {args = args} w rest le) =
      let ty' = multi_projection_ty image ty arg.elems in
      let a = total_append (λ r. hit n r.number) (arg.what ty' k false) (through_arguments image ty k args) in
      let b = w.at ty' k false in
      let i = hits_arguments image ty k rest in
      omega (arith, a, b, i, le)

  -- all that alternatives reach
  hits_alternatives : {rs : List Reaching} {c : ℕ} (ty : PlaceTy) (k : ℕ) (fs : List (PlaceTy → Bool)) → Row n rs c → hits n (through_alternatives ty k fs rs) ≤ c
  unfolding through_alternatives total
  hits_alternatives ty k [] row = omega arith
  hits_alternatives ty k (fails ∷ fs) row_none = omega arith
  hits_alternatives ty k (fails ∷ fs) (row_more {reach = reach} {rs = rs} w row le) =
      let behind = through_alternatives ty k fs rs in
      let a = total_append (λ r. hit n r.number) (reach ty (k + 1) (fails ty)) (cond (fails ty) behind []) in
      let b = w.at ty (k + 1) (fails ty) in
      let i = hits_alternatives ty k fs row in
      let j = shorter behind (fails ty) in
      omega (arith, a, b, i, j, le)
    where
      shorter : (rs : List Reached) (b : Bool) → hits n (cond b rs []) ≤ hits n rs
      shorter rs true = omega arith
      shorter rs false = omega arith

-- what a Path reaches has its number
path_number : (image : List ℕ) (ty : PlaceTy) (t : Target) (h : Head) (k : ℕ) (f : Bool) → (path_reached image ty t h k f).number ≡ h.number
unfolding path_reached
path_number image ty unresolved h k f = refl
path_number image ty (variant v) h k f = refl
path_number image ty (local b) h k f = refl
path_number image ty (constant operand) h k f = refl
path_number image ty other h k f = refl

-- a reached pattern, and those below it
hits_below : (n x : ℕ) (r : Reached) (rs : List Reached) (c : ℕ) → r.number ≡ x → hits n rs ≤ c → hits n (r ∷ rs) ≤ hit n x + c
unfolding total
hits_below n x r rs c e le = let s = ap (hit n) e in omega (arith, s, le)

hits_nothing : (n : ℕ) → hits n [] ≤ 0
unfolding total
hits_nothing n = omega arith

-- nothing below it
hits_leaf : (n x : ℕ) (r : Reached) → r.number ≡ x → hits n (r ∷ []) ≤ hit n x + 0
unfolding total
hits_leaf n x r e = let s = ap (hit n) e in omega (arith, s)

module _ (image : List ℕ) (n : ℕ) where
  mutual
    unfolding times times_all times? reached reachings reaching?

    -- every pattern
    pub within : (p : Pat) → Within n (reached image p) (times n p)
    within (Pat.Missing h) = record { at = λ ty k f. hits_leaf n h.number _ refl }
    within (Pat.Rest h) = record { at = λ ty k f. hits_leaf n h.number _ refl }
    within (Pat.NotNull h) = record { at = λ ty k f. hits_leaf n h.number _ refl }
    within (Pat.Wild h) = record { at = λ ty k f. hits_leaf n h.number _ refl }
    within (Pat.Tuple h args ellipsis) =
        record {
          at = λ ty k f.
              let here = behind_derefs image ty h.derefs in
              hits_below n h.number _ _ _ refl (hits_arguments image here k (args_in_row ellipsis (field_count (shape_of image here)) (row args)));
        }
    within (Pat.Or h alts) =
        record { at = λ ty k f. hits_below n h.number _ _ _ refl (hits_alternatives (behind_derefs image ty h.derefs) k (failing image alts) (row alts)) }
    within (Pat.Record h fields args v) =
        record {
          at = λ ty k f.
              let here = behind_derefs image ty h.derefs in
              hits_below n h.number _ _ _ refl
              (hits_arguments image here k (args_variant image here v (λ m. by_fields fields (reachings image args)) (λ m. args_by_fields fields (row args))));
        }
    within (Pat.Range h start end halfOpen) = record { at = λ ty k f. hits_leaf n h.number _ refl }
    within (Pat.Slice h prefix rest suffix) =
        record {
          at = λ ty k f.
              let a = hits_arguments image (behind_derefs image ty h.derefs) k (args_items (row prefix) (row suffix)) in
              hits_below n h.number _ _ _ refl (omega (arith, a));
        }
    within (Pat.Path h target) = record { at = λ ty k f. hits_leaf n h.number _ (path_number image (behind_derefs image ty h.derefs) target h k f) }
    within (Pat.Lit h operand) = record { at = λ ty k f. hits_leaf n h.number _ refl }
    within (Pat.Bind h b s how annotation) = record { at = λ ty k f. hits_below n h.number _ _ _ refl ((within? s).at (behind_derefs image ty h.derefs) k false) }
    within (Pat.TupleStruct h args ellipsis v) =
        record {
          at = λ ty k f.
              let here = behind_derefs image ty h.derefs in
              hits_below n h.number _ _ _ refl
              (hits_arguments image here k (args_variant image here v (λ m. in_a_row ellipsis m (reachings image args)) (λ m. args_in_row ellipsis m (row args))));
        }
    within (Pat.Ref h s) =
        record {
          at = λ ty k f.
              let a = (within s).at (projection_ty (behind_derefs image ty h.derefs) image ProjectionElem.Deref) k false in
              hits_below n h.number _ _ _ refl (omega (arith, a));
        }
    within (Pat.Expr h) = record { at = λ ty k f. hits_leaf n h.number _ refl }
    within (Pat.Box h) = record { at = λ ty k f. hits_leaf n h.number _ refl }
    within (Pat.Deref h) = record { at = λ ty k f. hits_leaf n h.number _ refl }

    -- patterns in a row
    row : (ps : Pats) → Row n (reachings image ps) (times_all n ps)
    row nil = row_none
    row (cons q qs) = row_more {c = times n q + times_all n qs} (within q) (row qs) (omega arith)

    -- a subpattern that may be absent
    within? : (s : PatOpt) → Within n (reaching? image s) (times? n s)
    within? no = record { at = λ ty k f. hits_nothing n }
    within? (sub s) = record { at = λ ty k f. let a = (within s).at ty k f in omega (arith, a) }
