-- Numbers fall from a pattern to those below it, and so do the Ors that may stand above: the number of a pattern that is reached from p, and the count of the Ors above
-- it, are together at most p. Assumes nothing.
use Prim.Native.Nat.{ℕ, zero, suc, ◌+◌, ◌≤◌, ◌<◌}
use mathlib.Core.Path.{◌≡◌, refl, ap, sym, subst}
use mathlib.Core.Bool.{Bool, true, false, cond}
use mathlib.Core.Option.{Option, none, some}
use mathlib.Core.List.{List, [], ◌∷◌, ◌++◌, map, reverse, reverse_aux}
use mathlib.Core.Logic.{◌⊎◌, inl, inr, ⊎_elim}
use native.Mathlib.Nat.{lt_trans}
use native.Mathlib.Omega.{arith}
use borrow.Author.Tests.{ltb-true}
use lib.Dec.{eqb, ltb}
use lib.ListN.{length, take, drop}
use Rattle.image.specs.declared.kinds.PatKind.{PatKind}
use Rattle.image.specs.declared.rows.PatRow.{PatRow}
use Rattle.image.specs.Tables.{pattern_count}
use Rattle.image.specs.Kinds.{pat_kind, path_kind}
use Rattle.image.specs.Rows.{pat_at}
use Rattle.image.specs.Lists.{all_in, up_from}
use Rattle.image.specs.Types.{variant_of}
use Rattle.image.specs.Rules.{absent, listed}
use Rattle.image.specs.Subpatterns.{if_present, subpatterns_by}
use Rattle.image.specs.Patterns.{subpatterns_below}
use Rattle.image.specs.Valid.{rules, valid}
use Rattle.image.specs.Tree.{Head, Target, unresolved, variant, local, constant, other, Pat, no, sub, target, trees, tree?, word?, node_by, node, tree}
use Rattle.image.proofs.Bools.{and_left, and_right, all_true_at, below_at, all_in_left, all_in_right}
use Rattle.image.proofs.Trees.{tree_node}
use Rattle.place.specs.declared.elems.ProjectionElem.{ProjectionElem}
use Rattle.place.specs.declared.place_ty.PlaceTy.{PlaceTy}
use Rattle.place.specs.PlaceTypes.{projection_ty, multi_projection_ty}
use Rattle.pattern_matching.specs.Variants.{shape_of, fields_up_to}
use Rattle.pattern_matching.specs.Slices.{suffix_items}
use Rattle.counting.specs.Reaching.{behind_derefs, Argument, zip, in_a_row, by_fields, field_count, is_enum, downcast, of_variant, slice_arguments, failing, Reached, an_or, Reaching, path_reached, through_arguments, through_alternatives, reached, reachings, reaching?}
use Rattle.counting.specs.Counting.{reached_from, visits_of, IsReached}
use Rattle.counting.proofs.Tallies.{hit_or}
use Rattle.counting.proofs.Once.{visited_exactly, never_visited}

-- of each of the reached, number and Ors are together below m
data Low (m : ℕ) : List Reached → Type 0 where
  low_none : Low m []
  low_one : {r : Reached} {rs : List Reached} → r.number + r.ors < m → Low m rs → Low m (r ∷ rs)

-- of those that a pattern reaches under k Ors they are below n + k
record Under (n : ℕ) (reach : Reaching) : Type 0 where
  at : (ty : PlaceTy) (k : ℕ) (f : Bool) → Low (n + k) (reach ty k f)

-- each of a row of patterns keeps to it
data Each (n : ℕ) : List Reaching → Type 0 where
  each_none : Each n []
  each_more : {reach : Reaching} {rs : List Reaching} → Under n reach → Each n rs → Each n (reach ∷ rs)

-- each of a list of arguments
data Args (n : ℕ) : List (Argument Reaching) → Type 0 where
  args_none : Args n []
  args_more : {arg : Argument Reaching} {args : List (Argument Reaching)} → Under n arg.what → Args n args → Args n (arg ∷ args)

-- a greater bound
low_more : {m m' : ℕ} {rs : List Reached} → m ≤ m' → Low m rs → Low m' rs
low_more le low_none = low_none
low_more le (low_one {r = r} a l) = low_one {r = r} (omega (arith, a, le)) (low_more le l)

low_append : {m : ℕ} {xs ys : List Reached} → Low m xs → Low m ys → Low m (xs ++ ys)
low_append low_none l' = l'
low_append (low_one a l) l' = low_one a (low_append l l')

-- one of them
low_standing : {m : ℕ} (q : Reached) {rs : List Reached} → Low m rs → IsReached q rs → q.number + q.ors < m
low_standing {m = m} q (low_one a l) (inl same) = subst (λ (x : Reached). x.number + x.ors < m) (sym same) a
low_standing q (low_one a l) (inr s) = low_standing q l s
low_standing {m = m} q low_none x3 = elim x3 [ ]

module _ {n : ℕ} where
  each_take : {rs : List Reaching} (m : ℕ) → Each n rs → Each n (take m rs)
  each_take zero e = each_none
  each_take (suc m) each_none = each_none
  each_take (suc m) (each_more u e) = each_more u (each_take m e)

  each_drop : {rs : List Reaching} (m : ℕ) → Each n rs → Each n (drop m rs)
  each_drop zero e = e
  each_drop (suc m) each_none = each_none
  each_drop (suc m) (each_more u e) = each_drop m e

  -- a row backwards, before another
  each_onto : {rs rs' : List Reaching} → Each n rs → Each n rs' → Each n (reverse_aux rs rs')
  each_onto each_none e' = e'
  each_onto (each_more u e) e' = each_onto e (each_more u e')

  args_append : {xs ys : List (Argument Reaching)} → Args n xs → Args n ys → Args n (xs ++ ys)
  args_append args_none a' = a'
  args_append (args_more u a) a' = args_more u (args_append a a')

  args_zip : {rs : List Reaching} (elems : List ProjectionElem) → Each n rs → Args n (zip elems rs)
  unfolding zip
  args_zip [] e = args_none
  args_zip (elem ∷ elems) each_none = args_none
  args_zip (elem ∷ elems) (each_more u e) = args_more u (args_zip elems e)

  args_in_row : {rs : List Reaching} (ellipsis : Option ℕ) (fields : ℕ) → Each n rs → Args n (in_a_row ellipsis fields rs)
  unfolding in_a_row
  args_in_row none fields e = args_zip (fields_up_to fields) e
  args_in_row (some at) fields e =
      args_append (args_zip (fields_up_to fields) (each_take at e)) (args_zip (reverse (fields_up_to fields)) (each_onto (each_drop at e) each_none))

  args_by_fields : {rs : List Reaching} (fields : List (Option ℕ)) → Each n rs → Args n (by_fields fields rs)
  unfolding by_fields
  args_by_fields [] e = args_none
  args_by_fields (none ∷ fields) each_none = args_none
  args_by_fields (none ∷ fields) (each_more u e) = args_by_fields fields e
  args_by_fields (some i ∷ fields) each_none = args_none
  args_by_fields (some i ∷ fields) (each_more u e) = args_more u (args_by_fields fields e)

  args_items : {rs rs' : List Reaching} → Each n rs → Each n rs' → Args n (slice_arguments rs rs')
  unfolding slice_arguments
  args_items {rs = rs} {rs' = rs'} e e' =
      args_append (args_zip (map (λ i. ProjectionElem.Index i) (up_from 0 (length rs))) e) (args_zip (suffix_items (length rs')) e')

  args_downcast : {args : List (Argument Reaching)} (enum : Bool) (v : ℕ) → Args n args → Args n (downcast enum v args)
  unfolding downcast
  args_downcast false v a = a
  args_downcast true v args_none = args_none
  args_downcast true v (args_more u a) = args_more u (args_downcast true v a)

  args_variant : (image : List ℕ) (ty : PlaceTy) (v : Option ℕ) (args : ℕ → List (Argument Reaching)) → ((m : ℕ) → Args n (args m)) → Args n (of_variant image ty v args)
  unfolding of_variant
  args_variant image ty none args all = args_none
  args_variant image ty (some v) args all = args_downcast (is_enum (shape_of image ty)) v (all (length (variant_of image v).fields))

  -- all that arguments reach
  low_arguments : {args : List (Argument Reaching)} (image : List ℕ) (ty : PlaceTy) (k : ℕ) → Args n args → Low (n + k) (through_arguments image ty k args)
  unfolding through_arguments
  low_arguments image ty k args_none = low_none
  low_arguments image ty k (args_more {arg = arg} {args = args} u a) =
      let ty' = multi_projection_ty image ty arg.elems in
      low_append (u.at ty' k false) (low_arguments image ty k a)

  -- all that alternatives reach: one Or more is above them
  low_alternatives : {rs : List Reaching} (ty : PlaceTy) (k : ℕ) (fs : List (PlaceTy → Bool)) → Each n rs → Low (n + (k + 1)) (through_alternatives ty k fs rs)
  unfolding through_alternatives
  low_alternatives ty k [] e = low_none
  low_alternatives ty k (fails ∷ fs) each_none = low_none
  low_alternatives ty k (fails ∷ fs) (each_more {reach = reach} {rs = rs} u e) =
      low_append (u.at ty (k + 1) (fails ty)) (shorter (fails ty) (through_alternatives ty k fs rs) (low_alternatives ty k fs e))
    where
      shorter : {m : ℕ} (b : Bool) (rs : List Reached) → Low m rs → Low m (cond b rs [])
      shorter true rs l = l
      shorter false rs l = low_none

-- what a Path reaches has its number, and the Ors above it
path_low : (image : List ℕ) (ty : PlaceTy) (t : Target) (h : Head) (k : ℕ) (f : Bool) → (path_reached image ty t h k f).number + (path_reached image ty t h k f).ors < suc h.number + k
unfolding path_reached
path_low image ty unresolved h k f = omega arith
path_low image ty (variant v) h k f = omega arith
path_low image ty (local b) h k f = omega arith
path_low image ty (constant operand) h k f = omega arith
path_low image ty other h k f = omega arith

-- nodes of the pattern p, over trees of which those of lesser numbers keep to the bound
module _ (image : List ℕ) (g : ℕ → Pat) (p : ℕ) (here : (q : ℕ) → q < p → Under p (reached image (g q))) where
  -- subpatterns in a row
  each_below : (qs : List ℕ) → all_in (λ q. ltb q p) qs ≡ true → Each p (reachings image (trees g qs))
  unfolding all_in trees reachings
  each_below [] e = each_none
  each_below (q ∷ qs) e =
      each_more (here q (ltb-true q p (and_left (ltb q p) (all_in (λ q. ltb q p) qs) e))) (each_below qs (and_right (ltb q p) (all_in (λ q. ltb q p) qs) e))

  -- one subpattern
  one_below : (q : ℕ) → all_in (λ q. ltb q p) (q ∷ []) ≡ true → Under p (reached image (g q))
  unfolding all_in
  one_below q e = here q (ltb-true q p (and_left (ltb q p) true e))

  -- one that may be absent
  maybe_below : (q : ℕ) → all_in (λ q. ltb q p) (if_present q) ≡ true → Under p (reaching? image (tree? g q))
  unfolding tree? if_present reaching?
  maybe_below q e = by (eqb q absent) e
    where
      by : (b : Bool) → all_in (λ q. ltb q p) (cond b [] (q ∷ [])) ≡ true → Under p (reaching? image (cond b no (sub (g q))))
      by true e = record { at = λ ty k f. low_none }
      by false e = let u = one_below q e in record { at = λ ty k f. u.at ty k f }

  module _ (t derefs : ℕ) where
    -- the node's head
    abbrev h : Head
    h = record { number = p; ty = t; derefs = derefs }

    -- the node itself, and what it reaches below
    on_top : {r : Reached} {rs : List Reached} (k : ℕ) → r.number ≡ p → r.ors ≡ k → Low (p + k) rs → Low (suc p + k) (r ∷ rs)
    on_top {r = r} k number ors l = low_one {r = r} (omega (arith, number, ors)) (low_more (omega arith) l)

    -- a node by its kind
    node_low : (kind : PatKind) (row : PatRow) → all_in (λ q. ltb q p) (subpatterns_by kind image row) ≡ true → Under (suc p) (reached image (node_by kind g image h row))
    unfolding node_by subpatterns_by reached
    node_low PatKind.Missing row e = record { at = λ ty k f. on_top k refl refl low_none }
    node_low PatKind.Rest row e = record { at = λ ty k f. on_top k refl refl low_none }
    node_low PatKind.NotNull row e = record { at = λ ty k f. on_top k refl refl low_none }
    node_low PatKind.Wild row e = record { at = λ ty k f. on_top k refl refl low_none }
    node_low PatKind.Tuple row e =
        record {
          at = λ ty k f.
              let now = behind_derefs image ty derefs in
              on_top k refl refl (low_arguments image now k (args_in_row (word? row.c) (field_count (shape_of image now)) (each_below (listed image 1 row.a row.b) e)));
        }
    node_low PatKind.Or row e =
        record {
          at = λ ty k f.
              let alts = listed image 1 row.a row.b in
              let l = low_alternatives (behind_derefs image ty derefs) k (failing image (trees g alts)) (each_below alts e) in
              low_one {r = an_or h k f} (omega arith) (low_more (omega arith) l);
        }
    node_low PatKind.Record row e =
        record {
          at = λ ty k f.
              let now = behind_derefs image ty derefs in
              let fields = map word? (listed image 2 row.a row.b) in
              let args = listed image 2 (row.a + 1) row.b in
              on_top k refl refl (low_arguments image now k (args_variant image now (word? row.c) (λ m. by_fields fields (reachings image (trees g args))) (λ m. args_by_fields fields (each_below args e))));
        }
    node_low PatKind.Range row e = record { at = λ ty k f. on_top k refl refl low_none }
    node_low PatKind.Slice row e =
        record {
          at = λ ty k f.
              let prefix = listed image 1 row.a row.b in
              let suffix = listed image 1 (row.a + row.b) row.c in
              let front = all_in_left (λ q. ltb q p) prefix (suffix ++ if_present row.d) e in
              let back = all_in_left (λ q. ltb q p) suffix (if_present row.d) (all_in_right (λ q. ltb q p) prefix (suffix ++ if_present row.d) e) in
              on_top k refl refl (low_arguments image (behind_derefs image ty derefs) k (args_items (each_below prefix front) (each_below suffix back)));
        }
    node_low PatKind.Path row e = record { at = λ ty k f. low_one (path_low image (behind_derefs image ty derefs) (target (path_kind row.a) image row.b) h k f) low_none }
    node_low PatKind.Lit row e = record { at = λ ty k f. on_top k refl refl low_none }
    node_low PatKind.Bind row e = record { at = λ ty k f. on_top k refl refl ((maybe_below row.b e).at (behind_derefs image ty derefs) k false) }
    node_low PatKind.TupleStruct row e =
        record {
          at = λ ty k f.
              let now = behind_derefs image ty derefs in
              let args = listed image 1 row.a row.b in
              on_top k refl refl (low_arguments image now k (args_variant image now (word? row.d) (λ m. in_a_row (word? row.c) m (reachings image (trees g args))) (λ m. args_in_row (word? row.c) m (each_below args e))));
        }
    node_low PatKind.Ref row e = record { at = λ ty k f. on_top k refl refl ((one_below row.a e).at (projection_ty (behind_derefs image ty derefs) image ProjectionElem.Deref) k false) }
    node_low PatKind.Expr row e = record { at = λ ty k f. on_top k refl refl low_none }
    node_low PatKind.Box row e = record { at = λ ty k f. on_top k refl refl low_none }
    node_low PatKind.Deref row e = record { at = λ ty k f. on_top k refl refl low_none }
    node_low PatKind.Unknown row e = record { at = λ ty k f. on_top k refl refl low_none }

-- in a valid image
module _ (image : List ℕ) (v : valid image ≡ true) where
  -- a greater bound for all that a pattern reaches
  under_more : {n n' : ℕ} {reach : Reaching} → n ≤ n' → Under n reach → Under n' reach
  under_more le u = record { at = λ ty k f. low_more (omega (arith, le)) (u.at ty k f) }

  -- the trees of all patterns keep to the bound
  tree_low : (bound p : ℕ) → p < bound → p < pattern_count image → Under (suc p) (reached image (tree image p))
  unfolding node subpatterns_below
  tree_low zero p b lt = absurd (omega (arith, b))
  tree_low (suc bound) p b lt =
      subst (λ (x : Pat). Under (suc p) (reached image x)) (sym (tree_node image p v lt))
      (node_low image (tree image) p (λ q less. under_more (omega (arith, less)) (tree_low bound q (omega (arith, less, b)) (lt_trans less lt))) (pat_at image p).ty (pat_at image p).derefs
      (pat_kind (pat_at image p).kind) (pat_at image p) (below_at (subpatterns_below image) (pattern_count image) p (all_true_at (rules image) 8 (unfold valid in v)) lt))

  -- The theorem: the number of a pattern that is reached from p, and the Ors above it, are together at most p.
  pub reached_low : (p : ℕ) (ty : PlaceTy) (q : Reached) → p < pattern_count image → IsReached q (reached_from image (tree image p) ty) → q.number + q.ors ≤ p
  reached_low p ty q lt stands =
      let low = low_standing q ((tree_low (suc p) p (omega arith) lt).at ty 0 false) stands in
      omega (arith, low)

-- one of the reached has the number n, or none has
some_has : (n : ℕ) (rs : List Reached) → ((q : Reached) × IsReached q rs × (q.number ≡ n)) ⊎ ((q : Reached) → IsReached q rs → q.number ≡ n → ⊥)
some_has n [] = inr (λ q s e. s)
some_has n (r ∷ rs) =
    ⊎_elim
    (λ (e : r.number ≡ n). inl (r, inl refl, e))
    (λ (e : r.number ≡ n → ⊥).
    ⊎_elim
    (λ (found : (q : Reached) × IsReached q rs × (q.number ≡ n)). inl (found.0, inr found.1, found.2))
    (λ (missing : (q : Reached) → IsReached q rs → q.number ≡ n → ⊥). inr (others e missing))
    (some_has n rs))
    (hit_or n r.number)
  where
    others : (r.number ≡ n → ⊥) → ((q : Reached) → IsReached q rs → q.number ≡ n → ⊥) → (q : Reached) → IsReached q (r ∷ rs) → q.number ≡ n → ⊥
    others e missing q (inl same) d = e (subst (λ (x : Reached). x.number ≡ n) same d)
    others e missing q (inr s) d = missing q s d

-- so that no pattern is visited more than p + 2 times from p
pub visits_few : (image : List ℕ) (p : ℕ) (ty : PlaceTy) (n : ℕ) → valid image ≡ true → p < pattern_count image → visits_of n (reached_from image (tree image p) ty) ≤ p + 2
visits_few image p ty n v lt = by (some_has n (reached_from image (tree image p) ty))
  where
    by : ((q : Reached) × IsReached q (reached_from image (tree image p) ty) × (q.number ≡ n)) ⊎ ((q : Reached) → IsReached q (reached_from image (tree image p) ty) → q.number ≡ n → ⊥) →
        visits_of n (reached_from image (tree image p) ty) ≤ p + 2
    by (inl (q, stands, e)) =
        let low = reached_low image v p ty q lt stands in
        let a = visited_exactly image p ty q v lt stands in
        let b = ap (λ (m : ℕ). visits_of m (reached_from image (tree image p) ty)) e in
        omega (arith, low, a, b)
    by (inr missing) = let z = never_visited image (tree image p) ty n missing in omega (arith, z)
