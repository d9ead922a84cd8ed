-- The tree of a pattern of a valid image is its node over the trees of its subpatterns. Assumes nothing.
use Prim.Native.Nat.{ℕ, zero, suc, ◌+◌, ◌<◌}
use mathlib.Core.Path.{◌≡◌, refl, ap, ap₂}
use mathlib.Core.Bool.{Bool, true, false, cond}
use mathlib.Core.List.{List, [], ◌∷◌, ◌++◌}
use native.Mathlib.Nat.{lt_trans}
use native.Mathlib.Omega.{arith}
use borrow.Author.Tests.{ltb-true}
use lib.Dec.{eqb, ltb}
use Rattle.image.specs.declared.kinds.PatKind.{PatKind}
use Rattle.image.specs.declared.rows.PatRow.{PatRow}
use Rattle.image.specs.Tables.{pattern_count}
use Rattle.image.specs.Kinds.{pat_kind}
use Rattle.image.specs.Rows.{pat_at}
use Rattle.image.specs.Lists.{all_in}
use Rattle.image.specs.Rules.{absent, listed}
use Rattle.image.specs.Subpatterns.{if_present, subpatterns_by}
use Rattle.image.specs.Patterns.{subpatterns_below}
use Rattle.image.specs.Valid.{rules, valid}
use Rattle.image.specs.Tree.{Head, Pat, Pats, no, sub, trees, tree?, node_by, node, tree_of, tree, word?}
use Rattle.image.proofs.Bools.{and_left, and_right, all_true_at, below_at, all_in_left, all_in_right}

abbrev below : ℕ → List ℕ → Type 0
below p qs = all_in (λ q. ltb q p) qs ≡ true

-- g and h have the same trees of the patterns below p
module _ (g h : ℕ → Pat) (p : ℕ) (same : (q : ℕ) → q < p → g q ≡ h q) where
  trees_same : (qs : List ℕ) → below p qs → trees g qs ≡ trees h qs
  unfolding trees all_in
  trees_same [] b = refl
  trees_same (q ∷ qs) b =
      ap₂ Pats.cons (same q (ltb-true q p (and_left (ltb q p) (all_in (λ q. ltb q p) qs) b))) (trees_same qs (and_right (ltb q p) (all_in (λ q. ltb q p) qs) b))

  one_same : (q : ℕ) → below p (q ∷ []) → g q ≡ h q
  unfolding all_in
  one_same q b = same q (ltb-true q p (and_left (ltb q p) true b))

  tree?_same : (q : ℕ) → below p (if_present q) → tree? g q ≡ tree? h q
  unfolding tree? if_present
  tree?_same q b = go (eqb q absent) b
    where
      go : (t : Bool) → below p (cond t [] (q ∷ [])) → cond t no (sub (g q)) ≡ cond t no (sub (h q))
      go true e = refl
      go false e = ap sub (one_same q e)

  node_same : (k : PatKind) (image : List ℕ) (head : Head) (row : PatRow) → below p (subpatterns_by k image row) → node_by k g image head row ≡ node_by k h image head row
  unfolding node_by subpatterns_by
  node_same PatKind.Missing image head row b = refl
  node_same PatKind.Rest image head row b = refl
  node_same PatKind.NotNull image head row b = refl
  node_same PatKind.Wild image head row b = refl
  node_same PatKind.Tuple image head row b = ap (λ (ps : Pats). Pat.Tuple head ps (word? row.c)) (trees_same _ b)
  node_same PatKind.Or image head row b = ap (Pat.Or head) (trees_same _ b)
  node_same PatKind.Record image head row b = rw (trees_same (listed image 2 (row.a + 1) row.b) b)
  node_same PatKind.Range image head row b = refl
  node_same PatKind.Slice image head row b =
      let prefix = listed image 1 row.a row.b in
      let suffix = listed image 1 (row.a + row.b) row.c in
      let behind : below p (suffix ++ if_present row.d) = all_in_right (λ q. ltb q p) prefix (suffix ++ if_present row.d) b in
      rw (
        trees_same prefix (all_in_left (λ q. ltb q p) prefix (suffix ++ if_present row.d) b),
        trees_same suffix (all_in_left (λ q. ltb q p) suffix (if_present row.d) behind),
        tree?_same row.d (all_in_right (λ q. ltb q p) suffix (if_present row.d) behind),
      )
  node_same PatKind.Path image head row b = refl
  node_same PatKind.Lit image head row b = refl
  node_same PatKind.Bind image head row b = rw (tree?_same row.b b)
  node_same PatKind.TupleStruct image head row b = rw (trees_same (listed image 1 row.a row.b) b)
  node_same PatKind.Ref image head row b = ap (Pat.Ref head) (one_same row.a b)
  node_same PatKind.Expr image head row b = refl
  node_same PatKind.Box image head row b = refl
  node_same PatKind.Deref image head row b = refl
  node_same PatKind.Unknown image head row b = refl

-- in an image whose subpatterns' numbers are below their parents'
module _ (image : List ℕ) (n : ℕ) (falls : (p : ℕ) → p < n → subpatterns_below image p ≡ true) where
  -- levels enough are as good as more
  enough : (f g p : ℕ) → p < f → p < g → p < n → tree_of f image p ≡ tree_of g image p
  unfolding tree_of node subpatterns_below
  enough zero g p a b h = absurd (omega arith)
  enough (suc f) zero p a b h = absurd (omega arith)
  enough (suc f) (suc g) p a b h =
      node_same (tree_of f image) (tree_of g image) p (λ q lt. enough f g q (omega arith) (omega arith) (lt_trans lt h)) (pat_kind (pat_at image p).kind) image _ _ (falls p h)

  one_level : (p : ℕ) → p < n → tree image p ≡ node (tree image) image p
  unfolding tree tree_of node subpatterns_below
  one_level p h =
      node_same (tree_of p image) (tree image) p (λ q lt. enough p (suc q) q lt (omega arith) (lt_trans lt h)) (pat_kind (pat_at image p).kind) image _ _ (falls p h)

-- The theorem: no count of levels is left in it.
pub tree_node : (image : List ℕ) (p : ℕ) → valid image ≡ true → p < pattern_count image → tree image p ≡ node (tree image) image p
unfolding valid
tree_node image p v h = one_level image (pattern_count image) (λ q lt. below_at (subpatterns_below image) (pattern_count image) q (all_true_at (rules image) 8 v) lt) p h
