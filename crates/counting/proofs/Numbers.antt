-- How often a number stands in a pattern tree: in the tree of a pattern of a valid image at most once. Assumes nothing.
use Prim.Native.Nat.{ℕ, ◌+◌, ◌≤◌, ◌<◌}
use mathlib.Core.Path.{◌≡◌, refl, ap, ◌∙◌}
use mathlib.Core.Bool.{Bool, true, false, cond}
use mathlib.Core.List.{List, [], ◌∷◌, ◌++◌}
use native.Mathlib.Omega.{arith}
use lib.Dec.{eqb}
use Rattle.image.specs.declared.kinds.PatKind.{PatKind}
use Rattle.image.specs.declared.rows.PatRow.{PatRow}
use Rattle.image.specs.Tables.{pattern_count}
use Rattle.image.specs.Kinds.{pat_kind}
use Rattle.image.specs.Rows.{pat_at}
use Rattle.image.specs.Lists.{gather}
use Rattle.image.specs.Rules.{absent, listed}
use Rattle.image.specs.Subpatterns.{if_present, subpatterns_by, subpatterns}
use Rattle.image.specs.Patterns.{subpatterns_below, used_once}
use Rattle.image.specs.Valid.{rules, valid}
use Rattle.image.specs.Tree.{Head, Pat, Pats, nil, cons, PatOpt, no, sub, trees, tree?, node_by, node, tree}
use Rattle.image.proofs.Bools.{all_true_at, below_at}
use Rattle.image.proofs.Trees.{tree_node}
use Rattle.counting.proofs.Tallies.{hit, sum_of, count, sum_append, count_below, count_distinct, at_most_once}

-- how often n stands in a tree (in the node, and in what is below it: 0 where that is nothing), in trees in a row, and in one that may be absent
module _ (n : ℕ) where
  unfoldable mutual
    pub times : Pat → ℕ
    times (Pat.Missing h) = hit n h.number + 0
    times (Pat.Rest h) = hit n h.number + 0
    times (Pat.NotNull h) = hit n h.number + 0
    times (Pat.Wild h) = hit n h.number + 0
    times (Pat.Tuple h args ellipsis) = hit n h.number + times_all args
    times (Pat.Or h alts) = hit n h.number + times_all alts
    times (Pat.Record h fields args v) = hit n h.number + times_all args
    times (Pat.Range h start end halfOpen) = hit n h.number + 0
    times (Pat.Slice h prefix rest suffix) = hit n h.number + (times_all prefix + (times_all suffix + times? rest))
    times (Pat.Path h target) = hit n h.number + 0
    times (Pat.Lit h operand) = hit n h.number + 0
    times (Pat.Bind h b s how annotation) = hit n h.number + times? s
    times (Pat.TupleStruct h args ellipsis v) = hit n h.number + times_all args
    times (Pat.Ref h s) = hit n h.number + (times s + 0)
    times (Pat.Expr h) = hit n h.number + 0
    times (Pat.Box h) = hit n h.number + 0
    times (Pat.Deref h) = hit n h.number + 0

    pub times_all : Pats → ℕ
    times_all nil = 0
    times_all (cons q qs) = times q + times_all qs

    pub times? : PatOpt → ℕ
    times? no = 0
    times? (sub s) = times s + 0

-- in the trees that g has of numbers
module _ (n : ℕ) (g : ℕ → Pat) where
  times_trees : (qs : List ℕ) → times_all n (trees g qs) ≡ sum_of (λ q. times n (g q)) qs
  unfolding times_all trees sum_of
  times_trees [] = refl
  times_trees (q ∷ qs) = ap (λ (x : ℕ). times n (g q) + x) (times_trees qs)

  times_tree? : (q : ℕ) → times? n (tree? g q) ≡ sum_of (λ q. times n (g q)) (if_present q)
  unfolding times? tree? if_present sum_of
  times_tree? q = go (eqb q absent)
    where
      go : (t : Bool) → times? n (cond t no (sub (g q))) ≡ sum_of (λ q. times n (g q)) (cond t [] (q ∷ []))
      go true = refl
      go false = refl

  -- in a node: in the node itself, and in the trees of its subpatterns
  times_node : (k : PatKind) (image : List ℕ) (h : Head) (row : PatRow) →
      times n (node_by k g image h row) ≡ hit n h.number + sum_of (λ q. times n (g q)) (subpatterns_by k image row)
  unfolding times node_by subpatterns_by sum_of
  times_node PatKind.Missing image h row = refl
  times_node PatKind.Rest image h row = refl
  times_node PatKind.NotNull image h row = refl
  times_node PatKind.Wild image h row = refl
  times_node PatKind.Tuple image h row = ap (λ (x : ℕ). hit n h.number + x) (times_trees (listed image 1 row.a row.b))
  times_node PatKind.Or image h row = ap (λ (x : ℕ). hit n h.number + x) (times_trees (listed image 1 row.a row.b))
  times_node PatKind.Record image h row = ap (λ (x : ℕ). hit n h.number + x) (times_trees (listed image 2 (row.a + 1) row.b))
  times_node PatKind.Range image h row = refl
  times_node PatKind.Slice image h row =
      let prefix = listed image 1 row.a row.b in
      let suffix = listed image 1 (row.a + row.b) row.c in
      let a = times_trees prefix in
      let b = times_trees suffix in
      let c = times_tree? row.d in
      let d = sum_append (λ q. times n (g q)) prefix (suffix ++ if_present row.d) in
      let e = sum_append (λ q. times n (g q)) suffix (if_present row.d) in
      omega (arith, a, b, c, d, e)
  times_node PatKind.Path image h row = refl
  times_node PatKind.Lit image h row = refl
  times_node PatKind.Bind image h row = ap (λ (x : ℕ). hit n h.number + x) (times_tree? row.b)
  times_node PatKind.TupleStruct image h row = ap (λ (x : ℕ). hit n h.number + x) (times_trees (listed image 1 row.a row.b))
  times_node PatKind.Ref image h row = refl
  times_node PatKind.Expr image h row = refl
  times_node PatKind.Box image h row = refl
  times_node PatKind.Deref image h row = refl
  times_node PatKind.Unknown image h row = refl

-- The theorem: in the tree of a pattern of a valid image every number stands at most once.
pub times_once : (image : List ℕ) (n p : ℕ) → valid image ≡ true → p < pattern_count image → times n (tree image p) ≤ 1
times_once image n p v h = at_most_once (subpatterns image) (λ q. times n (tree image q)) n (pattern_count image) falls level once p h
  where
    falls : (p q : ℕ) → p < pattern_count image → p ≤ q → count q (subpatterns image p) ≡ 0
    falls p q lt le =
        count_below p q (subpatterns image p)
        (unfold subpatterns_below in below_at (subpatterns_below image) (pattern_count image) p (all_true_at (rules image) 8 (unfold valid in v)) lt) le

    level : (p : ℕ) → p < pattern_count image → times n (tree image p) ≡ hit n p + sum_of (λ q. times n (tree image q)) (subpatterns image p)
    level p lt =
        ap (times n) (tree_node image p v lt)
        ∙ (unfold node in times_node n (tree image) (pat_kind (pat_at image p).kind) image (record { number = p; ty = (pat_at image p).ty; derefs = (pat_at image p).derefs }) (pat_at image p))

    once : (q : ℕ) → count q (gather (subpatterns image) 0 (pattern_count image)) ≤ 1
    once q = count_distinct q (gather (subpatterns image) 0 (pattern_count image)) (unfold used_once in all_true_at (rules image) 9 (unfold valid in v))
