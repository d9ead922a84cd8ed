-- A pattern fits where its subpatterns fit and are joined as it asks. Assumes nothing.
use Prim.Native.Nat.{ℕ, ◌+◌, ◌<◌}
use mathlib.Core.Path.{◌≡◌, refl, sym, ap, subst, ◌∙◌}
use mathlib.Core.Bool.{Bool, true, false, cond, ◌&&◌, and-true, and-false, and_assoc}
use mathlib.Core.List.{List, [], ◌∷◌, ◌++◌}
use lib.Dec.{eqb}
use Rattle.image.specs.declared.kinds.PatKind.{PatKind}
use Rattle.image.specs.declared.rows.PatRow.{PatRow}
use Rattle.image.specs.Tables.{pattern_count}
use Rattle.image.specs.Kinds.{pat_kind}
use Rattle.image.specs.Rows.{pat_at}
use Rattle.image.specs.Lists.{distinct}
use Rattle.image.specs.Rules.{absent, listed}
use Rattle.image.specs.Tree.{Pat, Pats, nil, cons, no, sub, trees, tree?, tree, node}
use Rattle.image.specs.Valid.{valid}
use Rattle.image.proofs.Bools.{and_left, and_right}
use Rattle.image.proofs.Trees.{tree_node}
use Rattle.meaning.specs.Fit.{bound_in, bound_in_all, bound_in_first, bindings_fit, all_bindings_fit, bindings_fit?, alternatives_fit}
use Rattle.fit_rows.specs.declared.nodes.Row.{Row}
use Rattle.fit_rows.specs.declared.nodes.Node.{Node}
use Rattle.fit_rows.specs.declared.found.Test.{Test}
use Rattle.fit_rows.specs.Nodes.{number_at, numbers, row_trees, node_by, node_of, telling_of}
use Rattle.fit_rows.specs.Bound.{all_of, agrees, owned, bound_in_row, joins}
use Rattle.fit_rows.proofs.Lists.{once, once_split}
use Rattle.fit_rows.proofs.Known.{listed_append}
use Rattle.fit_rows.proofs.Bindings.{head_of, numbers_listed, node_split}

module _ (image : List ℕ) where
  mutual
    unfolding bindings_fit bound_in distinct all_bindings_fit bound_in_first

    -- no binding stands twice in a pattern that fits
    pub fit_once : (q : Pat) → bindings_fit image q ≡ true → once (bound_in image q) ≡ true
    fit_once (Pat.Missing h) e = refl
    fit_once (Pat.Rest h) e = refl
    fit_once (Pat.NotNull h) e = refl
    fit_once (Pat.Wild h) e = refl
    fit_once (Pat.Tuple h args ellipsis) e = and_left (once (bound_in_all image args)) (all_bindings_fit image args) e
    fit_once (Pat.Or h alts) e = first_once alts (and_right (alternatives_fit image alts) (all_bindings_fit image alts) e)
    fit_once (Pat.Record h fields args v) e = and_left (once (bound_in_all image args)) (all_bindings_fit image args) e
    fit_once (Pat.Range h start end halfOpen) e = refl
    fit_once (Pat.Slice h prefix rest suffix) e =
        let own = once (bound_in image (Pat.Slice h prefix rest suffix)) in
        and_left own (all_bindings_fit image prefix) (and_left (own && all_bindings_fit image prefix) (all_bindings_fit image suffix) e)
    fit_once (Pat.Path h target) e = refl
    fit_once (Pat.Lit h operand) e = refl
    fit_once (Pat.Bind h b s how annotation) e = and_left (once (bound_in image (Pat.Bind h b s how annotation))) (bindings_fit? image s) e
    fit_once (Pat.TupleStruct h args ellipsis v) e = and_left (once (bound_in_all image args)) (all_bindings_fit image args) e
    fit_once (Pat.Ref h s) e = fit_once s e
    fit_once (Pat.Expr h) e = refl
    fit_once (Pat.Box h) e = refl
    fit_once (Pat.Deref h) e = refl

    -- nor in the first of patterns that fit
    first_once : (qs : Pats) → all_bindings_fit image qs ≡ true → once (bound_in_first image qs) ≡ true
    first_once nil e = refl
    first_once (cons q qs) e = fit_once q (and_left (bindings_fit image q) (all_bindings_fit image qs) e)

  -- of two rows joined
  fit_append : (g : ℕ → Pat) (xs ys : List ℕ) → all_bindings_fit image (trees g (xs ++ ys)) ≡ all_bindings_fit image (trees g xs) && all_bindings_fit image (trees g ys)
  unfolding all_bindings_fit trees
  fit_append g [] ys = refl
  fit_append g (x ∷ xs) ys = ap (λ (b : Bool). bindings_fit image (g x) && b) (fit_append g xs ys) ∙ sym (and_assoc (bindings_fit image (g x)) (all_bindings_fit image (trees g xs)) (all_bindings_fit image (trees g ys)))

  -- of a subpattern that may be absent
  fit_present : (g : ℕ → Pat) (q : ℕ) → bindings_fit? image (tree? g q) ≡ all_bindings_fit image (trees g (numbers image 0 q (cond (eqb q absent) 0 1)))
  unfolding tree? bindings_fit? all_bindings_fit trees numbers number_at
  fit_present g q = by (eqb q absent)
    where
      by : (b : Bool) → bindings_fit? image (cond b no (sub (g q))) ≡ all_bindings_fit image (trees g (numbers image 0 q (cond b 0 1)))
      by true = refl
      by false = sym (and-true (bindings_fit image (g q)))

  -- what a pattern asks of its subpatterns beside that they fit
  abbrev asks : Node → Pat → Bool
  asks n q = cond n.alternatives (alternatives_fit image (row_trees image n.row)) (once (bound_in image q))

  -- a pattern fits, by its kind
  fit_by : (k : PatKind) (p : ℕ) (row : PatRow) →
      bindings_fit image (Rattle.image.specs.Tree.node_by k (tree image) image (head_of p row) row)
      ≡ asks (node_by k image p row) (Rattle.image.specs.Tree.node_by k (tree image) image (head_of p row) row) && all_bindings_fit image (row_trees image (node_by k image p row).row)
  unfolding bindings_fit Rattle.image.specs.Tree.node_by node_by bound_in distinct all_bindings_fit trees numbers number_at
  fit_by PatKind.Missing p row = refl
  fit_by PatKind.Rest p row = refl
  fit_by PatKind.NotNull p row = refl
  fit_by PatKind.Wild p row = refl
  fit_by PatKind.Tuple p row =
      ap (λ (xs : List ℕ). once (bound_in_all image (trees (tree image) (listed image 1 row.a row.b))) && all_bindings_fit image (trees (tree image) xs)) (sym (numbers_listed image 0 row.a row.b))
  fit_by PatKind.Or p row =
      ap (λ (xs : List ℕ). alternatives_fit image (trees (tree image) xs) && all_bindings_fit image (trees (tree image) xs)) (sym (numbers_listed image 0 row.a row.b))
  fit_by PatKind.Record p row =
      ap (λ (xs : List ℕ). once (bound_in_all image (trees (tree image) (listed image 2 (row.a + 1) row.b))) && all_bindings_fit image (trees (tree image) xs)) (sym (numbers_listed image 1 (row.a + 1) row.b))
  fit_by PatKind.Range p row = refl
  fit_by PatKind.Slice p row =
      let g = tree image in
      let prefix = listed image 1 row.a row.b in
      let suffix = listed image 1 (row.a + row.b) row.c in
      let own = once (bound_in image (Rattle.image.specs.Tree.node_by PatKind.Slice (tree image) image (head_of p row) row)) in
      and_assoc own (all_bindings_fit image (trees g prefix)) (all_bindings_fit image (trees g suffix))
      ∙ ap (λ (b : Bool). own && b) (sym (fit_append g prefix suffix) ∙ ap (λ (xs : List ℕ). all_bindings_fit image (trees g xs)) (sym (numbers_listed image 0 row.a (row.b + row.c) ∙ listed_append image row.a row.b row.c)))
  fit_by PatKind.Path p row = refl
  fit_by PatKind.Lit p row = refl
  fit_by PatKind.Bind p row =
      ap (λ (b : Bool). once (bound_in image (Rattle.image.specs.Tree.node_by PatKind.Bind (tree image) image (head_of p row) row)) && b) (fit_present (tree image) row.b)
  fit_by PatKind.TupleStruct p row =
      ap (λ (xs : List ℕ). once (bound_in_all image (trees (tree image) (listed image 1 row.a row.b))) && all_bindings_fit image (trees (tree image) xs)) (sym (numbers_listed image 0 row.a row.b))
  fit_by PatKind.Ref p row = by (bindings_fit image (tree image row.a)) (fit_once (tree image row.a))
    where
      by : (b : Bool) → (b ≡ true → once (bound_in image (tree image row.a)) ≡ true) → b ≡ once (bound_in image (tree image row.a)) && (b && true)
      by true f = sym (ap (λ (c : Bool). c && true) (f refl))
      by false f = sym (and-false (once (bound_in image (tree image row.a))))
  fit_by PatKind.Expr p row = refl
  fit_by PatKind.Box p row = refl
  fit_by PatKind.Deref p row = refl
  fit_by PatKind.Unknown p row = refl

  module _ (p : ℕ) (v : valid image ≡ true) (h : p < pattern_count image) where
    asks_joins : asks (node_of image p) (tree image p) ≡ joins image (node_of image p)
    unfolding joins telling_of
    asks_joins = by (node_of image p).alternatives (unfold telling_of in once_split (node_of image p).own (node_split image p v h))
      where
        n : Node
        n = node_of image p

        cut : Bool → Row
        cut b = cond b (record { below = n.row.below; step = n.row.step; from = n.row.from; count = Rattle.fit_rows.specs.Nodes.first_only n.row.count }) n.row

        by : (b : Bool) → once (bound_in image (tree image p)) ≡ all_of (agrees Test.Apart (bound_in_row image (cut b))) (owned n.own) && once (bound_in_row image (cut b)) →
            cond b (alternatives_fit image (row_trees image n.row)) (once (bound_in image (tree image p)))
            ≡ cond b (alternatives_fit image (row_trees image n.row)) (all_of (agrees Test.Apart (bound_in_row image n.row)) (owned n.own) && once (bound_in_row image n.row))
        by true e = refl
        by false e = e

    -- the theorem
    pub node_fits_lem : bindings_fit image (tree image p) ≡ joins image (node_of image p) && all_bindings_fit image (row_trees image (node_of image p).row)
    node_fits_lem =
        subst (λ (q : Pat). bindings_fit image q ≡ asks (node_of image p) q && all_bindings_fit image (row_trees image (node_of image p).row)) (sym (tree_node image p v h))
        (unfold node in fit_by (pat_kind (pat_at image p).kind) p (pat_at image p))
        ∙ ap (λ (b : Bool). b && all_bindings_fit image (row_trees image (node_of image p).row)) asks_joins
