-- The items and the rest of a slice pattern, by the ways through the code. Assumes nothing.
use Prim.Native.Nat.{ℕ, ◌<◌}
use mathlib.Core.Path.{◌≡◌, refl}
use mathlib.Core.Bool.{Bool, true, false}
use mathlib.Core.List.{List}
use native.Mathlib.Omega.{arith}
use borrow.Author.Tests.{ltb-true, lt-ltb, eq-eqb, ne_eqb}
use lib.Dec.{eqb, leb, ltb}
use Rattle.image.specs.declared.kinds.PatKind.{PatKind}
use Rattle.image.specs.declared.rows.PatRow.{PatRow}
use Rattle.image.specs.declared.rows.TypeRow.{TypeRow}
use Rattle.image.specs.Tables.{pattern_count}
use Rattle.image.specs.Kinds.{pat_kind}
use Rattle.image.specs.Rows.{type_at, pat_at}
use Rattle.image.specs.Lists.{all_in}
use Rattle.image.specs.Rules.{absent}
use Rattle.image.specs.Subpatterns.{if_present, subpatterns_by}
use Rattle.image.specs.Types.{ty_of}
use Rattle.image.specs.Tree.{Head, Pat, no, sub, tree?, node_by, tree}
use Rattle.image.specs.Valid.{valid}
use Rattle.image.proofs.Bools.{and_left}
use Rattle.meaning.specs.Fit.{items_fit, is_rest, is_rest?, rest_fits}
use Rattle.fit_shapes.specs.Slices.{pattern_or_absent, rest_kind}
use Rattle.fit_shapes.proofs.Shaped.{array_of_lem}
use Rattle.fit_shapes.proofs.Nodes.{head_of, node_of_lem, subs_below}

-- a pattern that is absent, and one that is not
module _ (g : ℕ → Pat) (q : ℕ) where
  pub tree_absent : q ≡ absent → tree? g q ≡ no
  unfolding tree?
  tree_absent e = rw (eq-eqb q absent e)

  pub tree_there : (q ≡ absent → ⊥) → tree? g q ≡ sub (g q)
  unfolding tree?
  tree_there h = rw (ne_eqb q absent h)

-- `items_fit`: an array
module _ (image : List ℕ) (t : ℕ) {row : TypeRow} (at : row ≡ type_at image t) (is : row.kind ≡ 8) (rest count : ℕ) where
  pub items_no_rest : rest ≡ absent → eqb count row.b ≡ items_fit (ty_of image t).shape (tree? (tree image) rest) count
  unfolding items_fit
  items_no_rest e = rw (array_of_lem image t at is, tree_absent (tree image) rest e)

  pub items_rest : (rest ≡ absent → ⊥) → leb count row.b ≡ items_fit (ty_of image t).shape (tree? (tree image) rest) count
  unfolding items_fit
  items_rest h = rw (array_of_lem image t at is, tree_there (tree image) rest h)

-- the kind of a pattern's node says whether it is a Rest
rest_node_lem : (k : PatKind) (g : ℕ → Pat) (image : List ℕ) (h : Head) (row : PatRow) → rest_kind k ≡ is_rest (node_by k g image h row)
unfolding node_by
rest_node_lem PatKind.Missing g image h row = refl
rest_node_lem PatKind.Rest g image h row = refl
rest_node_lem PatKind.NotNull g image h row = refl
rest_node_lem PatKind.Wild g image h row = refl
rest_node_lem PatKind.Tuple g image h row = refl
rest_node_lem PatKind.Or g image h row = refl
rest_node_lem PatKind.Record g image h row = refl
rest_node_lem PatKind.Range g image h row = refl
rest_node_lem PatKind.Slice g image h row = refl
rest_node_lem PatKind.Path g image h row = refl
rest_node_lem PatKind.Lit g image h row = refl
rest_node_lem PatKind.Bind g image h row = refl
rest_node_lem PatKind.TupleStruct g image h row = refl
rest_node_lem PatKind.Ref g image h row = refl
rest_node_lem PatKind.Expr g image h row = refl
rest_node_lem PatKind.Box g image h row = refl
rest_node_lem PatKind.Deref g image h row = refl
rest_node_lem PatKind.Unknown g image h row = refl

module _ (image : List ℕ) (q : ℕ) where
  -- a number that is not absent names a pattern
  pub pattern_inside : (q ≡ absent → ⊥) → pattern_or_absent image q ≡ true → q < pattern_count image
  pattern_inside h e = ltb-true q (pattern_count image) (rw (ne_eqb q absent h) at e)

  -- `is_rest` and `rest_fits`: nothing there
  pub rest_none : q ≡ absent → false ≡ is_rest? (tree? (tree image) q)
  rest_none e = rw (tree_absent (tree image) q e)

  pub no_rest_lem : q ≡ absent → true ≡ rest_fits (tree? (tree image) q)
  unfolding rest_fits
  no_rest_lem e = rw (tree_absent (tree image) q e)

  module _ (there : q ≡ absent → ⊥) (holds : valid image ≡ true) (inside : q < pattern_count image) {row : PatRow} (at : row ≡ pat_at image q) {kind : PatKind} (told : kind ≡ pat_kind row.kind) where
    pub rest_there : rest_kind kind ≡ is_rest? (tree? (tree image) q)
    rest_there = rw (tree_there (tree image) q there, node_of_lem image q at holds inside told) (rest_node_lem kind (tree image) image (head_of q row) row)

    pub rest_by_lem : (is : PatKind) → kind ≡ is → rest_fits (sub (node_by is (tree image) image (head_of q row) row)) ≡ rest_fits (tree? (tree image) q)
    rest_by_lem is k = rw (tree_there (tree image) q there, node_of_lem image q at holds inside told, k)

    -- the subpattern of a Bind
    pub bound_inside : kind ≡ PatKind.Bind → pattern_or_absent image row.b ≡ true
    unfolding subpatterns_by if_present
    bound_inside k = go (eqb row.b absent) refl (rw k at (subs_below image q at holds inside told))
      where
        go : (t : Bool) → eqb row.b absent ≡ t → all_in (λ s. ltb s q) (if_present row.b) ≡ true → pattern_or_absent image row.b ≡ true
        go true e below = rw e
        go false e below =
            let less = ltb-true row.b q (and_left (ltb row.b q) true (unfold all_in in (rw e at below))) in
            rw (e, lt-ltb row.b (pattern_count image) (omega arith))
