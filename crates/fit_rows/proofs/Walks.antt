-- A walk over a row of patterns: what is asked of the row is asked of its first pattern and of the row without it. Assumes nothing.
use Prim.Native.Nat.{ℕ, ◌+◌, ◌<◌}
use mathlib.Core.Path.{◌≡◌, refl, sym, ap, ap₂, ◌∙◌}
use mathlib.Core.Bool.{Bool, true, ◌&&◌, ◌||◌, and-true}
use mathlib.Core.List.{List, [], ◌++◌, append-nil}
use native.Mathlib.Omega.{arith}
use borrow.Author.Tests.{lt-ltb}
use Rattle.image.specs.Tables.{pattern_count}
use Rattle.image.specs.Tree.{trees, tree}
use Rattle.image.specs.Valid.{valid}
use Rattle.meaning.specs.Fit.{BoundAt, bound_in, bound_in_all, bindings_fit, all_bindings_fit}
use Rattle.fit_rows.specs.declared.nodes.Row.{Row}
use Rattle.fit_rows.specs.declared.nodes.Node.{Node}
use Rattle.fit_rows.specs.Nodes.{number_at, numbers, row_trees, there, Lies, rest_of, one_row, node_of, telling_of}
use Rattle.fit_rows.specs.Bound.{any_of, all_of, owned, bound_in_row, joins}
use Rattle.fit_rows.proofs.Lists.{any_append, all_append}
use Rattle.fit_rows.proofs.Rows.{row_next, row_none, first_of_lem, first_there, rest_lies, telling_lies, telling_below}
use Rattle.fit_rows.proofs.Known.{node_below, node_lies}
use Rattle.fit_rows.proofs.Bindings.{node_any, node_all}
use Rattle.fit_rows.proofs.Fitting.{node_fits_lem}

-- the row that a walk is at: it lies there, and its bound is that of the row at which the walk began
pub record At (image : List ℕ) (row left : Row) : Type 0 where
  pub lies : Lies image left
  pub below : left.below ≡ row.below

pub at_start_lem : {image : List ℕ} {row : Row} → Lies image row → At image row row
at_start_lem l = record { lies = l; below = refl }

-- the first pattern, and its node
module _ {image : List ℕ} {row left : Row} (a : At image row left) (ne : left.count ≡ 0 → ⊥) where
  -- the walk goes on
  pub at_next : {next : Row} → next ≡ rest_of left → At image row next
  at_next e = rw e (record { lies = rest_lies a.lies ne; below = a.below })

  module _ {p : ℕ} (first : p ≡ number_at image left.step left.from) where
    pub at_pattern : p < pattern_count image
    at_pattern = omega (arith, first, first_there a.lies ne)

    pub at_below : p < row.below
    at_below = omega (arith, first, (first_of_lem a.lies ne).below, a.below)

    module _ (v : valid image ≡ true) {node : Node} (is : node ≡ node_of image p) where
      pub node_row_lies : Lies image node.row
      node_row_lies = rw is (node_lies image p v at_pattern)

      pub node_row_below : node.row.below < row.below
      node_row_below = let same : node.row.below ≡ p = rw is (node_below image p) in omega (arith, same, at_below)

      pub node_telling_lies : {sub : Row} → sub ≡ telling_of node → Lies image sub
      node_telling_lies e = rw e (telling_lies node node_row_lies)

      pub node_telling_below : {sub : Row} → sub ≡ telling_of node → sub.below < row.below
      node_telling_below {sub = sub} e = let same : sub.below ≡ node.row.below = rw e (telling_below node) in omega (arith, same, node_row_below)

      -- the bindings of the row
      row_bound : bound_in_row image left ≡ bound_in image (tree image p) ++ bound_in_row image (rest_of left)
      unfolding bound_in_all
      row_bound = ap (bound_in_all image) (row_next image left ne) ∙ ap (λ (q : ℕ). bound_in image (tree image q) ++ bound_in_row image (rest_of left)) (sym first)

      -- one of them
      pub any_here : (f : BoundAt → Bool) {x y : Bool} {sub : Row} → sub ≡ telling_of node → x ≡ any_of f (owned node.own) → y ≡ any_of f (bound_in_row image sub) →
          any_of f (bound_in_row image left) ≡ (x || y) || any_of f (bound_in_row image (rest_of left))
      any_here f {x = x} {y = y} e d g =
          let own : x ≡ any_of f (owned (node_of image p).own) = d ∙ ap (λ (n : Node). any_of f (owned n.own)) is in
          let under : y ≡ any_of f (bound_in_row image (telling_of (node_of image p))) = g ∙ ap (λ (s : Row). any_of f (bound_in_row image s)) (e ∙ ap telling_of is) in
          ap (any_of f) row_bound
          ∙ any_append f (bound_in image (tree image p)) (bound_in_row image (rest_of left))
          ∙ ap (λ (c : Bool). c || any_of f (bound_in_row image (rest_of left))) (node_any image p v at_pattern f ∙ sym (ap₂ ◌||◌ own under))

      -- all of them
      pub all_here : (f : BoundAt → Bool) {x y : Bool} {sub : Row} → sub ≡ telling_of node → x ≡ all_of f (owned node.own) → y ≡ all_of f (bound_in_row image sub) →
          all_of f (bound_in_row image left) ≡ x && y && all_of f (bound_in_row image (rest_of left))
      all_here f {x = x} {y = y} e d g =
          let own : x ≡ all_of f (owned (node_of image p).own) = d ∙ ap (λ (n : Node). all_of f (owned n.own)) is in
          let under : y ≡ all_of f (bound_in_row image (telling_of (node_of image p))) = g ∙ ap (λ (s : Row). all_of f (bound_in_row image s)) (e ∙ ap telling_of is) in
          ap (all_of f) row_bound
          ∙ all_append f (bound_in image (tree image p)) (bound_in_row image (rest_of left))
          ∙ ap (λ (c : Bool). c && all_of f (bound_in_row image (rest_of left))) (node_all image p v at_pattern f ∙ sym (ap₂ ◌&&◌ own under))

      -- that the patterns fit
      pub fit_here : {x y : Bool} → x ≡ all_bindings_fit image (row_trees image node.row) → y ≡ joins image node →
          all_bindings_fit image (row_trees image left) ≡ y && x && all_bindings_fit image (row_trees image (rest_of left))
      unfolding all_bindings_fit
      fit_here {x = x} {y = y} d e =
          let fits : x ≡ all_bindings_fit image (row_trees image (node_of image p).row) = d ∙ ap (λ (n : Node). all_bindings_fit image (row_trees image n.row)) is in
          let joined : y ≡ joins image (node_of image p) = e ∙ ap (joins image) is in
          ap (all_bindings_fit image) (row_next image left ne)
          ∙ ap (λ (q : ℕ). bindings_fit image (tree image q) && all_bindings_fit image (row_trees image (rest_of left))) (sym first)
          ∙ ap (λ (c : Bool). c && all_bindings_fit image (row_trees image (rest_of left))) (node_fits_lem image p v at_pattern ∙ sym (ap₂ ◌&&◌ joined fits))

-- the bindings of no pattern
pub bound_none : (image : List ℕ) (row : Row) → row.count ≡ 0 → bound_in_row image row ≡ []
unfolding bound_in_all
bound_none image row e = ap (bound_in_all image) (row_none image row e)

-- a row of one pattern
module _ (image : List ℕ) (p : ℕ) where
  pub one_lies : p < pattern_count image → Lies image (one_row (p + 1) p)
  unfolding there number_at
  one_lies h = record { found = rw (lt-ltb p (p + 1) (omega arith)) refl; bound = omega (arith, h) }

  pub one_bound : (n : ℕ) → bound_in_row image (one_row n p) ≡ bound_in image (tree image p)
  unfolding bound_in_all trees numbers number_at
  one_bound n = append-nil (bound_in image (tree image p))

  pub one_fits : (n : ℕ) → all_bindings_fit image (row_trees image (one_row n p)) ≡ bindings_fit image (tree image p)
  unfolding all_bindings_fit trees numbers number_at
  one_fits n = and-true (bindings_fit image (tree image p))
