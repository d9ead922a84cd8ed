-- What a pattern asks of its subpatterns: the ways through the functions that compare alternatives, and that look for a binding that stands twice.
-- Assumes nothing.
use Prim.Native.Nat.{ℕ, ◌+◌, ◌<◌}
use mathlib.Core.Path.{◌≡◌, refl, sym, ap, ap₂, ◌∙◌}
use mathlib.Core.Bool.{Bool, true, false, ◌&&◌}
use mathlib.Core.List.{List, ◌++◌}
use Rattle.image.specs.Tables.{pattern_count}
use Rattle.image.specs.Lists.{distinct}
use Rattle.image.specs.Tree.{tree}
use Rattle.image.proofs.Bools.{and_left, and_right}
use Rattle.meaning.specs.Fit.{BoundAt, within, same_bindings, bound_in, bound_in_all, bindings_fit, all_bindings_fit, alternatives_fit, all_bind}
use Rattle.fit_rows.specs.declared.nodes.Row.{Row}
use Rattle.fit_rows.specs.declared.nodes.Node.{Node}
use Rattle.fit_rows.specs.declared.found.Test.{Test}
use Rattle.fit_rows.specs.Nodes.{number_at, row_trees, Lies, rest_of, one_row}
use Rattle.fit_rows.specs.Bound.{all_of, agrees, owned, bound_in_row, joins}
use Rattle.fit_rows.proofs.Lists.{once, once_append, within_all}
use Rattle.fit_rows.proofs.Rows.{row_next, row_none, rest_lies}
use Rattle.fit_rows.proofs.Fitting.{fit_once}
use Rattle.fit_rows.proofs.Walks.{bound_none, one_lies, one_bound, one_fits}

-- a row of one pattern
pub one_there : {image : List ℕ} {p : ℕ} {a : Row} → p < pattern_count image → a ≡ one_row (p + 1) p → Lies image a
one_there {image = image} {p = p} h e = rw e (one_lies image p h)

-- `bindings_fit`
pub one_joined : (image : List ℕ) (p : ℕ) {a : Row} {x : Bool} → a ≡ one_row (p + 1) p → x ≡ all_bindings_fit image (row_trees image a) → x ≡ bindings_fit image (tree image p)
one_joined image p is e = e ∙ ap (λ (r : Row). all_bindings_fit image (row_trees image r)) is ∙ one_fits image p (p + 1)

-- the bindings of one pattern stand among those of another
within_is : (image : List ℕ) {p q : ℕ} {a b : Row} → a ≡ one_row (p + 1) p → b ≡ one_row (q + 1) q → all_of (agrees Test.Same (bound_in_row image b)) (bound_in_row image a) ≡ within (bound_in image (tree image p)) (bound_in image (tree image q))
within_is image {p = p} {q = q} d e =
    ap₂ (λ (xs ys : List BoundAt). all_of (agrees Test.Same ys) xs) (ap (bound_in_row image) d ∙ one_bound image p (p + 1)) (ap (bound_in_row image) e ∙ one_bound image q (q + 1))
    ∙ sym (within_all (bound_in image (tree image p)) (bound_in image (tree image q)))

-- `same`
module _ (image : List ℕ) (p q : ℕ) {a b : Row} (is : a ≡ one_row (p + 1) p) (its : b ≡ one_row (q + 1) q) {x : Bool} (one : x ≡ all_of (agrees Test.Same (bound_in_row image b)) (bound_in_row image a)) where
  pub same_differs : x ≡ false → false ≡ same_bindings (bound_in image (tree image p)) (bound_in image (tree image q))
  same_differs e = sym (ap (λ (c : Bool). c && within (bound_in image (tree image q)) (bound_in image (tree image p))) (sym (one ∙ within_is image is its) ∙ e))

  pub same_is : {y : Bool} → x ≡ true → y ≡ all_of (agrees Test.Same (bound_in_row image a)) (bound_in_row image b) → y ≡ same_bindings (bound_in image (tree image p)) (bound_in image (tree image q))
  same_is e f = sym (ap₂ ◌&&◌ (sym (one ∙ within_is image is its) ∙ e) (sym (f ∙ within_is image its is)))

-- `alternatives_fit`: the others from a row on
pub record Comparing (image : List ℕ) (p : ℕ) (others left : Row) : Type 0 where
  pub lies : Lies image left
  pub same : all_bind image (bound_in image (tree image p)) (row_trees image others) ≡ all_bind image (bound_in image (tree image p)) (row_trees image left)

pub comparing_none : (image : List ℕ) (row : Row) → row.count ≡ 0 → false ≡ alternatives_fit image (row_trees image row)
unfolding alternatives_fit
comparing_none image row e = sym (ap (alternatives_fit image) (row_none image row e))

pub comparing_start : {image : List ℕ} {row others : Row} (p : ℕ) → Lies image row → (row.count ≡ 0 → ⊥) → others ≡ rest_of row → Comparing image p others others
comparing_start p l ne n = record { lies = rw n (rest_lies l ne); same = refl }

pub comparing_at : {image : List ℕ} {p : ℕ} {others left next : Row} → next ≡ left → Comparing image p others left → Comparing image p others next
comparing_at e C = rw e C

-- the others bind what the first binds
pub compared : (image : List ℕ) (row : Row) {others : Row} {p : ℕ} → (row.count ≡ 0 → ⊥) → p ≡ number_at image row.step row.from → others ≡ rest_of row →
    all_bind image (bound_in image (tree image p)) (row_trees image others) ≡ alternatives_fit image (row_trees image row)
unfolding alternatives_fit
compared image row ne first n =
    ap₂ (λ (q : ℕ) (r : Row). all_bind image (bound_in image (tree image q)) (row_trees image r)) first n ∙ sym (ap (alternatives_fit image) (row_next image row ne))

module _ {image : List ℕ} {others left : Row} {p : ℕ} (C : Comparing image p others left) where
  pub comparing_end : left.count ≡ 0 → true ≡ all_bind image (bound_in image (tree image p)) (row_trees image others)
  unfolding all_bind
  comparing_end e = sym (C.same ∙ ap (all_bind image (bound_in image (tree image p))) (row_none image left e))

  module _ (ne : left.count ≡ 0 → ⊥) {q : ℕ} (first : q ≡ number_at image left.step left.from) {x : Bool} (is : x ≡ same_bindings (bound_in image (tree image p)) (bound_in image (tree image q))) where
    comparing_next : all_bind image (bound_in image (tree image p)) (row_trees image others) ≡ x && all_bind image (bound_in image (tree image p)) (row_trees image (rest_of left))
    unfolding all_bind
    comparing_next =
        C.same
        ∙ ap (all_bind image (bound_in image (tree image p))) (row_next image left ne)
        ∙ ap (λ (n : ℕ). same_bindings (bound_in image (tree image p)) (bound_in image (tree image n)) && all_bind image (bound_in image (tree image p)) (row_trees image (rest_of left))) (sym first)
        ∙ ap (λ (c : Bool). c && all_bind image (bound_in image (tree image p)) (row_trees image (rest_of left))) (sym is)

    pub comparing_differs : x ≡ false → false ≡ all_bind image (bound_in image (tree image p)) (row_trees image others)
    comparing_differs e = sym (comparing_next ∙ ap (λ (c : Bool). c && all_bind image (bound_in image (tree image p)) (row_trees image (rest_of left))) e)

    pub comparing_more : {next : Row} → x ≡ true → next ≡ rest_of left → Comparing image p others next
    comparing_more e n = record {
      lies = rw n (rest_lies C.lies ne);
      same =
          comparing_next
          ∙ ap (λ (c : Bool). c && all_bind image (bound_in image (tree image p)) (row_trees image (rest_of left))) e
          ∙ ap (λ (r : Row). all_bind image (bound_in image (tree image p)) (row_trees image r)) (sym n);
    }

-- `once`
pub record Apart (image : List ℕ) (row left : Row) : Type 0 where
  pub lies : Lies image left
  pub fits : all_bindings_fit image (row_trees image left) ≡ true
  pub same : once (bound_in_row image row) ≡ once (bound_in_row image left)

pub apart_start : {image : List ℕ} {row : Row} → Lies image row → all_bindings_fit image (row_trees image row) ≡ true → Apart image row row
apart_start l f = record { lies = l; fits = f; same = refl }

pub apart_at : {image : List ℕ} {row left next : Row} → next ≡ left → Apart image row left → Apart image row next
apart_at e A = rw e A

module _ {image : List ℕ} {row left : Row} (A : Apart image row left) where
  pub apart_end : left.count ≡ 0 → true ≡ once (bound_in_row image row)
  unfolding distinct
  apart_end e = sym (A.same ∙ ap once (bound_none image left e))

  module _ (ne : left.count ≡ 0 → ⊥) {p : ℕ} (first : p ≡ number_at image left.step left.from) {next : Row} (rest : next ≡ rest_of left) where
    both_fit : bindings_fit image (tree image p) && all_bindings_fit image (row_trees image next) ≡ true
    unfolding all_bindings_fit
    both_fit =
        ap₂ (λ (q : ℕ) (r : Row). bindings_fit image (tree image q) && all_bindings_fit image (row_trees image r)) first rest ∙ sym (ap (all_bindings_fit image) (row_next image left ne)) ∙ A.fits

    pub rest_there : Lies image next
    rest_there = rw rest (rest_lies A.lies ne)

    module _ {one : Row} (is : one ≡ one_row (p + 1) p) {x : Bool} (apart : x ≡ all_of (agrees Test.Apart (bound_in_row image next)) (bound_in_row image one)) where
      apart_next : once (bound_in_row image row) ≡ x && once (bound_in_row image next)
      unfolding bound_in_all
      apart_next =
          let b = bound_in image (tree image p) in
          A.same
          ∙ ap once (ap (bound_in_all image) (row_next image left ne))
          ∙ ap₂ (λ (q : ℕ) (r : Row). once (bound_in image (tree image q) ++ bound_in_row image r)) (sym first) (sym rest)
          ∙ once_append b (bound_in_row image next) (fit_once image (tree image p) (and_left (bindings_fit image (tree image p)) (all_bindings_fit image (row_trees image next)) both_fit))
          ∙ ap (λ (c : Bool). c && once (bound_in_row image next)) (sym (apart ∙ ap (all_of (agrees Test.Apart (bound_in_row image next))) (ap (bound_in_row image) is ∙ one_bound image p (p + 1))))

      pub apart_twice : x ≡ false → false ≡ once (bound_in_row image row)
      apart_twice e = sym (apart_next ∙ ap (λ (c : Bool). c && once (bound_in_row image next)) e)

      pub apart_more : x ≡ true → Apart image row next
      apart_more e = record {
        lies = rest_there;
        fits = and_right (bindings_fit image (tree image p)) (all_bindings_fit image (row_trees image next)) both_fit;
        same = apart_next ∙ ap (λ (c : Bool). c && once (bound_in_row image next)) e;
      }

-- `joined`
module _ (image : List ℕ) (node : Node) where
  pub joined_alternatives : node.alternatives ≡ true → alternatives_fit image (row_trees image node.row) ≡ joins image node
  unfolding joins
  joined_alternatives e = rw e refl

  module _ (e : node.alternatives ≡ false) {x : Bool} (own : x ≡ all_of (agrees Test.Apart (bound_in_row image node.row)) (owned node.own)) where
    pub joined_own : x ≡ false → false ≡ joins image node
    unfolding joins
    joined_own d = rw e (sym (ap (λ (c : Bool). c && once (bound_in_row image node.row)) (sym own ∙ d)))

    pub joined_once : {y : Bool} → x ≡ true → y ≡ once (bound_in_row image node.row) → y ≡ joins image node
    unfolding joins
    joined_once d f = rw e (f ∙ sym (ap (λ (c : Bool). c && once (bound_in_row image node.row)) (sym own ∙ d)))
