-- The invariants of the loops over a row of patterns: what is asked of the row at which the walk began is asked of the row that is left. Assumes nothing.
use Prim.Native.Nat.{ℕ}
use mathlib.Core.Path.{◌≡◌, refl, sym, ap, ap₂, ◌∙◌}
use mathlib.Core.Bool.{Bool, true, false, ◌&&◌, ◌||◌, and-false, or-true}
use mathlib.Core.List.{List}
use Rattle.image.specs.Valid.{valid}
use Rattle.meaning.specs.Fit.{BoundAt, all_bindings_fit}
use Rattle.fit_rows.specs.declared.nodes.Row.{Row}
use Rattle.fit_rows.specs.declared.nodes.Node.{Node}
use Rattle.fit_rows.specs.Nodes.{number_at, row_trees, Lies, rest_of, node_of, telling_of}
use Rattle.fit_rows.specs.Bound.{any_of, all_of, owned, bound_in_row, joins}
use Rattle.fit_rows.proofs.Rows.{row_none}
use Rattle.fit_rows.proofs.Walks.{At, at_start_lem, at_next, any_here, all_here, fit_here, bound_none}

-- `found`
pub record Finding (image : List ℕ) (f : BoundAt → Bool) (row left : Row) : Type 0 where
  pub walk : At image row left
  pub same : any_of f (bound_in_row image row) ≡ any_of f (bound_in_row image left)

pub finding_start : {image : List ℕ} {f : BoundAt → Bool} {row : Row} → Lies image row → Finding image f row row
finding_start l = record { walk = at_start_lem l; same = refl }

pub finding_at : {image : List ℕ} {f : BoundAt → Bool} {row left next : Row} → next ≡ left → Finding image f row left → Finding image f row next
finding_at e F = rw e F

module _ {image : List ℕ} {f : BoundAt → Bool} {row left : Row} (F : Finding image f row left) where
  pub finding_none : left.count ≡ 0 → false ≡ any_of f (bound_in_row image row)
  unfolding any_of
  finding_none e = sym (F.same ∙ ap (any_of f) (bound_none image left e))

  module _ (ne : left.count ≡ 0 → ⊥) (v : valid image ≡ true) {p : ℕ} (first : p ≡ number_at image left.step left.from) {node : Node} (is : node ≡ node_of image p) {x : Bool} (own : x ≡ any_of f (owned node.own)) where
    pub finding_own : x ≡ true → true ≡ any_of f (bound_in_row image row)
    finding_own e =
        let y = any_of f (bound_in_row image (telling_of node)) in
        let z = any_of f (bound_in_row image (rest_of left)) in
        sym (F.same ∙ any_here F.walk ne first v is f refl own refl ∙ ap (λ (b : Bool). (b || y) || z) e)

    module _ {sub : Row} (tells : sub ≡ telling_of node) {y : Bool} (under : y ≡ any_of f (bound_in_row image sub)) where
      pub finding_under : y ≡ true → true ≡ any_of f (bound_in_row image row)
      finding_under e =
          let z = any_of f (bound_in_row image (rest_of left)) in
          sym (F.same ∙ any_here F.walk ne first v is f tells own under ∙ ap (λ (b : Bool). (x || b) || z) e ∙ ap (λ (b : Bool). b || z) (or-true x))

      pub finding_more : {next : Row} → x ≡ false → y ≡ false → next ≡ rest_of left → Finding image f row next
      finding_more {next = next} d e n = record {
        walk = at_next F.walk ne n;
        same =
            F.same
            ∙ any_here F.walk ne first v is f tells own under
            ∙ ap₂ (λ (a b : Bool). (a || b) || any_of f (bound_in_row image (rest_of left))) d e
            ∙ ap (λ (r : Row). any_of f (bound_in_row image r)) (sym n);
      }

-- `each_agrees`
pub record Asking (image : List ℕ) (f : BoundAt → Bool) (row left : Row) : Type 0 where
  pub walk : At image row left
  pub same : all_of f (bound_in_row image row) ≡ all_of f (bound_in_row image left)

pub asking_start : {image : List ℕ} {f : BoundAt → Bool} {row : Row} → Lies image row → Asking image f row row
asking_start l = record { walk = at_start_lem l; same = refl }

pub asking_at : {image : List ℕ} {f : BoundAt → Bool} {row left next : Row} → next ≡ left → Asking image f row left → Asking image f row next
asking_at e F = rw e F

module _ {image : List ℕ} {f : BoundAt → Bool} {row left : Row} (F : Asking image f row left) where
  pub asking_none : left.count ≡ 0 → true ≡ all_of f (bound_in_row image row)
  unfolding all_of
  asking_none e = sym (F.same ∙ ap (all_of f) (bound_none image left e))

  module _ (ne : left.count ≡ 0 → ⊥) (v : valid image ≡ true) {p : ℕ} (first : p ≡ number_at image left.step left.from) {node : Node} (is : node ≡ node_of image p) {x : Bool} (own : x ≡ all_of f (owned node.own)) where
    pub asking_own : x ≡ false → false ≡ all_of f (bound_in_row image row)
    asking_own e =
        let y = all_of f (bound_in_row image (telling_of node)) in
        let z = all_of f (bound_in_row image (rest_of left)) in
        sym (F.same ∙ all_here F.walk ne first v is f refl own refl ∙ ap (λ (b : Bool). b && y && z) e)

    module _ {sub : Row} (tells : sub ≡ telling_of node) {y : Bool} (under : y ≡ all_of f (bound_in_row image sub)) where
      pub asking_under : y ≡ false → false ≡ all_of f (bound_in_row image row)
      asking_under e =
          let z = all_of f (bound_in_row image (rest_of left)) in
          sym (F.same ∙ all_here F.walk ne first v is f tells own under ∙ ap (λ (b : Bool). x && b && z) e ∙ ap (λ (b : Bool). b && z) (and-false x))

      pub asking_more : {next : Row} → x ≡ true → y ≡ true → next ≡ rest_of left → Asking image f row next
      asking_more {next = next} d e n = record {
        walk = at_next F.walk ne n;
        same =
            F.same
            ∙ all_here F.walk ne first v is f tells own under
            ∙ ap₂ (λ (a b : Bool). a && b && all_of f (bound_in_row image (rest_of left))) d e
            ∙ ap (λ (r : Row). all_of f (bound_in_row image r)) (sym n);
      }

-- `all_fit`
pub record Fits (image : List ℕ) (row left : Row) : Type 0 where
  pub walk : At image row left
  pub same : all_bindings_fit image (row_trees image row) ≡ all_bindings_fit image (row_trees image left)

pub fits_start : {image : List ℕ} {row : Row} → Lies image row → Fits image row row
fits_start l = record { walk = at_start_lem l; same = refl }

pub fits_at : {image : List ℕ} {row left next : Row} → next ≡ left → Fits image row left → Fits image row next
fits_at e F = rw e F

module _ {image : List ℕ} {row left : Row} (F : Fits image row left) where
  pub fits_none : left.count ≡ 0 → true ≡ all_bindings_fit image (row_trees image row)
  unfolding all_bindings_fit
  fits_none e = sym (F.same ∙ ap (all_bindings_fit image) (row_none image left e))

  module _ (ne : left.count ≡ 0 → ⊥) (v : valid image ≡ true) {p : ℕ} (first : p ≡ number_at image left.step left.from) {node : Node} (is : node ≡ node_of image p) {x : Bool} (under : x ≡ all_bindings_fit image (row_trees image node.row)) where
    pub fits_under : x ≡ false → false ≡ all_bindings_fit image (row_trees image row)
    fits_under e =
        let z = all_bindings_fit image (row_trees image (rest_of left)) in
        let y = joins image node in
        sym (F.same ∙ fit_here F.walk ne first v is under refl ∙ ap (λ (b : Bool). y && b && z) e ∙ ap (λ (b : Bool). b && z) (and-false y))

    module _ {y : Bool} (joined : y ≡ joins image node) where
      pub fits_joined : y ≡ false → false ≡ all_bindings_fit image (row_trees image row)
      fits_joined e =
          let z = all_bindings_fit image (row_trees image (rest_of left)) in
          sym (F.same ∙ fit_here F.walk ne first v is under joined ∙ ap (λ (b : Bool). b && x && z) e)

      pub fits_more : {next : Row} → x ≡ true → y ≡ true → next ≡ rest_of left → Fits image row next
      fits_more {next = next} d e n = record {
        walk = at_next F.walk ne n;
        same =
            F.same
            ∙ fit_here F.walk ne first v is under joined
            ∙ ap₂ (λ (a b : Bool). b && a && all_bindings_fit image (row_trees image (rest_of left))) d e
            ∙ ap (λ (r : Row). all_bindings_fit image (row_trees image r)) (sym n);
      }
