-- Slice patterns by the rows of the image. Assumes nothing.
use Prim.Native.Nat.{ℕ, ◌+◌}
use mathlib.Core.Path.{◌≡◌, ap, ap₂, ◌∙◌}
use mathlib.Core.List.{List, map}
use borrow.Author.Tests.{eq-eqb, ne_eqb}
use lib.ListN.{length}
use Rattle.image.specs.Lists.{up_from}
use Rattle.image.specs.Tree.{tree, tree?}
use Rattle.place.specs.declared.elems.ProjectionElem.{ProjectionElem}
use Rattle.pattern_matching.specs.Walking.{Lowering}
use Rattle.pattern_matching.specs.Variants.{pattern_match_adt}
use Rattle.pattern_matching.specs.Slices.{RestOf, rest_bound, suffix_items, slice_items}
use Rattle.pattern_matching.specs.Patterns.{rest_by, rest_of}
use Rattle.pattern_rows.specs.declared.ArgumentRow.{ArgumentRow}
use Rattle.pattern_nodes.specs.Arguments.{lowered}
use Rattle.pattern_nodes.specs.Nodes.{slice_behind}
use Rattle.pattern_nodes.proofs.Rows.{lowered_length}
use Rattle.pattern_nodes.proofs.Arguments.{arguments_from, in_turn, items_by_rows, last_items_by_rows}

module _ (image bindings : List ℕ) (p rest from front back : ℕ) where
  -- behind the items in front: the rest, and then the items at the end
  pub slice_behind_by_rows :
      slice_behind image bindings p rest from front back
      ≡ in_turn (rest_bound (rest_of (tree? (tree image) rest)) bindings p front back) (arguments_from ArgumentRow.LastItems image bindings p from back 0 back)
  unfolding slice_behind
  slice_behind_by_rows = ap (in_turn (rest_bound (rest_of (tree? (tree image) rest)) bindings p front back)) (last_items_by_rows image bindings p from back)

  -- the items in front, and then what is behind them
  pub slice_items_by_rows :
      slice_items bindings p (lowered image bindings from front) (rest_of (tree? (tree image) rest)) (lowered image bindings (from + front) back)
      ≡ in_turn (arguments_from ArgumentRow.Items image bindings p from 0 0 front) (slice_behind image bindings p rest (from + front) front back)
  unfolding slice_items slice_behind
  slice_items_by_rows =
      ap₂ (λ (m n : ℕ). in_turn (pattern_match_adt p (map (λ i. ProjectionElem.Index i) (up_from 0 m)) (lowered image bindings from front))
      (in_turn (rest_bound (rest_of (tree? (tree image) rest)) bindings p m n) (pattern_match_adt p (suffix_items n) (lowered image bindings (from + front) back))))
      (lowered_length image bindings from front) (lowered_length image bindings (from + front) back)
      ∙ ap (λ (first : Lowering). in_turn first (slice_behind image bindings p rest (from + front) front back)) (items_by_rows image bindings p from 0 front)

  -- so many items
  pub slice_length : length (lowered image bindings from front) + length (lowered image bindings (from + front) back) ≡ front + back
  slice_length = ap₂ (λ (m n : ℕ). m + n) (lowered_length image bindings from front) (lowered_length image bindings (from + front) back)

-- a rest that is absent, and one that is there
pub no_rest_lem : (image : List ℕ) (rest : ℕ) → rest ≡ 65535 → rest_of (tree? (tree image) rest) ≡ RestOf.none
unfolding tree? rest_of
no_rest_lem image rest e = rw (eq-eqb rest 65535 e)

pub with_rest_lem : (image : List ℕ) (rest : ℕ) → (rest ≡ 65535 → ⊥) → rest_of (tree? (tree image) rest) ≡ rest_by (tree image rest)
unfolding tree? rest_of
with_rest_lem image rest d = rw (ne_eqb rest 65535 d)
