-- The fields of a variant by the rows of the image. Assumes nothing.
use Prim.Native.Nat.{ℕ, ◌+◌, ◌≤◌}
use mathlib.Core.Path.{◌≡◌, refl, ap, ◌∙◌}
use mathlib.Core.Bool.{Bool, true, false, cond, ◌&&◌, true≢false}
use mathlib.Core.Option.{Option, none, some}
use mathlib.Core.List.{List, [], ◌∷◌, map}
use native.Mathlib.Omega.{arith}
use borrow.Author.Tests.{ltb-true}
use lib.Dec.{eqb, ltb}
use lib.ListN.{length}
use Rattle.image.specs.Rows.{variant_at}
use Rattle.image.specs.Lists.{all_in}
use Rattle.image.specs.Rules.{listed}
use Rattle.image.specs.Types.{variant_of}
use Rattle.image.specs.Tree.{tree, trees, word?}
use Rattle.image.proofs.Bools.{and_left, and_right}
use Rattle.refusals.specs.declared.MirLowerError.{MirLowerError}
use Rattle.place.specs.declared.elems.ProjectionElem.{ProjectionElem}
use Rattle.place.proofs.Fields.{length_listed}
use Rattle.pattern_matching.specs.Variants.{pattern_match_tuple_like, ellipsis_at, resolved, record_fields, variant_fields}
use Rattle.pattern_matching.specs.Patterns.{refusing, passing, lowerings}
use Rattle.pattern_rows.specs.declared.AdtPatternShape.{AdtPatternShape}
use Rattle.pattern_rows.specs.declared.ArgumentRow.{ArgumentRow}
use Rattle.pattern_nodes.specs.Arguments.{lowered, shape_of}
use Rattle.pattern_nodes.proofs.Branches.{word_there}
use Rattle.pattern_nodes.proofs.Arguments.{arguments_from, record_fields_by_rows}

-- a field that is not there, before others
resolved_past : (fields w : ℕ) (rest : List (Option ℕ)) → ltb w fields ≡ false → resolved fields (word? w ∷ rest) ≡ none
unfolding resolved word?
resolved_past fields w rest e = by (eqb w 65535)
  where
    by : (b : Bool) → resolved fields (cond b none (some w) ∷ rest) ≡ none
    by true = refl
    by false = rw e

-- none is there where one of the others is not
resolved_onward : (fields w : ℕ) (rest : List (Option ℕ)) → resolved fields rest ≡ none → resolved fields (word? w ∷ rest) ≡ none
unfolding resolved word?
resolved_onward fields w rest e = by (eqb w 65535)
  where
    chosen : (b : Bool) → ltb w fields ≡ b → resolved fields (some w ∷ rest) ≡ none
    chosen true d = rw (d, e)
    chosen false d = rw d

    by : (b : Bool) → resolved fields (cond b none (some w) ∷ rest) ≡ none
    by true = refl
    by false = chosen (ltb w fields) refl

-- fields of a Record that are all there
resolved_there : (fields : ℕ) (ws : List ℕ) → fields ≤ 65535 → all_in (λ w. ltb w fields) ws ≡ true → resolved fields (map word? ws) ≡ some (map (λ i. ProjectionElem.Field i) ws)
unfolding resolved all_in
resolved_there fields [] few e = refl
resolved_there fields (w ∷ ws) few e =
    let first = and_left (ltb w fields) (all_in (λ w. ltb w fields) ws) e in
    let below = ltb-true w fields first in
    rw (word_there w (λ q. omega (arith, q, few, below)), first, resolved_there fields ws few (and_right (ltb w fields) (all_in (λ w. ltb w fields) ws) e))

-- and where one is not
resolved_missing : (fields : ℕ) (ws : List ℕ) → all_in (λ w. ltb w fields) ws ≡ false → resolved fields (map word? ws) ≡ none
unfolding resolved all_in
resolved_missing fields [] e = absurd (true≢false e)
resolved_missing fields (w ∷ ws) e = by (λ d. resolved_missing fields ws d) (ltb w fields) refl e
  where
    by : (all_in (λ w. ltb w fields) ws ≡ false → resolved fields (map word? ws) ≡ none) → (b : Bool) → ltb w fields ≡ b → b && all_in (λ w. ltb w fields) ws ≡ false →
        resolved fields (word? w ∷ map word? ws) ≡ none
    by others true d e = resolved_onward fields w (map word? ws) (others e)
    by others false d e = resolved_past fields w (map word? ws) d

-- how many fields a variant has
pub variant_count_lem : (image : List ℕ) (v : ℕ) → length (variant_of image v).fields ≡ (variant_at image v).count
unfolding variant_of
variant_count_lem image v = length_listed image 1 (variant_at image v).fields (variant_at image v).count

-- the fields of a variant that has so many
module _ (image bindings : List ℕ) (p fields : ℕ) where
  -- arguments in a row
  pub tuple_shape : (from count ellipsis : ℕ) →
      variant_fields (shape_of image bindings (AdtPatternShape.Tuple from count ellipsis)) p fields
      ≡ pattern_match_tuple_like p (lowered image bindings from count) (ellipsis_at (word? ellipsis) (lowered image bindings from count)) fields
  unfolding variant_fields shape_of
  tuple_shape from count ellipsis = refl

  -- arguments by fields, if each field is there
  pub record_by_rows : (from count : ℕ) → fields ≤ 65535 → all_in (λ w. ltb w fields) (listed image 2 from count) ≡ true →
      variant_fields (shape_of image bindings (AdtPatternShape.Record from count)) p fields ≡ arguments_from ArgumentRow.RecordFields image bindings p from fields 0 count
  unfolding variant_fields shape_of record_fields
  record_by_rows from count few e =
      ap (λ (elems : Option (List ProjectionElem)). record_fields elems p (lowerings image bindings (trees (tree image) (listed image 2 (from + 1) count)))) (resolved_there fields (listed image 2 from count) few e)
      ∙ record_fields_by_rows image bindings p from fields count

  pub record_refused : (from count : ℕ) → all_in (λ w. ltb w fields) (listed image 2 from count) ≡ false →
      variant_fields (shape_of image bindings (AdtPatternShape.Record from count)) p fields ≡ refusing MirLowerError.UnresolvedField p
  unfolding variant_fields shape_of record_fields
  record_refused from count e =
      ap (λ (elems : Option (List ProjectionElem)). record_fields elems p (lowerings image bindings (trees (tree image) (listed image 2 (from + 1) count)))) (resolved_missing fields (listed image 2 from count) e)

  -- none
  pub unit_shape : variant_fields (shape_of image bindings AdtPatternShape.Unit) p fields ≡ passing
  unfolding variant_fields shape_of
  unit_shape = refl
