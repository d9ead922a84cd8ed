-- Arguments that are there: in the rows of patterns, and each of those in a row. Assumes nothing.
use Prim.Native.Nat.{ℕ, zero, suc, ◌+◌, ◌*◌, ◌≤◌, ◌<◌}
use mathlib.Core.Path.{◌≡◌, refl}
use mathlib.Core.Bool.{Bool, true, false, ◌&&◌, ◌||◌}
use mathlib.Core.Logic.{◌⊎◌, inl, inr}
use mathlib.Core.List.{List, ◌++◌}
use native.Mathlib.Omega.{arith}
use borrow.Author.Tests.{eqb-true, leb-true, ltb-true, lt-ltb, eq-eqb}
use lib.Dec.{eqb, leb, ltb}
use Rattle.image.specs.declared.kinds.PatKind.{PatKind}
use Rattle.image.specs.declared.rows.PatRow.{PatRow}
use Rattle.image.specs.Tables.{variant_count, pattern_count, binding_count, list_count}
use Rattle.image.specs.Kinds.{pat_kind, path_kind}
use Rattle.image.specs.Rows.{pat_at, list_at}
use Rattle.image.specs.Lists.{all_in}
use Rattle.image.specs.Rules.{listed}
use Rattle.image.specs.Subpatterns.{if_present, subpatterns_by}
use Rattle.image.specs.Patterns.{variant_or_absent, pattern_shape_holds}
use Rattle.image.specs.Valid.{valid}
use Rattle.image.proofs.Bools.{and_left, and_right, all_in_left, all_in_right}
use Rattle.pattern_rows.specs.declared.ArgumentRow.{ArgumentRow}
use Rattle.pattern_rows.specs.declared.CompoundKind.{CompoundKind}
use Rattle.pattern_rows.specs.Rows.{compound_kind, argument_pat}
use Rattle.pattern_nodes.specs.Leaves.{is_leaf}
use Rattle.pattern_nodes.specs.Arguments.{ArgumentsThere, NamesVariant, SubpatternBelow, RestThere, SliceThere}
use Rattle.pattern_nodes.proofs.Known.{limits, row_shape, row_falls, present_below}
use Rattle.pattern_nodes.proofs.Numbers.{record_word, record_shape, tuple_struct_word, tuple_struct_shape, path_word_lem, path_shape}
use Rattle.pattern_nodes.proofs.Branches.{Naming, variant_kind, path_variant}

-- each of the numbers that stand in the list one behind the other
each_below : (image : List ℕ) (p from count i : ℕ) → all_in (λ q. ltb q p) (listed image 1 from count) ≡ true → i < count → list_at image (from + i) < p
unfolding all_in listed
each_below image p from zero i e h = absurd (omega arith)
each_below image p from (suc count) zero e h =
    let same : from + 0 ≡ from = omega arith in
    rw same (ltb-true (list_at image from) p (and_left (ltb (list_at image from) p) (all_in (λ q. ltb q p) (listed image 1 (from + 1) count)) e))
each_below image p from (suc count) (suc i) e h =
    let same : from + suc i ≡ from + 1 + i = omega arith in
    rw same (each_below image p (from + 1) count i (and_right (ltb (list_at image from) p) (all_in (λ q. ltb q p) (listed image 1 (from + 1) count)) e) (omega arith))

-- and each of those that stand two words apart
second_below : (image : List ℕ) (p from count i : ℕ) → all_in (λ q. ltb q p) (listed image 2 from count) ≡ true → i < count → list_at image (from + 2 * i) < p
unfolding all_in listed
second_below image p from zero i e h = absurd (omega arith)
second_below image p from (suc count) zero e h =
    let same : from + 2 * 0 ≡ from = omega arith in
    rw same (ltb-true (list_at image from) p (and_left (ltb (list_at image from) p) (all_in (λ q. ltb q p) (listed image 2 (from + 2) count)) e))
second_below image p from (suc count) (suc i) e h =
    let same : from + 2 * suc i ≡ from + 2 + 2 * i = omega arith in
    rw same (second_below image p (from + 2) count i (and_right (ltb (list_at image from) p) (all_in (λ q. ltb q p) (listed image 2 (from + 2) count)) e) (omega arith))

-- items in a row
items_there : (image : List ℕ) (p from count : ℕ) → from + count ≤ list_count image → all_in (λ q. ltb q p) (listed image 1 from count) ≡ true → ArgumentsThere ArgumentRow.Items image p from 0 count
unfolding argument_pat
items_there image p from count e b = record { lies = e; below = λ i h. each_below image p from count i b h }

-- and at the end
last_items_there : (image : List ℕ) (p from count : ℕ) → from + count ≤ list_count image → all_in (λ q. ltb q p) (listed image 1 from count) ≡ true → ArgumentsThere ArgumentRow.LastItems image p from count count
unfolding argument_pat
last_items_there image p from count e b = record { lies = (e, omega arith); below = λ i h. each_below image p from count i b h }

-- fields by their numbers
record_fields_there : (image : List ℕ) (p from count : ℕ) → from + 2 * count ≤ list_count image → all_in (λ q. ltb q p) (listed image 2 (from + 1) count) ≡ true →
    ArgumentsThere ArgumentRow.RecordFields image p from 0 count
unfolding argument_pat
record_fields_there image p from count e b = record {
  lies = e;
  below = λ i h. let same : from + 2 * i + 1 ≡ from + 1 + 2 * i = omega arith in rw same (second_below image p (from + 1) count i b h);
}

-- a rest that is absent or below a pattern is there
rest_there : (image : List ℕ) (p q : ℕ) → p < pattern_count image → SubpatternBelow q p → RestThere image q
rest_there image p q h (inl e) = rw (eq-eqb q 65535 e)
rest_there image p q h (inr lt) = or_right (eqb q 65535) (ltb q (pattern_count image)) (lt-ltb q (pattern_count image) (omega arith))
  where
    or_right : (a b : Bool) → b ≡ true → a || b ≡ true
    or_right true b e = refl
    or_right false b e = e

-- a variant that may be absent
variant_named : (image : List ℕ) (w : ℕ) → variant_or_absent image w ≡ true → (w ≡ 65535) ⊎ (w < variant_count image)
variant_named image w e = by (eqb w 65535) (eqb-true w 65535) e
  where
    by : (b : Bool) → (b ≡ true → w ≡ 65535) → b || ltb w (variant_count image) ≡ true → (w ≡ 65535) ⊎ (w < variant_count image)
    by true d e = inl (d refl)
    by false d e = inr (ltb-true w (variant_count image) e)

-- the row of a pattern, in a valid image
module _ (image : List ℕ) (p : ℕ) (row : PatRow) (v : valid image ≡ true) (h : p < pattern_count image) (same : row ≡ pat_at image p) where
  -- the arguments of a Tuple
  pub tuple_there : pat_kind row.kind ≡ PatKind.Tuple → ArgumentsThere ArgumentRow.Items image p row.a 0 row.b
  unfolding pattern_shape_holds subpatterns_by
  tuple_there e =
      items_there image p row.a row.b (leb-true (row.a + row.b) (list_count image) (rw e at (row_shape image p row v h same))) (rw e at (row_falls image p row v h same))

  -- the alternatives of an Or
  pub or_there : pat_kind row.kind ≡ PatKind.Or → ArgumentsThere ArgumentRow.Items image p row.a 0 row.b
  unfolding pattern_shape_holds subpatterns_by
  or_there e =
      items_there image p row.a row.b (leb-true (row.a + row.b) (list_count image) (rw e at (row_shape image p row v h same))) (rw e at (row_falls image p row v h same))

  -- the arguments of a TupleStruct
  pub tuple_struct_there : pat_kind row.kind ≡ PatKind.TupleStruct → ArgumentsThere ArgumentRow.Items image p row.a 0 row.b
  unfolding pattern_shape_holds subpatterns_by
  tuple_struct_there e =
      let shape : leb (row.a + row.b) (list_count image) && variant_or_absent image row.d ≡ true = rw e at (row_shape image p row v h same) in
      items_there image p row.a row.b (leb-true (row.a + row.b) (list_count image) (and_left (leb (row.a + row.b) (list_count image)) (variant_or_absent image row.d) shape))
      (rw e at (row_falls image p row v h same))

  -- the fields of a Record
  pub record_there : pat_kind row.kind ≡ PatKind.Record → ArgumentsThere ArgumentRow.RecordFields image p row.a 0 row.b
  unfolding pattern_shape_holds subpatterns_by
  record_there e =
      let shape : leb (row.a + 2 * row.b) (list_count image) && variant_or_absent image row.c ≡ true = rw e at (row_shape image p row v h same) in
      record_fields_there image p row.a row.b (leb-true (row.a + 2 * row.b) (list_count image) (and_left (leb (row.a + 2 * row.b) (list_count image)) (variant_or_absent image row.c) shape))
      (rw e at (row_falls image p row v h same))

  -- a Record's, a TupleStruct's or a path's variant and arguments
  pub names_variant : is_leaf (pat_kind row.kind) (path_kind row.a) ≡ false → compound_kind (pat_kind row.kind) ≡ CompoundKind.Variant → NamesVariant image p row
  unfolding pattern_shape_holds
  names_variant d e = by (variant_kind (pat_kind row.kind) (path_kind row.a) d e)
    where
      by : Naming (pat_kind row.kind) (path_kind row.a) → NamesVariant image p row
      by (inl a) =
          let shape : leb (row.a + 2 * row.b) (list_count image) && variant_or_absent image row.c ≡ true = rw a at (row_shape image p row v h same) in
          record {
            variant = rw (record_word row a) (variant_named image row.c (and_right (leb (row.a + 2 * row.b) (list_count image)) (variant_or_absent image row.c) shape));
            shape = rw (record_shape row a) (record_there a);
          }
      by (inr (inl a)) =
          let shape : leb (row.a + row.b) (list_count image) && variant_or_absent image row.d ≡ true = rw a at (row_shape image p row v h same) in
          record {
            variant = rw (tuple_struct_word row a) (variant_named image row.d (and_right (leb (row.a + row.b) (list_count image)) (variant_or_absent image row.d) shape));
            shape = rw (tuple_struct_shape row a) (tuple_struct_there a);
          }
      by (inr (inr (a, b))) = record { variant = rw (path_word_lem row a) (inr (path_variant image p row v h same a b)); shape = rw (path_shape row a) tt }

  -- the items and the rest of a Slice
  pub slice_there : pat_kind row.kind ≡ PatKind.Slice → SliceThere image p row.d row.a row.b row.c
  unfolding pattern_shape_holds subpatterns_by
  slice_there e =
      let prefix = listed image 1 row.a row.b in
      let suffix = listed image 1 (row.a + row.b) row.c in
      let inside = leb-true (row.a + (row.b + row.c)) (list_count image) (rw e at (row_shape image p row v h same)) in
      let falls : all_in (λ q. ltb q p) (prefix ++ (suffix ++ if_present row.d)) ≡ true = rw e at (row_falls image p row v h same) in
      let behind = all_in_right (λ q. ltb q p) prefix (suffix ++ if_present row.d) falls in
      record {
        in_front = items_there image p row.a row.b (omega arith) (all_in_left (λ q. ltb q p) prefix (suffix ++ if_present row.d) falls);
        at_end_lem = last_items_there image p (row.a + row.b) row.c (omega arith) (all_in_left (λ q. ltb q p) suffix (if_present row.d) behind);
        rests = rest_there image p row.d h (present_below p row.d (all_in_right (λ q. ltb q p) suffix (if_present row.d) behind));
      }

  -- so many items at most
  pub slice_few : pat_kind row.kind ≡ PatKind.Slice → row.b + row.c ≤ 2048
  unfolding pattern_shape_holds
  slice_few e =
      let inside = leb-true (row.a + (row.b + row.c)) (list_count image) (rw e at (row_shape image p row v h same)) in
      omega (arith, inside, (limits image v).list)

  -- the binding and the subpattern of a Bind
  pub bind_there : pat_kind row.kind ≡ PatKind.Bind → (row.a < binding_count image) × SubpatternBelow row.b p
  unfolding pattern_shape_holds subpatterns_by
  bind_there e =
      let shape : ltb row.a (binding_count image) && leb row.c 2 && leb row.d 2 ≡ true = rw e at (row_shape image p row v h same) in
      let named = ltb row.a (binding_count image) in
      (ltb-true row.a (binding_count image) (and_left named (leb row.c 2) (and_left (named && leb row.c 2) (leb row.d 2) shape)), present_below p row.b (rw e at (row_falls image p row v h same)))

  -- the subpattern of a Ref
  pub ref_there : pat_kind row.kind ≡ PatKind.Ref → row.a < p
  unfolding subpatterns_by all_in
  ref_there e = ltb-true row.a p (and_left (ltb row.a p) true (rw e at (row_falls image p row v h same)))
