-- What the shape of a pattern that holds tells of its subpatterns, and each way through the functions that take them. Assumes nothing.
use Prim.Native.Nat.{ℕ, ◌+◌, ◌*◌, ◌≤◌}
use mathlib.Core.Path.{◌≡◌}
use mathlib.Core.Bool.{Bool, true, false, ◌&&◌}
use mathlib.Core.List.{List, ◌++◌}
use borrow.Author.Tests.{leb-true}
use lib.Dec.{leb}
use Rattle.image.specs.declared.kinds.PatKind.{PatKind}
use Rattle.image.specs.declared.rows.PatRow.{PatRow}
use Rattle.image.specs.Tables.{list_count}
use Rattle.image.specs.Kinds.{pat_kind}
use Rattle.image.specs.Rows.{pat_at}
use Rattle.image.specs.Rules.{names_type, listed}
use Rattle.image.specs.Subpatterns.{if_present, subpatterns_by, subpatterns}
use Rattle.image.specs.Patterns.{variant_or_absent, pattern_shape_holds, pattern_holds}
use Rattle.image.proofs.Bools.{and_left, and_right}
use Rattle.marks.specs.Marks.{Taken}
use Rattle.marks.proofs.Takes.{taken_append, refused_append}

module _ (image : List ℕ) (row : PatRow) where
  -- the items of a Tuple lie in the list
  pub tuple_in_list : {kind : PatKind} → kind ≡ PatKind.Tuple → pattern_shape_holds kind image row ≡ true → row.a + row.b ≤ list_count image
  unfolding pattern_shape_holds
  tuple_in_list e h = leb-true (row.a + row.b) (list_count image) (rw e at h)

  -- the items of an Or lie in the list
  pub or_in_list : {kind : PatKind} → kind ≡ PatKind.Or → pattern_shape_holds kind image row ≡ true → row.a + row.b ≤ list_count image
  unfolding pattern_shape_holds
  or_in_list e h = leb-true (row.a + row.b) (list_count image) (rw e at h)

  -- the items of a Record, two words each, lie in the list
  pub record_in_list : {kind : PatKind} → kind ≡ PatKind.Record → pattern_shape_holds kind image row ≡ true → row.a + 2 * row.b ≤ list_count image
  unfolding pattern_shape_holds
  record_in_list e h = leb-true (row.a + 2 * row.b) (list_count image) (and_left (leb (row.a + 2 * row.b) (list_count image)) (variant_or_absent image row.c) (rw e at h))

  -- the items of a TupleStruct lie in the list
  pub tuple_struct_in_list : {kind : PatKind} → kind ≡ PatKind.TupleStruct → pattern_shape_holds kind image row ≡ true → row.a + row.b ≤ list_count image
  unfolding pattern_shape_holds
  tuple_struct_in_list e h = leb-true (row.a + row.b) (list_count image) (and_left (leb (row.a + row.b) (list_count image)) (variant_or_absent image row.d) (rw e at h))

  -- the prefix and the suffix of a Slice lie in the list
  pub slice_in_list : pattern_shape_holds PatKind.Slice image row ≡ true → row.a + (row.b + row.c) ≤ list_count image
  unfolding pattern_shape_holds
  slice_in_list h = leb-true (row.a + (row.b + row.c)) (list_count image) h

  module _ {bound : ℕ} {marks after : List ℕ} {r : Bool} where
    -- `take_slice`: the prefix is refused
    pub prefix_refused : (last : List ℕ) → r ≡ false → Taken bound marks after (listed image 1 row.a row.b) r → Taken bound marks last (subpatterns_by PatKind.Slice image row) false
    unfolding subpatterns_by
    prefix_refused last e t = refused_append last (listed image 1 (row.a + row.b) row.c ++ if_present row.d) (rw e at t)

    -- `take_slice`: the prefix is taken, and the suffix is refused
    pub suffix_refused : {next : List ℕ} {s : Bool} (last : List ℕ) → r ≡ true → Taken bound marks after (listed image 1 row.a row.b) r → s ≡ false → Taken bound after next (listed image 1 (row.a + row.b) row.c) s → Taken bound marks last (subpatterns_by PatKind.Slice image row) false
    unfolding subpatterns_by
    suffix_refused last d t e u = taken_append (rw d at t) (refused_append last (if_present row.d) (rw e at u))

    -- `take_slice`: the prefix and the suffix are taken, and then the rest is taken or refused
    pub slice_taken_lem : {next last : List ℕ} {s t : Bool} → r ≡ true → Taken bound marks after (listed image 1 row.a row.b) r → s ≡ true → Taken bound after next (listed image 1 (row.a + row.b) row.c) s → Taken bound next last (if_present row.d) t → Taken bound marks last (subpatterns_by PatKind.Slice image row) t
    unfolding subpatterns_by
    slice_taken_lem d t e u v = taken_append (rw d at t) (taken_append (rw e at u) v)

-- the shape of a pattern that holds
pub pattern_shape : (image : List ℕ) (p : ℕ) {row : PatRow} {kind : PatKind} → row ≡ pat_at image p → kind ≡ pat_kind row.kind → pattern_holds image p ≡ true → pattern_shape_holds kind image row ≡ true
unfolding pattern_holds
pattern_shape image p d e h = rw (e, d) (and_right (names_type image (pat_at image p).ty && leb (pat_at image p).derefs 16) (pattern_shape_holds (pat_kind (pat_at image p).kind) image (pat_at image p)) h)

-- `take_subpatterns`: what is taken of the row is taken of the pattern
pub row_of_pattern : (image : List ℕ) (p : ℕ) {bound : ℕ} {marks after : List ℕ} {r : Bool} {row : PatRow} {kind : PatKind} → row ≡ pat_at image p → kind ≡ pat_kind row.kind →
    Taken bound marks after (subpatterns_by kind image row) r → Taken bound marks after (subpatterns image p) r
row_of_pattern image p d e t = rw (e, d) at t
