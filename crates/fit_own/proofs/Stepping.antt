-- The loops over patterns that are reached: each way through a turn, and the end. Assumes nothing.
use Prim.Native.Nat.{ℕ, zero, suc, ◌+◌, ◌-◌}
use mathlib.Core.Path.{◌≡◌, sym, ap, ◌∙◌}
use mathlib.Core.Bool.{Bool, true, ◌&&◌, ◌||◌, and_assoc, or_assoc}
use mathlib.Core.List.{List}
use native.Mathlib.Omega.{arith}
use lib.Dec.{ltb}
use Rattle.image.specs.declared.Tables.{Tables}
use Rattle.image.specs.declared.kinds.PatKind.{PatKind}
use Rattle.image.specs.declared.rows.PatRow.{PatRow}
use Rattle.image.specs.Rows.{list_at}
use Rattle.image.specs.Lists.{all_in, all_true}
use Rattle.image.specs.Rules.{absent, listed}
use Rattle.image.specs.Tree.{trees, tree?, tree}
use Rattle.image.proofs.Bools.{and_left, and_right, and_true}
use Rattle.marks.proofs.Takes.{listed_next, listed_none}
use Rattle.fit_types.specs.Parts.{Node, Items}
use Rattle.fit_types.proofs.Holding.{slice_within, slice_prefix, slice_suffix}
use Rattle.fit_shapes.proofs.Resting.{tree_absent, tree_there}
use Rattle.fit_own.specs.declared.Reached.{Reached}
use Rattle.fit_own.specs.Failing.{some_true, fails_by, failures, fails_by?}
use Rattle.fit_own.specs.Taking.{taken_by, all_taken, reached_taken, taken_by?}
use Rattle.fit_own.specs.Answers.{reached_as, with_test, reached_by, reached_by?}
use Rattle.fit_own.specs.Rows.{failures_at, taken_at, reached_at, row_reached, alts_reached}
use Rattle.fit_own.proofs.Joining.{both, or_else, join_both, join_else, test_refused, test_again}

module _ (image bindings : List ℕ) where
  module _ (step i left : ℕ) (more : left ≡ 0 → ⊥) {q : ℕ} (read : q ≡ list_at image i) {r : Reached} (found : r ≡ reached_by image bindings (tree image q)) where
    abbrev later : Reached
    later = row_reached image bindings step (i + step) (left - 1)

    row_next : row_reached image bindings step i left ≡ both r later
    unfolding taken_at all_taken failures_at failures some_true trees
    row_next =
        rw (listed_next image step i left more, found, read)
        (join_both (taken_by image bindings (tree image (list_at image i))) (fails_by image (tree image (list_at image i))) (taken_at image bindings step (i + step) (left - 1)) (some_true (failures_at image step (i + step) (left - 1))))

    -- `each` and `pairs`, of which b says whether one before can fail
    pub row_refused : (b : Bool) → r ≡ Reached.Refused → Reached.Refused ≡ with_test b (row_reached image bindings step i left)
    row_refused b e = sym (ap (with_test b) (row_next ∙ ap (λ (x : Reached). both x later) e) ∙ test_refused b)

    pub row_sure : r ≡ Reached.Sure → row_reached image bindings step i left ≡ later
    row_sure e = row_next ∙ ap (λ (x : Reached). both x later) e

    pub row_fails : (b : Bool) → r ≡ Reached.CanFail → with_test b (row_reached image bindings step i left) ≡ with_test true later
    row_fails b e = ap (with_test b) (row_next ∙ ap (λ (x : Reached). both x later) e) ∙ test_again b later

  -- `alts`
  module _ (i left : ℕ) (more : left ≡ 0 → ⊥) {q : ℕ} (read : q ≡ list_at image i) {r : Reached} (found : r ≡ reached_by image bindings (tree image q)) where
    abbrev behind : Reached
    behind = alts_reached image bindings (i + 1) (left - 1)

    alts_next : alts_reached image bindings i left ≡ or_else r behind
    unfolding reached_at reached_taken failures_at failures all_true trees
    alts_next =
        rw (listed_next image 1 i left more, found, read)
        (join_else (taken_by image bindings (tree image (list_at image i))) (fails_by image (tree image (list_at image i))) (reached_at image bindings (i + 1) (left - 1)) (all_true (failures_at image 1 (i + 1) (left - 1))))

    pub alts_refused : r ≡ Reached.Refused → Reached.Refused ≡ alts_reached image bindings i left
    alts_refused e = sym (alts_next ∙ ap (λ (x : Reached). or_else x behind) e)

    pub alts_sure : r ≡ Reached.Sure → Reached.Sure ≡ alts_reached image bindings i left
    alts_sure e = sym (alts_next ∙ ap (λ (x : Reached). or_else x behind) e)

    pub alts_fail : r ≡ Reached.CanFail → alts_reached image bindings i left ≡ behind
    alts_fail e = alts_next ∙ ap (λ (x : Reached). or_else x behind) e

  pub row_end : (step i left : ℕ) (b : Bool) → left ≡ 0 → with_test b Reached.Sure ≡ with_test b (row_reached image bindings step i left)
  unfolding taken_at all_taken failures_at failures some_true trees reached_as
  row_end step i left b e = rw (listed_none image step i left e)

  pub alts_end : (i left : ℕ) → left ≡ 0 → Reached.CanFail ≡ alts_reached image bindings i left
  unfolding reached_at reached_taken failures_at failures all_true trees reached_as
  alts_end i left e = rw (listed_none image 1 i left e)

  -- `sub`
  pub sub_absent : (q : ℕ) → q ≡ absent → Reached.Sure ≡ reached_by? image bindings (tree? (tree image) q)
  unfolding taken_by? fails_by? reached_as
  sub_absent q e = rw (tree_absent (tree image) q e)

  pub sub_there : (q : ℕ) → (q ≡ absent → ⊥) → reached_by image bindings (tree image q) ≡ reached_by? image bindings (tree? (tree image) q)
  unfolding taken_by? fails_by?
  sub_there q h = rw (tree_there (tree image) q h)

  -- a row in two parts
  pub taken_parts : (at n m : ℕ) → taken_at image bindings 1 at (n + m) ≡ taken_at image bindings 1 at n && taken_at image bindings 1 (at + n) m
  unfolding taken_at all_taken trees listed
  taken_parts at zero m = let here : at + 0 ≡ at = omega arith in let all : 0 + m ≡ m = omega arith in rw (here, all)
  taken_parts at (suc n) m =
      let there : at + suc n ≡ at + 1 + n = omega arith in
      let all : suc n + m ≡ suc (n + m) = omega arith in
      rw (there, all, taken_parts (at + 1) n m)
      (sym (and_assoc (taken_by image bindings (tree image (list_at image at))) (taken_at image bindings 1 (at + 1) n) (taken_at image bindings 1 (at + 1 + n) m)))

  pub failures_parts : (at n m : ℕ) → some_true (failures_at image 1 at (n + m)) ≡ some_true (failures_at image 1 at n) || some_true (failures_at image 1 (at + n) m)
  unfolding failures_at failures some_true trees listed
  failures_parts at zero m = let here : at + 0 ≡ at = omega arith in let all : 0 + m ≡ m = omega arith in rw (here, all)
  failures_parts at (suc n) m =
      let there : at + suc n ≡ at + 1 + n = omega arith in
      let all : suc n + m ≡ suc (n + m) = omega arith in
      rw (there, all, failures_parts (at + 1) n m)
      (sym (or_assoc (fails_by image (tree image (list_at image at))) (some_true (failures_at image 1 (at + 1) n)) (some_true (failures_at image 1 (at + 1 + n) m))))

-- a Slice's prefix and suffix, in a row, are below it
all_parts : (image : List ℕ) (f : ℕ → Bool) (at n m : ℕ) → all_in f (listed image 1 at n) ≡ true → all_in f (listed image 1 (at + n) m) ≡ true → all_in f (listed image 1 at (n + m)) ≡ true
unfolding listed all_in
all_parts image f at zero m front back = let here : at + 0 ≡ at = omega arith in let all : 0 + m ≡ m = omega arith in rw all (rw here at back)
all_parts image f at (suc n) m front back =
    let there : at + suc n ≡ at + 1 + n = omega arith in
    let all : suc n + m ≡ suc (n + m) = omega arith in
    let first = f (list_at image at) in
    let others = all_in f (listed image 1 (at + 1) n) in
    rw all (and_true first (all_in f (listed image 1 (at + 1) (n + m))) (and_left first others front) (all_parts image f (at + 1) n m (and_right first others front) (rw there at back)))

pub slice_items_lem : {image : List ℕ} {tables : Tables} {p : ℕ} {row : PatRow} → Node image tables p row PatKind.Slice → Items image p row.a (row.b + row.c)
slice_items_lem {image} {p = p} {row = row} n =
    record { within = slice_within n; below = all_parts image (λ q. ltb q p) row.a row.b row.c (slice_prefix n).below (slice_suffix n).below }
