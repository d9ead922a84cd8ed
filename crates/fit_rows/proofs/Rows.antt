-- A row of patterns: its first pattern, and the row without it. Assumes nothing.
use Prim.Native.Nat.{ℕ, zero, suc, ◌+◌, ◌-◌, ◌*◌, ◌≤◌, ◌<◌}
use mathlib.Core.Path.{◌≡◌, refl, sym, ap, ◌∙◌}
use mathlib.Core.Bool.{Bool, true, false, cond, ◌&&◌, ◌||◌}
use mathlib.Core.List.{List}
use native.Mathlib.Omega.{arith}
use borrow.Author.Tests.{eqb-true, leb-true, ltb-true}
use lib.Dec.{eqb, leb, ltb}
use Rattle.image.specs.Tables.{pattern_count, list_count}
use Rattle.image.specs.Tree.{Pats, cons, trees, tree}
use Rattle.image.proofs.Bools.{and_left, and_right, and_true}
use Rattle.fit_rows.specs.declared.nodes.Row.{Row}
use Rattle.fit_rows.specs.declared.nodes.Node.{Node}
use Rattle.fit_rows.specs.Nodes.{number_at, numbers, row_trees, there, Lies, rest_of, listed_row, first_only, telling_of}

-- the trees of a row that is not empty
pub row_next : (image : List ℕ) (row : Row) → (row.count ≡ 0 → ⊥) → row_trees image row ≡ cons (tree image (number_at image row.step row.from)) (row_trees image (rest_of row))
unfolding trees numbers
row_next image row ne = by row.count ne
  where
    by : (count : ℕ) → (count ≡ 0 → ⊥) →
        trees (tree image) (numbers image row.step row.from count) ≡ cons (tree image (number_at image row.step row.from)) (trees (tree image) (numbers image row.step (row.from + row.step) (count - 1)))
    by zero ne = absurd (ne refl)
    by (suc n) ne = let same : suc n - 1 ≡ n = omega arith in rw same refl

-- of a row that is empty
pub row_none : (image : List ℕ) (row : Row) → row.count ≡ 0 → row_trees image row ≡ Pats.nil
unfolding trees numbers
row_none image row e = rw e refl

-- what is known of a row that is not empty
pub record First (image : List ℕ) (bound step from count : ℕ) : Type 0 where
  pub small : step ≤ 2
  pub place : eqb step 0 || ltb from (list_count image) ≡ true
  pub below : number_at image step from < bound
  pub after : there image bound step (from + step) (count - 1) ≡ true

first_known : (image : List ℕ) (bound step from count : ℕ) → (count ≡ 0 → ⊥) → there image bound step from count ≡ true → First image bound step from count
unfolding there
first_known image bound step from zero ne e = absurd (ne refl)
first_known image bound step from (suc n) ne e =
    let same : suc n - 1 ≡ n = omega arith in
    let a = leb step 2 in
    let b = eqb step 0 || ltb from (list_count image) in
    let c = ltb (number_at image step from) bound in
    let d = there image bound step (from + step) n in
    let ab = and_left (a && b) c (and_left (a && b && c) d e) in
    record {
      small = leb-true step 2 (and_left a b ab);
      place = and_right a b ab;
      below = ltb-true (number_at image step from) bound (and_right (a && b) c (and_left (a && b && c) d e));
      after = rw same (and_right (a && b && c) d e);
    }

module _ {image : List ℕ} {row : Row} (l : Lies image row) (ne : row.count ≡ 0 → ⊥) where
  pub first_of_lem : First image row.below row.step row.from row.count
  first_of_lem = first_known image row.below row.step row.from row.count ne l.found

  -- its first pattern is a pattern of the image
  pub first_there : number_at image row.step row.from < pattern_count image
  first_there = omega (arith, first_of_lem.below, l.bound)

  -- whose number stands in the list
  pub first_listed : (row.step ≡ 0 → ⊥) → row.from < list_count image
  first_listed s = by (eqb row.step 0) (eqb-true row.step 0) first_of_lem.place
    where
      by : (b : Bool) → (b ≡ true → row.step ≡ 0) → b || ltb row.from (list_count image) ≡ true → row.from < list_count image
      by true d e = absurd (s (d refl))
      by false d e = ltb-true row.from (list_count image) e

  -- the row without it lies there too
  pub rest_lies : Lies image (rest_of row)
  rest_lies = record { found = first_of_lem.after; bound = l.bound }

  -- and its place is a word
  pub rest_small : pattern_count image ≤ 512 → list_count image ≤ 2048 → row.from + row.step < 65536
  rest_small h k = by row.step refl
    where
      by : (s : ℕ) → row.step ≡ s → row.from + s < 65536
      by zero e = let same : number_at image row.step row.from ≡ row.from = unfold number_at in rw e refl in omega (arith, first_there, same)
      by (suc s) e = let at = first_listed (λ z. let never : suc s ≡ 0 = sym e ∙ z in omega (arith, never)) in omega (arith, at, first_of_lem.small, e)

-- the row without its first k patterns
abbrev pub row_at : Row → ℕ → Row
row_at row k = listed_row row.below row.step (row.from + row.step * k) (row.count - k)

pub row_start : (row : Row) → row_at row 0 ≡ row
row_start row =
    let from : row.from + row.step * 0 ≡ row.from = omega arith in
    let count : row.count - 0 ≡ row.count = omega arith in
    rw (from, count) refl

row_on : (row : Row) (k : ℕ) → row_at row (k + 1) ≡ rest_of (row_at row k)
row_on row k =
    let from : row.from + row.step * (k + 1) ≡ row.from + row.step * k + row.step = omega arith in
    let count : row.count - (k + 1) ≡ row.count - k - 1 = omega arith in
    rw (from, count) refl

-- its place is a word
pub behind_small : {image : List ℕ} (row : Row) (k : ℕ) → Lies image (row_at row k) → k < row.count → pattern_count image ≤ 512 → list_count image ≤ 2048 → (row.from + row.step * k < 65536) × (k ≤ row.count)
behind_small row k l h few short = let small = rest_small l (λ e. omega arith) few short in (omega (arith, small), omega arith)

-- a turn of a walk that comes to that row
module _ (row : Row) (k : ℕ) {left : Row} (is : left ≡ row_at row k) where
  pub some_there : k < row.count → left.count ≡ 0 → ⊥
  some_there h e = let count : left.count ≡ row.count - k = ap (λ (r : Row). r.count) is in omega arith

  pub next_at : row_at row (k + 1) ≡ rest_of left
  next_at = row_on row k ∙ ap rest_of (sym is)

-- of an Or the first alternative lies there
pub telling_lies : {image : List ℕ} (node : Node) → Lies image node.row → Lies image (telling_of node)
unfolding telling_of first_only there
telling_lies {image = image} node l = by node.alternatives
  where
    row : Row
    row = node.row

    one : (count : ℕ) → there image row.below row.step row.from count ≡ true → there image row.below row.step row.from (first_only count) ≡ true
    one zero e = refl
    one (suc n) e =
        let a = leb row.step 2 && (eqb row.step 0 || ltb row.from (list_count image)) && ltb (number_at image row.step row.from) row.below in
        and_true a true (and_left a (there image row.below row.step (row.from + row.step) n) e) refl

    by : (b : Bool) → Lies image (cond b (record { below = row.below; step = row.step; from = row.from; count = first_only row.count }) row)
    by true = record { found = one row.count l.found; bound = l.bound }
    by false = l

-- and all numbers are below the same bound
pub telling_below : (node : Node) → (telling_of node).below ≡ node.row.below
unfolding telling_of
telling_below node = by node.alternatives
  where
    by : (b : Bool) → (cond b (record { below = node.row.below; step = node.row.step; from = node.row.from; count = first_only node.row.count }) node.row).below ≡ node.row.below
    by true = refl
    by false = refl
