-- What is known of the row of a pattern of a valid image, and that its subpatterns lie there. Assumes nothing.
use Prim.Native.Nat.{ℕ, zero, suc, ◌+◌, ◌*◌, ◌≤◌, ◌<◌}
use mathlib.Core.Path.{◌≡◌, refl, ap}
use mathlib.Core.Bool.{Bool, true, false, cond, ◌&&◌, ◌||◌}
use mathlib.Core.List.{List, [], ◌∷◌, ◌++◌}
use native.Mathlib.Omega.{arith}
use borrow.Author.Tests.{leb-true, ltb-true, lt-ltb}
use lib.Dec.{eqb, leb, ltb}
use Rattle.image.specs.declared.kinds.PatKind.{PatKind}
use Rattle.image.specs.declared.rows.PatRow.{PatRow}
use Rattle.image.specs.Tables.{type_count, variant_count, pattern_count, binding_count, list_count, data_count}
use Rattle.image.specs.Kinds.{pat_kind}
use Rattle.image.specs.Rows.{pat_at, list_at}
use Rattle.image.specs.Lists.{all_in}
use Rattle.image.specs.Rules.{absent, names_type, listed, within_limits}
use Rattle.image.specs.Subpatterns.{if_present, subpatterns_by}
use Rattle.image.specs.Patterns.{variant_or_absent, pattern_shape_holds, pattern_holds, subpatterns_below}
use Rattle.image.specs.Valid.{rules, valid}
use Rattle.image.proofs.Bools.{and_left, and_right, and_true, all_true_at, below_at, all_in_left, all_in_right}
use Rattle.image.proofs.Known.{pattern_holds_lem}
use Rattle.fit_rows.specs.declared.nodes.Row.{Row}
use Rattle.fit_rows.specs.Nodes.{number_at, there, Lies, node_by, node_of}

-- limits of the tables
pub record Limits (image : List ℕ) : Type 0 where
  pub patterns : pattern_count image ≤ 512
  pub list : list_count image ≤ 2048

-- they hold in a valid image
pub limits : (image : List ℕ) → valid image ≡ true → Limits image
unfolding valid within_limits
limits image v =
    let e = all_true_at (rules image) 10 v in
    let a = leb (type_count image) 256 in
    let b = leb (variant_count image) 512 in
    let c = leb (pattern_count image) 512 in
    let some = leb 1 (pattern_count image) in
    let d = leb (binding_count image) 256 in
    let l = leb (list_count image) 2048 in
    let m = leb (data_count image) 16384 in
    let five = and_left (a && b && (some && c) && d && l) m e in
    let three = and_left (a && b && (some && c)) d (and_left (a && b && (some && c) && d) l five) in
    record {
      patterns = leb-true (pattern_count image) 512 (and_right some c (and_right (a && b) (some && c) three));
      list = leb-true (list_count image) 2048 (and_right (a && b && (some && c) && d) l five);
    }

-- the row of a pattern, in a valid image
module _ (image : List ℕ) (p : ℕ) (row : PatRow) (v : valid image ≡ true) (h : p < pattern_count image) (same : row ≡ pat_at image p) where
  -- what is asked of it
  row_holds_lem : names_type image row.ty && leb row.derefs 16 && pattern_shape_holds (pat_kind row.kind) image row ≡ true
  unfolding pattern_holds
  row_holds_lem = rw same (pattern_holds_lem image p v h)

  -- its type
  pub row_typed : row.ty < type_count image
  row_typed =
      let named = names_type image row.ty in
      let few = leb row.derefs 16 in
      let shape = pattern_shape_holds (pat_kind row.kind) image row in
      ltb-true row.ty (type_count image) (and_left named few (and_left (named && few) shape row_holds_lem))

  -- what its kind asks
  pub row_shape : pattern_shape_holds (pat_kind row.kind) image row ≡ true
  row_shape = and_right (names_type image row.ty && leb row.derefs 16) (pattern_shape_holds (pat_kind row.kind) image row) row_holds_lem

  -- its subpatterns' numbers are below its own
  pub row_falls : all_in (λ q. ltb q p) (subpatterns_by (pat_kind row.kind) image row) ≡ true
  unfolding valid subpatterns_below
  row_falls = rw same (below_at (subpatterns_below image) (pattern_count image) p (all_true_at (rules image) 8 v) h)

  -- the items of a Slice are so many at most
  pub slice_few : pat_kind row.kind ≡ PatKind.Slice → row.b + row.c ≤ 2048
  unfolding pattern_shape_holds
  slice_few e =
      let inside = leb-true (row.a + (row.b + row.c)) (list_count image) (rw e at row_shape) in
      omega (arith, inside, (limits image v).list)

  -- its rest is absent or there
  pub slice_rest : pat_kind row.kind ≡ PatKind.Slice → eqb row.d absent || ltb row.d (pattern_count image) ≡ true
  unfolding subpatterns_by if_present all_in
  slice_rest e =
      let prefix = listed image 1 row.a row.b in
      let suffix = listed image 1 (row.a + row.b) row.c in
      let falls : all_in (λ q. ltb q p) (prefix ++ (suffix ++ if_present row.d)) ≡ true = rw e at row_falls in
      by (eqb row.d absent) (all_in_right (λ q. ltb q p) suffix (if_present row.d) (all_in_right (λ q. ltb q p) prefix (suffix ++ if_present row.d) falls))
    where
      by : (b : Bool) → all_in (λ q. ltb q p) (cond b [] (row.d ∷ [])) ≡ true → b || ltb row.d (pattern_count image) ≡ true
      by true e = refl
      by false e = let lt = ltb-true row.d p (and_left (ltb row.d p) true e) in lt-ltb row.d (pattern_count image) (omega (arith, lt, h))

  -- the place of a Record's first pattern is a word
  pub record_place : pat_kind row.kind ≡ PatKind.Record → row.a + 1 < 65536
  unfolding pattern_shape_holds
  record_place e =
      let inside = leb-true (row.a + 2 * row.b) (list_count image) (and_left (leb (row.a + 2 * row.b) (list_count image)) (variant_or_absent image row.c) (rw e at row_shape)) in
      omega (arith, inside, (limits image v).list)

-- words of the list one behind the other
there_one : (image : List ℕ) (p from count : ℕ) → from + count ≤ list_count image → all_in (λ q. ltb q p) (listed image 1 from count) ≡ true → there image p 1 from count ≡ true
unfolding there all_in listed number_at
there_one image p from zero h e = refl
there_one image p from (suc n) h e =
    let low = ltb (list_at image from) p in
    let more = all_in (λ q. ltb q p) (listed image 1 (from + 1) n) in
    and_true (ltb from (list_count image) && low) (there image p 1 (from + 1) n)
    (and_true (ltb from (list_count image)) low (lt-ltb from (list_count image) (omega arith)) (and_left low more e))
    (there_one image p (from + 1) n (omega arith) (and_right low more e))

-- and two words apart
there_two : (image : List ℕ) (p from count : ℕ) → from + 2 * count ≤ list_count image + 1 → all_in (λ q. ltb q p) (listed image 2 from count) ≡ true → there image p 2 from count ≡ true
unfolding there all_in listed number_at
there_two image p from zero h e = refl
there_two image p from (suc n) h e =
    let low = ltb (list_at image from) p in
    let more = all_in (λ q. ltb q p) (listed image 2 (from + 2) n) in
    and_true (ltb from (list_count image) && low) (there image p 2 (from + 2) n)
    (and_true (ltb from (list_count image)) low (lt-ltb from (list_count image) (omega arith)) (and_left low more e))
    (there_two image p (from + 2) n (omega arith) (and_right low more e))

-- a pattern that may be absent
there_present : (image : List ℕ) (p q : ℕ) → all_in (λ q. ltb q p) (if_present q) ≡ true → there image p 0 q (cond (eqb q absent) 0 1) ≡ true
unfolding if_present there all_in number_at
there_present image p q e = by (eqb q absent) e
  where
    by : (b : Bool) → all_in (λ q. ltb q p) (cond b [] (q ∷ [])) ≡ true → there image p 0 q (cond b 0 1) ≡ true
    by true e = refl
    by false e = e

-- two parts of the list in a row are one
pub listed_append : (image : List ℕ) (a b c : ℕ) → listed image 1 a (b + c) ≡ listed image 1 a b ++ listed image 1 (a + b) c
unfolding listed
listed_append image a zero c =
    let none : 0 + c ≡ c = omega arith in
    let here : a + 0 ≡ a = omega arith in
    rw (none, here) refl
listed_append image a (suc b) c =
    let more : suc b + c ≡ suc (b + c) = omega arith in
    let next : a + suc b ≡ a + 1 + b = omega arith in
    rw (more, next) (ap (λ (xs : List ℕ). list_at image a ∷ xs) (listed_append image (a + 1) b c))

all_in_append : (f : ℕ → Bool) (xs ys : List ℕ) → all_in f xs ≡ true → all_in f ys ≡ true → all_in f (xs ++ ys) ≡ true
unfolding all_in
all_in_append f [] ys d e = e
all_in_append f (x ∷ xs) ys d e = and_true (f x) (all_in f (xs ++ ys)) (and_left (f x) (all_in f xs) d) (all_in_append f xs ys (and_right (f x) (all_in f xs) d) e)

abbrev There : List ℕ → Row → Type 0
There image r = there image r.below r.step r.from r.count ≡ true

-- the subpatterns, by the kind
there_by : (k : PatKind) (image : List ℕ) (p : ℕ) (row : PatRow) → pattern_shape_holds k image row ≡ true → all_in (λ q. ltb q p) (subpatterns_by k image row) ≡ true → There image (node_by k image p row).row
unfolding pattern_shape_holds subpatterns_by node_by there
there_by PatKind.Missing image p row s f = refl
there_by PatKind.Rest image p row s f = refl
there_by PatKind.NotNull image p row s f = refl
there_by PatKind.Wild image p row s f = refl
there_by PatKind.Tuple image p row s f = there_one image p row.a row.b (leb-true (row.a + row.b) (list_count image) s) f
there_by PatKind.Or image p row s f = there_one image p row.a row.b (leb-true (row.a + row.b) (list_count image) s) f
there_by PatKind.Record image p row s f =
    let inside = leb-true (row.a + 2 * row.b) (list_count image) (and_left (leb (row.a + 2 * row.b) (list_count image)) (variant_or_absent image row.c) s) in
    there_two image p (row.a + 1) row.b (omega (arith, inside)) f
there_by PatKind.Range image p row s f = refl
there_by PatKind.Slice image p row s f =
    let prefix = listed image 1 row.a row.b in
    let suffix = listed image 1 (row.a + row.b) row.c in
    let behind = all_in_right (λ q. ltb q p) prefix (suffix ++ if_present row.d) f in
    let both = all_in_append (λ q. ltb q p) prefix suffix (all_in_left (λ q. ltb q p) prefix (suffix ++ if_present row.d) f) (all_in_left (λ q. ltb q p) suffix (if_present row.d) behind) in
    there_one image p row.a (row.b + row.c) (leb-true (row.a + (row.b + row.c)) (list_count image) s) (rw (listed_append image row.a row.b row.c) both)
there_by PatKind.Path image p row s f = refl
there_by PatKind.Lit image p row s f = refl
there_by PatKind.Bind image p row s f = there_present image p row.b f
there_by PatKind.TupleStruct image p row s f =
    there_one image p row.a row.b (leb-true (row.a + row.b) (list_count image) (and_left (leb (row.a + row.b) (list_count image)) (variant_or_absent image row.d) s)) f
there_by PatKind.Ref image p row s f = unfold all_in number_at in f
there_by PatKind.Expr image p row s f = refl
there_by PatKind.Box image p row s f = refl
there_by PatKind.Deref image p row s f = refl
there_by PatKind.Unknown image p row s f = refl

-- the bound of a row is the pattern's number
below_by : (k : PatKind) (image : List ℕ) (p : ℕ) (row : PatRow) → (node_by k image p row).row.below ≡ p
unfolding node_by
below_by PatKind.Missing image p row = refl
below_by PatKind.Rest image p row = refl
below_by PatKind.NotNull image p row = refl
below_by PatKind.Wild image p row = refl
below_by PatKind.Tuple image p row = refl
below_by PatKind.Or image p row = refl
below_by PatKind.Record image p row = refl
below_by PatKind.Range image p row = refl
below_by PatKind.Slice image p row = refl
below_by PatKind.Path image p row = refl
below_by PatKind.Lit image p row = refl
below_by PatKind.Bind image p row = refl
below_by PatKind.TupleStruct image p row = refl
below_by PatKind.Ref image p row = refl
below_by PatKind.Expr image p row = refl
below_by PatKind.Box image p row = refl
below_by PatKind.Deref image p row = refl
below_by PatKind.Unknown image p row = refl

module _ (image : List ℕ) (p : ℕ) where
  pub node_below : (node_of image p).row.below ≡ p
  node_below = below_by (pat_kind (pat_at image p).kind) image p (pat_at image p)

  -- the subpatterns of a pattern lie there
  pub node_lies : valid image ≡ true → p < pattern_count image → Lies image (node_of image p).row
  node_lies v h =
      let row = pat_at image p in
      record {
        found = there_by (pat_kind row.kind) image p row (row_shape image p row v h refl) (row_falls image p row v h refl);
        bound = omega (arith, node_below, h);
      }
