-- The bindings of a pattern are its own and those of its subpatterns. Assumes nothing.
use Prim.Native.Nat.{ℕ, zero, suc, ◌+◌, ◌<◌}
use mathlib.Core.Path.{◌≡◌, refl, sym, ap, ap₂, subst, ◌∙◌}
use mathlib.Core.Bool.{Bool, true, false, cond, ◌&&◌, ◌||◌}
use mathlib.Core.Option.{none}
use mathlib.Core.List.{List, [], ◌∷◌, ◌++◌, append-nil, append_assoc}
use native.Mathlib.Omega.{arith}
use borrow.Author.Tests.{ltb-true}
use lib.Dec.{eqb, ltb}
use Rattle.image.specs.declared.BindingId.{BindingId}
use Rattle.image.specs.declared.kinds.PatKind.{PatKind}
use Rattle.image.specs.declared.kinds.TypeKind.{TypeKind}
use Rattle.image.specs.declared.rows.PatRow.{PatRow}
use Rattle.image.specs.declared.rows.TypeRow.{TypeRow}
use Rattle.image.specs.Tables.{pattern_count}
use Rattle.image.specs.Kinds.{pat_kind, type_kind}
use Rattle.image.specs.Rows.{pat_at, type_at, list_at}
use Rattle.image.specs.Rules.{absent, listed}
use Rattle.image.specs.Types.{shape_by, ty_of}
use Rattle.image.specs.Tree.{Head, Pat, no, sub, trees, tree?, tree, node}
use Rattle.image.specs.Valid.{valid}
use Rattle.image.proofs.Trees.{tree_node}
use Rattle.meaning.specs.Fit.{BoundAt, rest_ty, rest_bound?, pat_count, bound_in, bound_in_all, bound_in_first, bound_in?}
use Rattle.fit_rows.specs.declared.nodes.Own.{Own}
use Rattle.fit_rows.specs.Nodes.{number_at, numbers, rest_of_type, rest_by_kind, rest_own, node_by, node_of, first_only, telling_of}
use Rattle.fit_rows.specs.Bound.{owned, any_of, all_of, bound_in_row}
use Rattle.fit_rows.proofs.Lists.{Split, split_none, any_split, all_split}
use Rattle.fit_rows.proofs.Known.{listed_append, slice_rest}

-- the patterns of a row that stands in the list
pub numbers_listed : (image : List ℕ) (s from count : ℕ) → numbers image (suc s) from count ≡ listed image (suc s) from count
unfolding numbers number_at listed
numbers_listed image s from zero = refl
numbers_listed image s from (suc n) = ap (λ (xs : List ℕ). list_at image from ∷ xs) (numbers_listed image s (from + suc s) n)

-- the head of a pattern with this row
abbrev pub head_of : ℕ → PatRow → Head
head_of p row = record { number = p; ty = row.ty; derefs = row.derefs }

module _ (image : List ℕ) where
  -- a rest that binds, by the kind of the slice's type
  rest_by_type : (k : TypeKind) (row : TypeRow) (b : BindingId) (t items : ℕ) → owned (rest_of_type k row b t items) ≡ rest_ty (shape_by k image row) b.0 t items ∷ []
  unfolding owned rest_of_type shape_by rest_ty
  rest_by_type TypeKind.Integer row b t items = refl
  rest_by_type TypeKind.Bool row b t items = refl
  rest_by_type TypeKind.Char row b t items = refl
  rest_by_type TypeKind.Str row b t items = refl
  rest_by_type TypeKind.Tuple row b t items = refl
  rest_by_type TypeKind.Adt row b t items = refl
  rest_by_type TypeKind.Reference row b t items = refl
  rest_by_type TypeKind.Array row b t items = refl
  rest_by_type TypeKind.Slice row b t items = refl
  rest_by_type TypeKind.Unknown row b t items = refl

  -- a rest, by its kind
  rest_by_kind_lem : (k : PatKind) (g : ℕ → Pat) (h : Head) (row : PatRow) (t items : ℕ) →
      owned (rest_by_kind k image row.a t items) ≡ rest_bound? (sub (Rattle.image.specs.Tree.node_by k g image h row)) (ty_of image t).shape t items
  unfolding owned rest_by_kind rest_bound? Rattle.image.specs.Tree.node_by ty_of
  rest_by_kind_lem PatKind.Missing g h row t items = refl
  rest_by_kind_lem PatKind.Rest g h row t items = refl
  rest_by_kind_lem PatKind.NotNull g h row t items = refl
  rest_by_kind_lem PatKind.Wild g h row t items = refl
  rest_by_kind_lem PatKind.Tuple g h row t items = refl
  rest_by_kind_lem PatKind.Or g h row t items = refl
  rest_by_kind_lem PatKind.Record g h row t items = refl
  rest_by_kind_lem PatKind.Range g h row t items = refl
  rest_by_kind_lem PatKind.Slice g h row t items = refl
  rest_by_kind_lem PatKind.Path g h row t items = refl
  rest_by_kind_lem PatKind.Lit g h row t items = refl
  rest_by_kind_lem PatKind.Bind g h row t items = rest_by_type (type_kind (type_at image t).kind) (type_at image t) (record { 0 = row.a }) t items
  rest_by_kind_lem PatKind.TupleStruct g h row t items = refl
  rest_by_kind_lem PatKind.Ref g h row t items = refl
  rest_by_kind_lem PatKind.Expr g h row t items = refl
  rest_by_kind_lem PatKind.Box g h row t items = refl
  rest_by_kind_lem PatKind.Deref g h row t items = refl
  rest_by_kind_lem PatKind.Unknown g h row t items = refl

  -- a rest that may be absent
  rest_owned : (d t items : ℕ) → valid image ≡ true → eqb d absent || ltb d (pattern_count image) ≡ true →
      owned (rest_own image d t items) ≡ rest_bound? (tree? (tree image) d) (ty_of image t).shape t items
  unfolding rest_own rest_bound? tree? owned
  rest_owned d t items v e = by (eqb d absent) e
    where
      by : (b : Bool) → b || ltb d (pattern_count image) ≡ true →
          owned (cond b Own.None (rest_by_kind (pat_kind (pat_at image d).kind) image (pat_at image d).a t items)) ≡ rest_bound? (cond b no (sub (tree image d))) (ty_of image t).shape t items
      by true e = refl
      by false e =
          subst (λ (q : Pat). owned (rest_by_kind (pat_kind (pat_at image d).kind) image (pat_at image d).a t items) ≡ rest_bound? (sub q) (ty_of image t).shape t items)
          (sym (tree_node image d v (ltb-true d (pattern_count image) e)))
          (unfold node in rest_by_kind_lem (pat_kind (pat_at image d).kind) (tree image) (head_of d (pat_at image d)) (pat_at image d) t items)

  module _ (g : ℕ → Pat) where
    -- so many items
    count_listed : (from count : ℕ) → pat_count (trees g (listed image 1 from count)) ≡ count
    unfolding pat_count trees listed
    count_listed from zero = refl
    count_listed from (suc n) = let more = count_listed (from + 1) n in omega (arith, more)

    bound_append : (xs ys : List ℕ) → bound_in_all image (trees g (xs ++ ys)) ≡ bound_in_all image (trees g xs) ++ bound_in_all image (trees g ys)
    unfolding bound_in_all trees
    bound_append [] ys = refl
    bound_append (x ∷ xs) ys = ap (λ (zs : List BoundAt). bound_in image (g x) ++ zs) (bound_append xs ys) ∙ sym (append_assoc (bound_in image (g x)) (bound_in_all image (trees g xs)) (bound_in_all image (trees g ys)))

    -- the first alternative
    bound_first : (from count : ℕ) → bound_in_first image (trees g (listed image 1 from count)) ≡ bound_in_all image (trees g (numbers image 1 from (first_only count)))
    unfolding bound_in_first bound_in_all trees listed numbers number_at first_only
    bound_first from zero = refl
    bound_first from (suc n) = sym (append-nil (bound_in image (g (list_at image from))))

    -- a subpattern that may be absent
    bound_present : (q : ℕ) → bound_in? image (tree? g q) ≡ bound_in_all image (trees g (numbers image 0 q (cond (eqb q absent) 0 1)))
    unfolding tree? bound_in? bound_in_all trees numbers number_at
    bound_present q = by (eqb q absent)
      where
        by : (b : Bool) → bound_in? image (cond b no (sub (g q))) ≡ bound_in_all image (trees g (numbers image 0 q (cond b 0 1)))
        by true = refl
        by false = sym (append-nil (bound_in image (g q)))

  -- the bindings of a pattern, by its kind
  split_by : (k : PatKind) (p : ℕ) (row : PatRow) → (k ≡ PatKind.Slice → (t items : ℕ) → owned (rest_own image row.d t items) ≡ rest_bound? (tree? (tree image) row.d) (ty_of image t).shape t items) →
      Split (bound_in image (Rattle.image.specs.Tree.node_by k (tree image) image (head_of p row) row)) (owned (node_by k image p row).own) (bound_in_row image (telling_of (node_by k image p row)))
  unfolding bound_in Rattle.image.specs.Tree.node_by node_by telling_of owned numbers trees bound_in_all number_at
  split_by PatKind.Missing p row r = split_none refl
  split_by PatKind.Rest p row r = split_none refl
  split_by PatKind.NotNull p row r = split_none refl
  split_by PatKind.Wild p row r = split_none refl
  split_by PatKind.Tuple p row r = split_none (ap (λ (xs : List ℕ). bound_in_all image (trees (tree image) xs)) (sym (numbers_listed image 0 row.a row.b)))
  split_by PatKind.Or p row r = split_none (bound_first (tree image) row.a row.b)
  split_by PatKind.Record p row r = split_none (ap (λ (xs : List ℕ). bound_in_all image (trees (tree image) xs)) (sym (numbers_listed image 1 (row.a + 1) row.b)))
  split_by PatKind.Range p row r = split_none refl
  split_by PatKind.Slice p row r =
      let g = tree image in
      let prefix = listed image 1 row.a row.b in
      let suffix = listed image 1 (row.a + row.b) row.c in
      let front = bound_in_all image (trees g prefix) in
      let back = bound_in_all image (trees g suffix) in
      record {
        front = front;
        back = back;
        whole_is =
            ap (λ (items : ℕ). front ++ (rest_bound? (tree? g row.d) (ty_of image row.ty).shape row.ty items ++ back)) (ap₂ ◌+◌ (count_listed g row.a row.b) (count_listed g (row.a + row.b) row.c))
            ∙ ap (λ (zs : List BoundAt). front ++ (zs ++ back)) (sym (r refl row.ty (row.b + row.c)));
        rest_is_lem =
            ap (λ (xs : List ℕ). bound_in_all image (trees g xs)) (numbers_listed image 0 row.a (row.b + row.c) ∙ listed_append image row.a row.b row.c) ∙ bound_append g prefix suffix;
      }
  split_by PatKind.Path p row r = split_none refl
  split_by PatKind.Lit p row r = split_none refl
  split_by PatKind.Bind p row r = record {
    front = [];
    back = bound_in_all image (trees (tree image) (numbers image 0 row.b (cond (eqb row.b absent) 0 1)));
    whole_is = ap (λ (zs : List BoundAt). record { binding = row.a; ty = row.ty; length_left = none } ∷ zs) (bound_present (tree image) row.b);
    rest_is_lem = refl;
  }
  split_by PatKind.TupleStruct p row r = split_none (ap (λ (xs : List ℕ). bound_in_all image (trees (tree image) xs)) (sym (numbers_listed image 0 row.a row.b)))
  split_by PatKind.Ref p row r = split_none (sym (append-nil (bound_in image (tree image row.a))))
  split_by PatKind.Expr p row r = split_none refl
  split_by PatKind.Box p row r = split_none refl
  split_by PatKind.Deref p row r = split_none refl
  split_by PatKind.Unknown p row r = split_none refl

  module _ (p : ℕ) (v : valid image ≡ true) (h : p < pattern_count image) where
    -- the bindings of a pattern of a valid image
    pub node_split : Split (bound_in image (tree image p)) (owned (node_of image p).own) (bound_in_row image (telling_of (node_of image p)))
    node_split =
        let row = pat_at image p in
        subst (λ (q : Pat). Split (bound_in image q) (owned (node_of image p).own) (bound_in_row image (telling_of (node_of image p)))) (sym (tree_node image p v h))
        (unfold node in split_by (pat_kind row.kind) p row (λ e t items. rest_owned row.d t items v (slice_rest image p row v h refl e)))

    pub node_any : (f : BoundAt → Bool) → any_of f (bound_in image (tree image p)) ≡ any_of f (owned (node_of image p).own) || any_of f (bound_in_row image (telling_of (node_of image p)))
    node_any f = any_split f node_split

    pub node_all : (f : BoundAt → Bool) → all_of f (bound_in image (tree image p)) ≡ all_of f (owned (node_of image p).own) && all_of f (bound_in_row image (telling_of (node_of image p)))
    node_all f = all_split f node_split
