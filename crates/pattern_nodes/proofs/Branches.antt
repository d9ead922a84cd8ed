-- The branches of the code over kinds: what a branch says of the kind, and the lowering in it. Assumes nothing.
use Prim.Native.Nat.{ℕ, ◌+◌, ◌<◌}
use mathlib.Core.Path.{◌≡◌, refl}
use mathlib.Core.Bool.{true, false, true≢false}
use mathlib.Core.Option.{none, some}
use mathlib.Core.Logic.{◌⊎◌, inl, inr}
use mathlib.Core.List.{List}
use native.Mathlib.Omega.{arith}
use borrow.Author.Tests.{ltb-true, eq-eqb, ne_eqb}
use Rattle.image.specs.declared.kinds.PatKind.{PatKind}
use Rattle.image.specs.declared.kinds.PathKind.{PathKind}
use Rattle.image.specs.declared.rows.PatRow.{PatRow}
use Rattle.image.specs.Tables.{variant_count, pattern_count}
use Rattle.image.specs.Kinds.{pat_kind, path_kind, binding_mode}
use Rattle.image.specs.Rows.{pat_at}
use Rattle.image.specs.Patterns.{path_holds, pattern_shape_holds}
use Rattle.image.specs.Valid.{valid}
use Rattle.image.specs.Types.{ty_of}
use Rattle.image.specs.Tree.{tree, tree?, word?, target}
use Rattle.refusals.specs.declared.MirLowerError.{MirLowerError}
use Rattle.pattern_matching.specs.Variants.{AdtPatternShape, tuple_pattern, ref_pattern, pattern_matching_variant, variant_pattern}
use Rattle.pattern_matching.specs.Slices.{slice_on}
use Rattle.pattern_matching.specs.Patterns.{refusing, passing, or_pattern, path_pattern, bind_pattern, rest_of, pattern_match_inner, lowering?}
use Rattle.pattern_rows.specs.declared.AdtPatternShape as code
use Rattle.pattern_rows.specs.declared.CompoundKind.{CompoundKind}
use Rattle.pattern_rows.specs.Rows.{compound_kind, variant_word, variant_shape}
use Rattle.pattern_nodes.specs.Leaves.{is_leaf_path, is_leaf}
use Rattle.pattern_nodes.specs.Arguments.{lowered, shape_of}
use Rattle.pattern_nodes.specs.Nodes.{kind_pattern}
use Rattle.pattern_nodes.proofs.Known.{limits, row_shape}
use Rattle.pattern_nodes.proofs.Numbers.{path_word_lem, path_shape}

-- a kind that names a variant: a Record, a TupleStruct, or a path to one
abbrev pub Naming : PatKind → PathKind → Type 0
Naming k path = (k ≡ PatKind.Record) ⊎ ((k ≡ PatKind.TupleStruct) ⊎ ((k ≡ PatKind.Path) × (path ≡ PathKind.Variant)))

-- what a branch says of the kind
abbrev Says : CompoundKind → PatKind → PathKind → Type 0
Says CompoundKind.Tuple k path = k ≡ PatKind.Tuple
Says CompoundKind.Or k path = k ≡ PatKind.Or
Says CompoundKind.Slice k path = k ≡ PatKind.Slice
Says CompoundKind.Bind k path = k ≡ PatKind.Bind
Says CompoundKind.Ref k path = k ≡ PatKind.Ref
Says CompoundKind.Variant k path = is_leaf k path ≡ false → Naming k path

-- a path that is no leaf names a variant
path_names : (path : PathKind) → is_leaf_path path ≡ false → path ≡ PathKind.Variant
unfolding is_leaf_path
path_names PathKind.Unresolved e = absurd (true≢false e)
path_names PathKind.Variant e = refl
path_names PathKind.Local e = absurd (true≢false e)
path_names PathKind.Constant e = absurd (true≢false e)
path_names PathKind.Other e = absurd (true≢false e)
path_names PathKind.Unknown e = absurd (true≢false e)

-- it is so of each kind
says : (k : PatKind) (path : PathKind) → Says (compound_kind k) k path
unfolding compound_kind is_leaf
says PatKind.Missing path = λ e. absurd (true≢false e)
says PatKind.Rest path = λ e. absurd (true≢false e)
says PatKind.NotNull path = λ e. absurd (true≢false e)
says PatKind.Wild path = λ e. absurd (true≢false e)
says PatKind.Tuple path = refl
says PatKind.Or path = refl
says PatKind.Record path = λ e. inl refl
says PatKind.Range path = λ e. absurd (true≢false e)
says PatKind.Slice path = refl
says PatKind.Path path = λ e. inr (inr (refl, path_names path e))
says PatKind.Lit path = λ e. absurd (true≢false e)
says PatKind.Bind path = refl
says PatKind.TupleStruct path = λ e. inr (inl refl)
says PatKind.Ref path = refl
says PatKind.Expr path = λ e. absurd (true≢false e)
says PatKind.Box path = λ e. absurd (true≢false e)
says PatKind.Deref path = λ e. absurd (true≢false e)
says PatKind.Unknown path = λ e. absurd (true≢false e)

-- the kind in each branch
module _ (k : PatKind) where
  pub tuple_kind : compound_kind k ≡ CompoundKind.Tuple → k ≡ PatKind.Tuple
  tuple_kind e = rw e at (says k PathKind.Unknown)

  pub or_kind : compound_kind k ≡ CompoundKind.Or → k ≡ PatKind.Or
  or_kind e = rw e at (says k PathKind.Unknown)

  pub slice_kind : compound_kind k ≡ CompoundKind.Slice → k ≡ PatKind.Slice
  slice_kind e = rw e at (says k PathKind.Unknown)

  pub bind_kind : compound_kind k ≡ CompoundKind.Bind → k ≡ PatKind.Bind
  bind_kind e = rw e at (says k PathKind.Unknown)

  pub ref_kind : compound_kind k ≡ CompoundKind.Ref → k ≡ PatKind.Ref
  ref_kind e = rw e at (says k PathKind.Unknown)

  pub variant_kind : (path : PathKind) → is_leaf k path ≡ false → compound_kind k ≡ CompoundKind.Variant → Naming k path
  variant_kind path d e = let said : Says CompoundKind.Variant k path = rw e at (says k path) in said d

-- the lowering in each branch
module _ (k : PatKind) (image bindings : List ℕ) (p : ℕ) (row : PatRow) where
  pub tuple_by_kind : compound_kind k ≡ CompoundKind.Tuple → kind_pattern k image bindings p row ≡ tuple_pattern image p (lowered image bindings row.a row.b) (word? row.c)
  unfolding kind_pattern
  tuple_by_kind e = rw (tuple_kind k e)

  pub or_by_kind : compound_kind k ≡ CompoundKind.Or → kind_pattern k image bindings p row ≡ or_pattern p (lowered image bindings row.a row.b)
  unfolding kind_pattern
  or_by_kind e = rw (or_kind k e)

  pub slice_by_kind : compound_kind k ≡ CompoundKind.Slice →
      kind_pattern k image bindings p row
      ≡ slice_on (ty_of image row.ty).shape image bindings p (lowered image bindings row.a row.b) (rest_of (tree? (tree image) row.d)) (lowered image bindings (row.a + row.b) row.c)
  unfolding kind_pattern
  slice_by_kind e = rw (slice_kind k e)

  pub bind_by_kind : compound_kind k ≡ CompoundKind.Bind →
      kind_pattern k image bindings p row ≡ bind_pattern bindings p row.a (binding_mode row.c) (lowering? image bindings (tree? (tree image) row.b))
  unfolding kind_pattern
  bind_by_kind e = rw (bind_kind k e)

  pub ref_by_kind : compound_kind k ≡ CompoundKind.Ref → kind_pattern k image bindings p row ≡ ref_pattern image p (pattern_match_inner image bindings (tree image row.a))
  unfolding kind_pattern
  ref_by_kind e = rw (ref_kind k e)

-- a word that is absent, and one that is there
pub word_absent : (w : ℕ) → w ≡ 65535 → word? w ≡ none
unfolding word?
word_absent w e = rw (eq-eqb w 65535 e)

pub word_there : (w : ℕ) → (w ≡ 65535 → ⊥) → word? w ≡ some w
unfolding word?
word_there w d = rw (ne_eqb w 65535 d)

-- a pattern without a variant is refused
pub no_variant : (image : List ℕ) (p w : ℕ) (args : AdtPatternShape) → w ≡ 65535 → variant_pattern image p (word? w) args ≡ refusing MirLowerError.NotSupported p
unfolding variant_pattern
no_variant image p w args e = rw (word_absent w e)

-- one with a variant
pub with_variant : (image : List ℕ) (p w : ℕ) (args : AdtPatternShape) → (w ≡ 65535 → ⊥) → variant_pattern image p (word? w) args ≡ pattern_matching_variant image p w args
unfolding variant_pattern
with_variant image p w args d = rw (word_there w d)

-- a path to a variant
path_as_variant : (image bindings : List ℕ) (p ty b : ℕ) → (b ≡ 65535 → ⊥) →
    path_pattern (target PathKind.Variant image b) image bindings p ty ≡ variant_pattern image p (word? b) (shape_of image bindings code.AdtPatternShape.Unit)
unfolding target path_pattern shape_of variant_pattern
path_as_variant image bindings p ty b d = rw (word_there b d)

-- the row of a pattern, in a valid image
module _ (image : List ℕ) (p : ℕ) (row : PatRow) (v : valid image ≡ true) (h : p < pattern_count image) (same : row ≡ pat_at image p) where
  -- the variant that a path names
  pub path_variant : pat_kind row.kind ≡ PatKind.Path → path_kind row.a ≡ PathKind.Variant → row.b < variant_count image
  unfolding pattern_shape_holds path_holds
  path_variant e d = ltb-true row.b (variant_count image) (rw (e, d) at (row_shape image p row v h same))

  -- the lowering in the branch of variants
  pub variant_by_kind : (bindings : List ℕ) → is_leaf (pat_kind row.kind) (path_kind row.a) ≡ false → compound_kind (pat_kind row.kind) ≡ CompoundKind.Variant →
      kind_pattern (pat_kind row.kind) image bindings p row ≡ variant_pattern image p (word? (variant_word row)) (shape_of image bindings (variant_shape row))
  unfolding kind_pattern
  variant_by_kind bindings d e = by (variant_kind (pat_kind row.kind) (path_kind row.a) d e)
    where
      by : Naming (pat_kind row.kind) (path_kind row.a) →
          kind_pattern (pat_kind row.kind) image bindings p row ≡ variant_pattern image p (word? (variant_word row)) (shape_of image bindings (variant_shape row))
      by (inl a) = rw a
      by (inr (inl a)) = rw a
      by (inr (inr (a, b))) =
          let named = path_variant a b in
          rw (path_word_lem row a, path_shape row a, a, b) (path_as_variant image bindings p row.ty row.b (λ q. omega (arith, q, named, (limits image v).variants)))

-- a subpattern that is absent, and one that is there
pub no_subpattern : (image bindings : List ℕ) (q : ℕ) → q ≡ 65535 → lowering? image bindings (tree? (tree image) q) ≡ passing
unfolding tree? lowering?
no_subpattern image bindings q e = rw (eq-eqb q 65535 e)

pub with_subpattern : (image bindings : List ℕ) (q : ℕ) → (q ≡ 65535 → ⊥) → lowering? image bindings (tree? (tree image) q) ≡ pattern_match_inner image bindings (tree image q)
unfolding tree? lowering?
with_subpattern image bindings q d = rw (ne_eqb q 65535 d)
