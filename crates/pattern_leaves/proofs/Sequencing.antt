-- What a pattern with subpatterns tests in Check, an enum's variant and a slice's length, by the ways through the code. Assumes nothing.
use Rattle.std.specs.Prelude.{Ok, Err}
use mathlib.Core.Path.{◌≡◌, refl, sym, ap, ◌∙◌}
use mathlib.Core.Bool.{Bool, true, false, cond, not}
use mathlib.Core.List.{List}
use Prim.Native.Nat.{ℕ}
use lib.Dec.{eqb}
use Rattle.refusals.specs.declared.MirLowerError.{MirLowerError}
use Rattle.image.specs.declared.PatId.{PatId}
use Rattle.image.specs.declared.kinds.TypeKind.{TypeKind}
use Rattle.image.specs.declared.rows.TypeRow.{TypeRow}
use Rattle.image.specs.Kinds.{type_kind}
use Rattle.image.specs.Rows.{type_at}
use Rattle.image.specs.Tree.{Pat, no, sub, tree, tree?}
use Rattle.image.specs.Types.{shape_by, ty_of}
use Rattle.place.specs.declared.Place.{Place}
use Rattle.mir.specs.declared.BasicBlockId.{BasicBlockId}
use Rattle.mir.specs.declared.Counts.{Counts}
use Rattle.lower_spec.specs.Results.{OptBlock}
use Rattle.pattern_matching.specs.declared.MatchingMode.{MatchingMode}
use Rattle.pattern_matching.specs.Modes.{is_check}
use Rattle.pattern_matching.specs.Walking.{Ctx, Out, Walk, refused, out, in_check}
use Rattle.pattern_matching.specs.Slices.{RestOf, length_test}
use Rattle.pattern_matching.specs.Patterns.{rest_by, rest_of}
use Rattle.pattern_matching.specs.Variants.{discriminant_test}
use Rattle.pattern_nodes.specs.Modes.{enum_test, slice_test}
use Rattle.pattern_tests.specs.Testing.{has_rest, length_test_by}
use Rattle.pattern_switching.proofs.Cutting.{in_check_lem, not_in_check}
use Rattle.pattern_tests.proofs.Cutting.{length_test_by_lem}
use Rattle.pattern_walk_spec.specs.Results.{Lowered}
use Rattle.pattern_walk_spec.specs.Answers.{Begins, Lowers}
use Rattle.pattern_walk_spec.proofs.Sequences.{lowers_skips, lowers_refuses, lowers_by}
use Rattle.pattern_rows.specs.declared.Sequence.{Sequence}
use Rattle.pattern_rows.specs.Rows.{sequence_by}
use Rattle.state.specs.State.{Body}

-- `enum_test`; t is the body at entry
module _ (image : List ℕ) (t : Body) (c : Counts) (mode : MatchingMode) (p : PatId) (v : ℕ) (current : BasicBlockId) (els : OptBlock) (place : Place) where
  abbrev Tested : Lowered → Body → Type 0
  Tested = Lowers (λ ctx. enum_test image p.0 v mode ctx current els place) c current els t

  abbrev tests : Ctx → Walk Out
  tests ctx = discriminant_test image p.0 v ctx current els place

  -- nothing is tested beyond Check
  pub enum_skips : is_check mode ≡ false → Begins c current els → Tested (Ok (c, current, els)) t
  unfolding enum_test
  enum_skips beyond h = lowers_skips (λ ctx. not_in_check mode (tests ctx) (out ctx current els) beyond) h

  -- the variant is
  pub enum_tests : {r : Lowered} {t' : Body} → is_check mode ≡ true → Lowers tests c current els t r t' → Tested r t'
  unfolding enum_test
  enum_tests check L = lowers_by (λ ctx. in_check_lem mode (tests ctx) (out ctx current els) check) L

-- what a Slice pattern's type decides
abbrev by_shape : Sequence → Walk Out → Walk Out → Walk Out → Walk Out
by_shape Sequence.Array skips tests refuses = skips
by_shape Sequence.Slice skips tests refuses = tests
by_shape Sequence.Other skips tests refuses = refuses

shape_test : (kind : TypeKind) (row : TypeRow) (image : List ℕ) (p n : ℕ) (rest : RestOf) (mode : MatchingMode) (ctx : Ctx) (current : BasicBlockId) (els : OptBlock) (place : Place) →
    by_shape (sequence_by kind) (out ctx current els) (in_check mode (length_test rest image p n ctx current els place) (out ctx current els)) (refused (MirLowerError.TypeError 2) p)
    ≡ slice_test (shape_by kind image row) image p n rest mode ctx current els place
unfolding sequence_by slice_test shape_by
shape_test TypeKind.Integer row image p n rest mode ctx current els place = refl
shape_test TypeKind.Bool row image p n rest mode ctx current els place = refl
shape_test TypeKind.Char row image p n rest mode ctx current els place = refl
shape_test TypeKind.Str row image p n rest mode ctx current els place = refl
shape_test TypeKind.Tuple row image p n rest mode ctx current els place = refl
shape_test TypeKind.Adt row image p n rest mode ctx current els place = refl
shape_test TypeKind.Reference row image p n rest mode ctx current els place = refl
shape_test TypeKind.Array row image p n rest mode ctx current els place = refl
shape_test TypeKind.Slice row image p n rest mode ctx current els place = refl
shape_test TypeKind.Unknown row image p n rest mode ctx current els place = refl

-- a pattern as a rest is one
rest_by_lem : (q : Pat) → has_rest (rest_by q) ≡ true
unfolding has_rest rest_by
rest_by_lem (Pat.Missing h) = refl
rest_by_lem (Pat.Rest h) = refl
rest_by_lem (Pat.NotNull h) = refl
rest_by_lem (Pat.Wild h) = refl
rest_by_lem (Pat.Tuple h args ellipsis) = refl
rest_by_lem (Pat.Or h alts) = refl
rest_by_lem (Pat.Record h fields args v) = refl
rest_by_lem (Pat.Range h start end halfOpen) = refl
rest_by_lem (Pat.Slice h prefix rest suffix) = refl
rest_by_lem (Pat.Path h target) = refl
rest_by_lem (Pat.Lit h operand) = refl
rest_by_lem (Pat.Bind h b s how annotation) = refl
rest_by_lem (Pat.TupleStruct h args ellipsis v) = refl
rest_by_lem (Pat.Ref h s) = refl
rest_by_lem (Pat.Expr h) = refl
rest_by_lem (Pat.Box h) = refl
rest_by_lem (Pat.Deref h) = refl

-- there is a rest where its word is not that of an absent one
pub has_rest_lem : (image : List ℕ) (rest : ℕ) → not (eqb rest 65535) ≡ has_rest (rest_of (tree? (tree image) rest))
unfolding has_rest rest_of tree?
has_rest_lem image rest = by_word (eqb rest 65535)
  where
    by_word : (absent : Bool) → not absent ≡ has_rest (rest_of (cond absent no (sub (tree image rest))))
    by_word true = refl
    by_word false = sym (rest_by_lem (tree image rest))

-- `slice_test`, by the type that is read; t is the body at entry
module _ (image : List ℕ) (t : Body) (c : Counts) (mode : MatchingMode) (p : PatId) (ty n rest : ℕ) (current : BasicBlockId) (els : OptBlock) (place : Place)
    {row : TypeRow} {kind : TypeKind} (at : row ≡ type_at image ty) (read : kind ≡ type_kind row.kind) where
  abbrev rest_is : RestOf
  rest_is = rest_of (tree? (tree image) rest)

  abbrev Sliced : Lowered → Body → Type 0
  Sliced = Lowers (λ ctx. slice_test (ty_of image ty).shape image p.0 n rest_is mode ctx current els place) c current els t

  abbrev measured : Ctx → Walk Out
  measured ctx = length_test rest_is image p.0 n ctx current els place

  abbrev in_slice : Ctx → Walk Out
  in_slice ctx = in_check mode (measured ctx) (out ctx current els)

  by_sequence : {s : Sequence} → s ≡ sequence_by kind → (ctx : Ctx) →
      by_shape s (out ctx current els) (in_slice ctx) (refused (MirLowerError.TypeError 2) p.0) ≡ slice_test (ty_of image ty).shape image p.0 n rest_is mode ctx current els place
  unfolding ty_of
  by_sequence is ctx = rw (is, read, at) (shape_test (type_kind (type_at image ty).kind) (type_at image ty) image p.0 n rest_is mode ctx current els place)

  -- a type that is neither
  pub slice_refused : Sequence.Other ≡ sequence_by kind → Sliced (Err (MirLowerError.TypeError 2, p)) t
  slice_refused is = lowers_refuses (λ ctx. by_sequence is ctx)

  -- an array
  pub slice_array : Sequence.Array ≡ sequence_by kind → Begins c current els → Sliced (Ok (c, current, els)) t
  slice_array is h = lowers_skips (λ ctx. by_sequence is ctx) h

  -- a slice, beyond Check
  pub slice_skips : Sequence.Slice ≡ sequence_by kind → is_check mode ≡ false → Begins c current els → Sliced (Ok (c, current, els)) t
  slice_skips is beyond h = lowers_skips (λ ctx. not_in_check mode (measured ctx) (out ctx current els) beyond ∙ by_sequence is ctx) h

  -- and in Check
  pub slice_tests : {b : Bool} {r : Lowered} {t' : Body} → Sequence.Slice ≡ sequence_by kind → is_check mode ≡ true → b ≡ has_rest rest_is →
      Lowers (λ ctx. length_test_by b image p.0 n ctx current els place) c current els t r t' → Sliced r t'
  slice_tests is check has L =
      lowers_by (λ ctx.
      ap (λ (x : Bool). length_test_by x image p.0 n ctx current els place) has
      ∙ length_test_by_lem rest_is image p.0 n ctx current els place
      ∙ in_check_lem mode (measured ctx) (out ctx current els) check
      ∙ by_sequence is ctx) L
