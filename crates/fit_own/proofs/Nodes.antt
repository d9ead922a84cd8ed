-- A pattern's answer by its row: what the pattern itself says, and what those below it say. Assumes nothing.
use Prim.Native.Nat.{ℕ, zero, suc, ◌+◌}
use mathlib.Core.Path.{◌≡◌, refl, sym, ap, ap₂, ◌∙◌}
use mathlib.Core.Bool.{Bool, true, false, cond, not, ◌&&◌, ◌||◌, and_assoc}
use mathlib.Core.Option.{none, some}
use mathlib.Core.List.{List, map}
use native.Mathlib.Omega.{arith}
use lib.Dec.{eqb}
use lib.ListN.{length, take, length-map}
use lib.Seq.{take_all}
use Rattle.image.specs.declared.Tables.{Tables}
use Rattle.image.specs.declared.kinds.PatKind.{PatKind}
use Rattle.image.specs.declared.kinds.PathKind.{PathKind}
use Rattle.image.specs.declared.rows.PatRow.{PatRow}
use Rattle.image.specs.Kinds.{path_kind}
use Rattle.image.specs.Rows.{list_at}
use Rattle.image.specs.Rules.{absent, listed}
use Rattle.image.specs.Types.{Shape, ty_of, operand_of}
use Rattle.image.specs.Tree.{node_by, trees, tree?, tree, word?, operand?, target}
use Rattle.place.proofs.Fields.{length_listed}
use Rattle.counting.specs.Reaching.{is_enum, is_slice_shape}
use Rattle.cases_spec.specs.Cases.{kind_number}
use Rattle.meaning.specs.Fit.{pat_count, is_there, has_local, path_taken}
use Rattle.fit_types.specs.Parts.{Node}
use Rattle.fit_shapes.proofs.Nodes.{head_of, node_of_lem}
use Rattle.fit_own.specs.declared.Reached.{Reached}
use Rattle.fit_own.specs.Failing.{some_true, path_fails, fails_by, failures, fails_by?}
use Rattle.fit_own.specs.Taking.{taken_by, all_taken, fields_taken, taken_by?}
use Rattle.fit_own.specs.Answers.{reached_as, with_test, reached_by}
use Rattle.fit_own.specs.Rows.{failures_at, taken_at, reached_at, path_kind_fails, tuple_taken, record_taken, tuple_struct_taken, slice_taken, own_taken, own_test, below_reached}
use Rattle.fit_own.proofs.Joining.{join_below, join_leaf}
use Rattle.fit_own.proofs.Stepping.{taken_parts, failures_parts}

module _ (image : List ℕ) where
  -- a Path, by its kind
  path_by : (s : Shape) (k : PathKind) (b : ℕ) → path_fails s (target k image b) ≡ path_kind_fails s k
  unfolding path_fails target
  path_by s PathKind.Unresolved b = refl
  path_by s PathKind.Variant b = refl
  path_by s PathKind.Local b = refl
  path_by s PathKind.Constant b = refl
  path_by s PathKind.Other b = refl
  path_by s PathKind.Unknown b = refl

  -- an end that is there
  end_there : (o : ℕ) → is_there (operand? image o) ≡ not (eqb o 65535)
  unfolding operand?
  end_there o = go (eqb o absent)
    where
      go : (b : Bool) → is_there (cond b none (some (operand_of image o))) ≡ not b
      go true = refl
      go false = refl

  pub ends : (a b : ℕ) {r : Bool} → r ≡ not (eqb a 65535) || not (eqb b 65535) → r ≡ is_there (operand? image a) || is_there (operand? image b)
  ends a b e = e ∙ sym (ap₂ (λ (x y : Bool). x || y) (end_there a) (end_there b))

  failures_length : (step i left : ℕ) → length (failures_at image step i left) ≡ left
  unfolding failures_at failures trees listed
  failures_length step i zero = refl
  failures_length step i (suc left) = ap suc (failures_length step (i + step) left)

  -- as many patterns as words of the list
  counted : (step i left : ℕ) → pat_count (trees (tree image) (listed image step i left)) ≡ left
  unfolding pat_count trees listed
  counted step i zero = refl
  counted step i (suc left) = ap (λ (n : ℕ). 1 + n) (counted step (i + step) left) ∙ omega arith

  -- as many of a Record's fields as patterns
  fields_all : (a n : ℕ) → take (length (map word? (listed image 2 a n))) (failures_at image 2 (a + 1) n) ≡ failures_at image 2 (a + 1) n
  fields_all a n = take_all (length (map word? (listed image 2 a n))) (failures_at image 2 (a + 1) n) (omega (arith, length-map (listed image 2 a n) word?, length_listed image 2 a n, failures_length 2 (a + 1) n))

  module _ (bindings : List ℕ) where
    fields_taken_lem : (a n : ℕ) → fields_taken image bindings (trees (tree image) (listed image 2 (a + 1) n)) (map word? (listed image 2 a n)) ≡ taken_at image bindings 2 (a + 1) n
    unfolding taken_at all_taken fields_taken trees listed
    fields_taken_lem a zero = refl
    fields_taken_lem a (suc n) =
        let two : a + 1 + 2 ≡ a + 2 + 1 = omega arith in
        rw two (ap (λ (b : Bool). taken_by image bindings (tree image (list_at image (a + 1))) && b) (fields_taken_lem (a + 2) n))

    -- the definition's clauses, kind by kind
    abbrev by_row : PatKind → PatRow → Reached
    by_row k row = cond (own_taken image bindings k row) (with_test (own_test image k row) (below_reached image bindings k row)) Reached.Refused

    cut_up : (p : ℕ) (row : PatRow) (k : PatKind) → reached_by image bindings (node_by k (tree image) image (head_of p row) row) ≡ by_row k row
    unfolding taken_by fails_by node_by own_taken own_test below_reached failures_at taken_at reached_at reached_as
    cut_up p row PatKind.Missing = refl
    cut_up p row PatKind.Rest = refl
    cut_up p row PatKind.NotNull = refl
    cut_up p row PatKind.Wild = refl
    cut_up p row PatKind.Tuple = rw (counted 1 row.a row.b) (join_below (tuple_taken image row) false (taken_at image bindings 1 row.a row.b) (some_true (failures_at image 1 row.a row.b)))
    cut_up p row PatKind.Or = refl
    cut_up p row PatKind.Record =
        rw (fields_taken_lem row.a row.b, fields_all row.a row.b)
        (join_below (record_taken image row) (is_enum (some (ty_of image row.ty).shape)) (taken_at image bindings 2 (row.a + 1) row.b) (some_true (failures_at image 2 (row.a + 1) row.b)))
    cut_up p row PatKind.Range = join_leaf true (is_there (operand? image row.a) || is_there (operand? image row.b))
    cut_up p row PatKind.Slice =
        rw (
          taken_parts image bindings row.a row.b row.c,
          failures_parts image bindings row.a row.b row.c,
          and_assoc (slice_taken image bindings row) (taken_at image bindings 1 row.a row.b) (taken_at image bindings 1 (row.a + row.b) row.c),
        )
        (join_below (slice_taken image bindings row) (is_slice_shape (ty_of image row.ty).shape) _ _)
    cut_up p row PatKind.Path =
        rw (path_by (ty_of image row.ty).shape (path_kind row.a) row.b)
        (join_leaf (path_taken (ty_of image row.ty).shape (target (path_kind row.a) image row.b)) (path_kind_fails (ty_of image row.ty).shape (path_kind row.a)))
    cut_up p row PatKind.Lit = refl
    cut_up p row PatKind.Bind = join_below (has_local bindings row.a) false (taken_by? image bindings (tree? (tree image) row.b)) (fails_by? image (tree? (tree image) row.b))
    cut_up p row PatKind.TupleStruct =
        rw (counted 1 row.a row.b)
        (join_below (tuple_struct_taken image row) (is_enum (some (ty_of image row.ty).shape)) (taken_at image bindings 1 row.a row.b) (some_true (failures_at image 1 row.a row.b)))
    cut_up p row PatKind.Ref = join_below (eqb (kind_number (ty_of image row.ty).shape) 7) false (taken_by image bindings (tree image row.a)) (fails_by image (tree image row.a))
    cut_up p row PatKind.Expr = refl
    cut_up p row PatKind.Box = refl
    cut_up p row PatKind.Deref = refl
    cut_up p row PatKind.Unknown = refl

-- `reached`
module _ {image : List ℕ} (bindings : List ℕ) {tables : Tables} {p : ℕ} {row : PatRow} {kind : PatKind} (n : Node image tables p row kind) {own : Bool} (taken : own ≡ own_taken image bindings kind row) where
  here : reached_by image bindings (tree image p) ≡ by_row image bindings kind row
  here = ap (reached_by image bindings) (node_of_lem image p n.at n.parent.sound n.parent.inside n.told) ∙ cut_up image bindings p row kind

  pub refused_here_lem : own ≡ false → Reached.Refused ≡ reached_by image bindings (tree image p)
  refused_here_lem e = sym (here ∙ rw (sym taken ∙ e))

  pub taken_here : own ≡ true → {found : Reached} → found ≡ below_reached image bindings kind row → {test : Bool} → test ≡ own_test image kind row → {r : Reached} → r ≡ with_test test found → r ≡ reached_by image bindings (tree image p)
  taken_here e below tests answer = answer ∙ ap₂ with_test tests below ∙ sym (here ∙ rw (sym taken ∙ e))
