-- Patterns at which there is nothing to do: they are visited, and the walk goes on as it was. Assumes nothing.
use Rattle.std.specs.Prelude.{Ok}
use Prim.Native.Nat.{ℕ, ◌<◌}
use mathlib.Core.Path.{◌≡◌, refl, ◌∙◌}
use mathlib.Core.Bool.{Bool, true, false, cond, false≢true}
use mathlib.Core.List.{List}
use borrow.Author.Tests.{eqb-true, ne_eqb, eq-eqb}
use lib.Dec.{eqb}
use Rattle.image.specs.declared.PatId.{PatId}
use Rattle.image.specs.declared.kinds.OperandKind.{OperandKind}
use Rattle.image.specs.declared.kinds.PatKind.{PatKind}
use Rattle.image.specs.declared.kinds.PathKind.{PathKind}
use Rattle.image.specs.declared.rows.PatRow.{PatRow}
use Rattle.image.specs.Tables.{pattern_count}
use Rattle.image.specs.Kinds.{pat_kind, path_kind}
use Rattle.image.specs.Rows.{pat_at}
use Rattle.image.specs.Tree.{tree?, target}
use Rattle.image.specs.Types.{Operand, operand_of}
use Rattle.image.specs.Valid.{valid}
use Rattle.image.proofs.Bools.{and_left, and_right}
use Rattle.place.specs.declared.Place.{Place}
use Rattle.mir.specs.declared.BasicBlockId.{BasicBlockId}
use Rattle.mir.specs.declared.Counts.{Counts}
use Rattle.lower_spec.specs.Results.{OptBlock}
use Rattle.pattern_matching.specs.declared.MatchingMode.{MatchingMode}
use Rattle.pattern_matching.specs.Modes.{is_check}
use Rattle.pattern_matching.specs.Walking.{Ctx, Lowering, out}
use Rattle.pattern_matching.specs.Tests.{literal, lit_by, constant_path}
use Rattle.pattern_matching.specs.Patterns.{range_pattern, path_pattern, bind_pattern, pattern_match_inner}
use Rattle.pattern_walk_spec.specs.Answers.{Begins}
use Rattle.pattern_entering.proofs.Visiting.{visited_in}
use Rattle.pattern_tests.specs.Testing.{is_literal}
use Rattle.pattern_switching.proofs.Cutting.{not_in_check}
use Rattle.pattern_nodes.specs.Leaves.{leaf_pattern}
use Rattle.pattern_nodes.specs.Nodes.{kind_pattern}
use Rattle.pattern_walk_laws.specs.Walk.{Inner}
use Rattle.pattern_walk_laws.proofs.Looking.{walks_skips}
use Rattle.pattern_walk_laws.proofs.Entering.{inner_goes}
use Rattle.pattern_walk_laws.proofs.Descending.{behind_none}
use Rattle.pattern_idle.specs.Idle.{idle_in_check, names_constant, idle_beyond_check, nothing_to_do}
use Rattle.state.specs.State.{Body}

-- what a lowering does where there is nothing to do
abbrev Idle : Lowering → MatchingMode → Type 0
Idle lowering mode = (ctx : Ctx) (current : BasicBlockId) (els : OptBlock) (place : Place) → out ctx current els ≡ lowering mode ctx current els place

module _ (image bindings : List ℕ) (p : ℕ) (row : PatRow) where
  -- in Check
  idle_checked : (k : PatKind) → idle_in_check k row.b ≡ true → Idle (kind_pattern k image bindings p row) MatchingMode.Check
  unfolding idle_in_check kind_pattern leaf_pattern bind_pattern tree? pattern_match_inner
  idle_checked PatKind.Missing e = absurd (false≢true e)
  idle_checked PatKind.Rest e = absurd (false≢true e)
  idle_checked PatKind.NotNull e = absurd (false≢true e)
  idle_checked PatKind.Wild e = λ ctx current els place. refl
  idle_checked PatKind.Tuple e = absurd (false≢true e)
  idle_checked PatKind.Or e = absurd (false≢true e)
  idle_checked PatKind.Record e = absurd (false≢true e)
  idle_checked PatKind.Range e = absurd (false≢true e)
  idle_checked PatKind.Slice e = absurd (false≢true e)
  idle_checked PatKind.Path e = absurd (false≢true e)
  idle_checked PatKind.Lit e = absurd (false≢true e)
  idle_checked PatKind.Bind e = λ ctx current els place. rw e refl
  idle_checked PatKind.TupleStruct e = absurd (false≢true e)
  idle_checked PatKind.Ref e = absurd (false≢true e)
  idle_checked PatKind.Expr e = absurd (false≢true e)
  idle_checked PatKind.Box e = absurd (false≢true e)
  idle_checked PatKind.Deref e = absurd (false≢true e)
  idle_checked PatKind.Unknown e = absurd (false≢true e)

-- what is not tested, beyond Check
module _ (image : List ℕ) (p : ℕ) (ty : ℕ) (operand : Operand) (mode : MatchingMode) (d : is_check mode ≡ false) where
  no_literal : Idle (literal image p ty operand) mode
  unfolding literal
  no_literal ctx current els place = not_in_check mode _ _ d

  no_constant : Idle (constant_path image p ty operand) mode
  unfolding constant_path
  no_constant ctx current els place = not_in_check mode _ _ d

  -- a literal
  idle_literal : (k : OperandKind) → is_literal k ≡ true → Idle (lit_by k image p ty operand) mode
  unfolding is_literal lit_by
  idle_literal OperandKind.Int e = no_literal
  idle_literal OperandKind.Uint e = no_literal
  idle_literal OperandKind.Char e = no_literal
  idle_literal OperandKind.Bool e = no_literal
  idle_literal OperandKind.Str e = no_literal
  idle_literal OperandKind.CStr e = no_literal
  idle_literal OperandKind.ByteStr e = no_literal
  idle_literal OperandKind.Constant e = absurd (false≢true e)
  idle_literal OperandKind.Float e = no_literal
  idle_literal OperandKind.Other e = absurd (false≢true e)
  idle_literal OperandKind.Unknown e = absurd (false≢true e)

module _ (image bindings : List ℕ) (p : ℕ) (row : PatRow) (mode : MatchingMode) (d : is_check mode ≡ false) where
  -- a path
  idle_path : (k : PathKind) → names_constant k ≡ true → Idle (path_pattern (target k image row.b) image bindings p row.ty) mode
  unfolding names_constant target path_pattern
  idle_path PathKind.Unresolved e = absurd (false≢true e)
  idle_path PathKind.Variant e = absurd (false≢true e)
  idle_path PathKind.Local e = absurd (false≢true e)
  idle_path PathKind.Constant e = no_constant image p row.ty (operand_of image row.b) mode d
  idle_path PathKind.Other e = absurd (false≢true e)
  idle_path PathKind.Unknown e = absurd (false≢true e)

  -- a range
  idle_range : Idle (kind_pattern PatKind.Range image bindings p row) mode
  unfolding kind_pattern leaf_pattern range_pattern
  idle_range ctx current els place = not_in_check mode _ _ d

  idle_beyond : (k : PatKind) → idle_beyond_check k image row ≡ true → Idle (kind_pattern k image bindings p row) mode
  unfolding idle_beyond_check kind_pattern leaf_pattern
  idle_beyond PatKind.Missing e = absurd (false≢true e)
  idle_beyond PatKind.Rest e = absurd (false≢true e)
  idle_beyond PatKind.NotNull e = absurd (false≢true e)
  idle_beyond PatKind.Wild e = λ ctx current els place. refl
  idle_beyond PatKind.Tuple e = absurd (false≢true e)
  idle_beyond PatKind.Or e = absurd (false≢true e)
  idle_beyond PatKind.Record e = absurd (false≢true e)
  idle_beyond PatKind.Range e = idle_range
  idle_beyond PatKind.Slice e = absurd (false≢true e)
  idle_beyond PatKind.Path e = idle_path (path_kind row.a) e
  idle_beyond PatKind.Lit e = idle_literal image p row.ty (operand_of image row.a) mode d (operand_of image row.a).kind e
  idle_beyond PatKind.Bind e = absurd (false≢true e)
  idle_beyond PatKind.TupleStruct e = absurd (false≢true e)
  idle_beyond PatKind.Ref e = absurd (false≢true e)
  idle_beyond PatKind.Expr e = absurd (false≢true e)
  idle_beyond PatKind.Box e = absurd (false≢true e)
  idle_beyond PatKind.Deref e = absurd (false≢true e)
  idle_beyond PatKind.Unknown e = absurd (false≢true e)

-- by the kind of the pattern
idle_kind : (image bindings : List ℕ) (p : ℕ) (row : PatRow) (mode : MatchingMode) → nothing_to_do image mode row ≡ true → Idle (kind_pattern (pat_kind row.kind) image bindings p row) mode
unfolding nothing_to_do is_check
idle_kind image bindings p row mode e = go mode (is_check mode) refl (and_right (eqb row.derefs 0) (cond (is_check mode) (idle_in_check (pat_kind row.kind) row.b) (idle_beyond_check (pat_kind row.kind) image row)) e)
  where
    checked : (m : MatchingMode) → is_check m ≡ true → idle_in_check (pat_kind row.kind) row.b ≡ true → Idle (kind_pattern (pat_kind row.kind) image bindings p row) m
    checked MatchingMode.Check z i = idle_checked image bindings p row (pat_kind row.kind) i
    checked MatchingMode.Bind z i = absurd (false≢true z)
    checked MatchingMode.Assign z i = absurd (false≢true z)

    go : (m : MatchingMode) (b : Bool) → is_check m ≡ b → cond b (idle_in_check (pat_kind row.kind) row.b) (idle_beyond_check (pat_kind row.kind) image row) ≡ true → Idle (kind_pattern (pat_kind row.kind) image bindings p row) m
    go m true z i = checked m z i
    go m false z i = idle_beyond image bindings p row m z (pat_kind row.kind) i

-- The theorem: a pattern at which there is nothing to do is lowered by its visit alone.
pub idle_walks : (image bindings : List ℕ) (q : PatId) (mode : MatchingMode) (c : Counts) (current : BasicBlockId) (els : OptBlock) (t : Body) (v : List ℕ) {v₁ : List ℕ} →
    valid image ≡ true → q.0 < pattern_count image → Begins c current els → v₁ ≡ visited_in v q → nothing_to_do image mode (pat_at image q.0) ≡ true →
    (place : Place) → Inner image bindings q mode c current els place t v (Ok (c, current, els)) t v₁
unfolding nothing_to_do
idle_walks image bindings q mode c current els t v good h B seen e place =
    let row = pat_at image q.0 in
    let none = eqb-true row.derefs 0 (and_left (eqb row.derefs 0) (cond (is_check mode) (idle_in_check (pat_kind row.kind) row.b) (idle_beyond_check (pat_kind row.kind) image row)) e) in
    inner_goes image bindings q row mode c current els place t v (record { ok = true; place = place }) good h refl seen (behind_none place row.derefs none refl) refl
    (walks_skips (λ ctx. idle_kind image bindings q.0 row mode e ctx current els place) B)

-- `nothing_to_do`
module _ (image : List ℕ) (mode : MatchingMode) (row : PatRow) where
  pub derefs_left : (row.derefs ≡ 0 → ⊥) → false ≡ nothing_to_do image mode row
  unfolding nothing_to_do
  derefs_left n = rw (ne_eqb row.derefs 0 n) refl

  module _ (none : row.derefs ≡ 0) {k : PatKind} (is : k ≡ pat_kind row.kind) {b : Bool} where
    pub told_in_check : is_check mode ≡ true → b ≡ idle_in_check k row.b → b ≡ nothing_to_do image mode row
    unfolding nothing_to_do
    told_in_check e by = by ∙ rw (is, eq-eqb row.derefs 0 none, e) refl

    pub told_beyond : is_check mode ≡ false → b ≡ idle_beyond_check k image row → b ≡ nothing_to_do image mode row
    unfolding nothing_to_do
    told_beyond e by = by ∙ rw (is, eq-eqb row.derefs 0 none, e) refl
