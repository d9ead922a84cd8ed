-- The patterns that have no subpattern, by the ways through the code. Assumes nothing.
use Rattle.std.specs.Prelude.{Ok, Err}
use mathlib.Core.Path.{◌≡◌, refl, ap, ◌∙◌}
use mathlib.Core.Bool.{true, ◌&&◌}
use mathlib.Core.List.{List}
use Prim.Native.Nat.{ℕ, ◌<◌}
use borrow.Author.Tests.{ltb-true, eqb-true}
use lib.Dec.{eqb}
use Rattle.refusals.specs.declared.MirLowerError.{MirLowerError}
use Rattle.image.specs.declared.PatId.{PatId}
use Rattle.image.specs.declared.kinds.OperandKind.{OperandKind}
use Rattle.image.specs.declared.kinds.PatKind.{PatKind}
use Rattle.image.specs.declared.kinds.PathKind.{PathKind}
use Rattle.image.specs.declared.rows.PatRow.{PatRow}
use Rattle.image.specs.Kinds.{pat_kind, path_kind, operand_kind}
use Rattle.image.specs.Operands.{operand_holds}
use Rattle.image.specs.Patterns.{operand_or_absent, path_holds, pattern_shape_holds}
use Rattle.image.specs.Rows.{operand_at}
use Rattle.image.specs.Rules.{is_flag}
use Rattle.image.specs.Tables.{binding_count}
use Rattle.image.specs.Tree.{other}
use Rattle.image.specs.Types.{operand_of}
use Rattle.image.proofs.Bools.{and_left, and_right}
use Rattle.place.specs.declared.Place.{Place}
use Rattle.mir.specs.declared.BasicBlockId.{BasicBlockId}
use Rattle.mir.specs.declared.Counts.{Counts}
use Rattle.lower_spec.specs.Results.{OptBlock}
use Rattle.pattern_matching.specs.declared.MatchingMode.{MatchingMode}
use Rattle.pattern_matching.specs.Walking.{Lowering}
use Rattle.pattern_matching.specs.Tests.{constant_path, local_path}
use Rattle.pattern_matching.specs.Patterns.{refusing, passing, path_pattern}
use Rattle.pattern_nodes.specs.Leaves.{path_leaf, leaf_pattern}
use Rattle.pattern_walk_spec.specs.Results.{Lowered}
use Rattle.pattern_walk_spec.specs.Answers.{Begins, Lowers}
use Rattle.pattern_walk_spec.proofs.Sequences.{lowers_skips, lowers_refuses, lowers_by}
use Rattle.pattern_leaves.specs.Modes.{other_path}
use Rattle.pattern_leaves.proofs.Checking.{other_lowers}
use Rattle.state.specs.State.{Body}

-- what holds of a path's word
module _ (image : List ℕ) (b : ℕ) {kind : PathKind} (holds : path_holds kind image b ≡ true) where
  -- it is a binding
  pub path_binding : {n : ℕ} → kind ≡ PathKind.Local → n ≡ binding_count image → b < n
  unfolding path_holds
  path_binding is n = rw n (ltb-true b (binding_count image) (rw is at holds))

  -- or an operand, of the kind of constants
  module _ (is : kind ≡ PathKind.Constant) where
    both : operand_holds image b && eqb (operand_at image b).kind 8 ≡ true
    unfolding path_holds
    both = rw is at holds

    pub path_operand : operand_holds image b ≡ true
    path_operand = and_left (operand_holds image b) (eqb (operand_at image b).kind 8) both

    pub path_constant : (operand_of image b).kind ≡ OperandKind.Constant
    unfolding operand_of
    path_constant = ap operand_kind (eqb-true (operand_at image b).kind 8 (and_right (operand_holds image b) (eqb (operand_at image b).kind 8) both))

-- `path_leaf`; t is the body at entry
module _ (image bindings : List ℕ) (t : Body) (c : Counts) (mode : MatchingMode) (p : PatId) (ty b : ℕ) (current : BasicBlockId) (els : OptBlock) (place : Place) where
  abbrev Path : PathKind → Lowered → Body → Type 0
  Path kind = Lowers (λ ctx. path_leaf kind image bindings p.0 ty b mode ctx current els place) c current els t

  -- a path that names nothing, or a variant
  pub path_unresolved : {kind : PathKind} → kind ≡ PathKind.Unresolved → Path kind (Err (MirLowerError.UnresolvedName, p)) t
  unfolding path_leaf path_pattern
  path_unresolved is = lowers_refuses (λ ctx. rw is refl)

  pub path_variant : {kind : PathKind} → kind ≡ PathKind.Variant → Path kind (Err (MirLowerError.IncompletePattern, p)) t
  unfolding path_leaf
  path_variant is = lowers_refuses (λ ctx. rw is refl)

  -- a local
  pub path_local : {kind : PathKind} {r : Lowered} {t' : Body} → kind ≡ PathKind.Local → Lowers (λ ctx. local_path bindings p.0 b mode ctx current els place) c current els t r t' → Path kind r t'
  unfolding path_leaf path_pattern
  path_local is L = rw is L

  -- a constant
  pub path_compared : {kind : PathKind} {r : Lowered} {t' : Body} → kind ≡ PathKind.Constant → Lowers (λ ctx. constant_path image p.0 ty (operand_of image b) mode ctx current els place) c current els t r t' → Path kind r t'
  unfolding path_leaf path_pattern
  path_compared is L = rw is L

  -- something else
  pub path_other : (kind : PathKind) {r : Lowered} → path_pattern other image bindings p.0 ty ≡ path_leaf kind image bindings p.0 ty b → Begins c current els → r ≡ other_path c mode p current els → Path kind r t
  unfolding path_pattern
  path_other kind is h same = rw (← is, same) (other_lowers c p current els t mode h)

-- what holds of a row, by the kind that is read
module _ (image : List ℕ) (row : PatRow) {kind : PatKind} (read : kind ≡ pat_kind row.kind) (holds : pattern_shape_holds (pat_kind row.kind) image row ≡ true) where
  by_kind : pattern_shape_holds kind image row ≡ true
  by_kind = ap (λ (k : PatKind). pattern_shape_holds k image row) read ∙ holds

  -- both ends of a range
  pub range_holds : kind ≡ PatKind.Range → (operand_or_absent image row.a ≡ true) × (operand_or_absent image row.b ≡ true)
  unfolding pattern_shape_holds
  range_holds is =
      let ends = and_left (operand_or_absent image row.a && operand_or_absent image row.b) (is_flag row.c) (rw is at by_kind) in
      (and_left (operand_or_absent image row.a) (operand_or_absent image row.b) ends, and_right (operand_or_absent image row.a) (operand_or_absent image row.b) ends)

  -- a path
  pub path_holds_lem : {path : PathKind} → kind ≡ PatKind.Path → path ≡ path_kind row.a → path_holds path image row.b ≡ true
  unfolding pattern_shape_holds
  path_holds_lem is named = rw named (rw is at by_kind)

  -- a literal
  pub literal_holds : kind ≡ PatKind.Lit → operand_holds image row.a ≡ true
  unfolding pattern_shape_holds
  literal_holds is = rw is at by_kind

-- `pattern_match_leaf`, by the kind that is read; t is the body at entry
module _ (image bindings : List ℕ) (t : Body) (c : Counts) (mode : MatchingMode) (p : PatId) (row : PatRow) (current : BasicBlockId) (els : OptBlock) (place : Place)
    {kind : PatKind} (read : kind ≡ pat_kind row.kind) where
  abbrev Leaf : Lowered → Body → Type 0
  Leaf = Lowers (λ ctx. leaf_pattern (pat_kind row.kind) image bindings p.0 row mode ctx current els place) c current els t

  -- a pattern that is lowered as `defined`
  pub leaf_lowers : (defined : Lowering) {r : Lowered} {t' : Body} → defined ≡ leaf_pattern kind image bindings p.0 row → Lowers (λ ctx. defined mode ctx current els place) c current els t r t' → Leaf r t'
  leaf_lowers defined is L = lowers_by (λ ctx. ap (λ (f : Lowering). f mode ctx current els place) (is ∙ ap (λ (k : PatKind). leaf_pattern k image bindings p.0 row) read)) L

  -- one that is refused
  pub leaf_refused : {e : MirLowerError} → refusing e p.0 ≡ leaf_pattern kind image bindings p.0 row → Leaf (Err (e, p)) t
  leaf_refused {e = e} is = leaf_lowers (refusing e p.0) is (lowers_refuses (λ ctx. refl))

  -- one that has nothing to do
  pub leaf_passed : passing ≡ leaf_pattern kind image bindings p.0 row → Begins c current els → Leaf (Ok (c, current, els)) t
  leaf_passed is h = leaf_lowers passing is (lowers_skips (λ ctx. refl) h)

  -- a path, by what it names
  pub leaf_path : {path : PathKind} {r : Lowered} {t' : Body} → kind ≡ PatKind.Path → path ≡ path_kind row.a →
      Lowers (λ ctx. path_leaf path image bindings p.0 row.ty row.b mode ctx current els place) c current els t r t' → Leaf r t'
  unfolding leaf_pattern
  leaf_path {path = path} is named L = leaf_lowers (path_leaf path image bindings p.0 row.ty row.b) (rw is (ap (λ (k : PathKind). path_leaf k image bindings p.0 row.ty row.b) named)) L
