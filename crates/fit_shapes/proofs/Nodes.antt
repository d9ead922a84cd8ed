-- A pattern's row, of its kind: its node, its type, and its subpatterns, which are below it. Assumes nothing.
use Prim.Native.Nat.{ℕ, ◌<◌}
use mathlib.Core.Path.{◌≡◌, ◌∙◌}
use mathlib.Core.Bool.{true, ◌&&◌}
use mathlib.Core.List.{List}
use borrow.Author.Tests.{ltb-true}
use lib.Dec.{ltb, leb, eqb}
use Rattle.image.specs.declared.kinds.PatKind.{PatKind}
use Rattle.image.specs.declared.kinds.PathKind.{PathKind}
use Rattle.image.specs.declared.rows.PatRow.{PatRow}
use Rattle.image.specs.Tables.{type_count, pattern_count}
use Rattle.image.specs.Kinds.{pat_kind}
use Rattle.image.specs.Rows.{pat_at, operand_at}
use Rattle.image.specs.Lists.{all_in}
use Rattle.image.specs.Rules.{names_type}
use Rattle.image.specs.Subpatterns.{subpatterns_by}
use Rattle.image.specs.Operands.{operand_holds}
use Rattle.image.specs.Patterns.{path_holds, pattern_shape_holds, pattern_holds, subpatterns_below}
use Rattle.image.specs.Tree.{Head, node_by, node, tree}
use Rattle.image.specs.Valid.{rules, valid}
use Rattle.image.proofs.Bools.{and_left, all_true_at, below_at}
use Rattle.image.proofs.Known.{pattern_holds_lem}
use Rattle.image.proofs.Trees.{tree_node}

-- the head of the pattern p
abbrev pub head_of : ℕ → PatRow → Head
head_of p row = record { number = p; ty = row.ty; derefs = row.derefs }

module _ (image : List ℕ) (p : ℕ) {row : PatRow} (at : row ≡ pat_at image p) (holds : valid image ≡ true) (inside : p < pattern_count image) where
  -- the tree is the node of the row
  pub node_of_lem : {kind : PatKind} → kind ≡ pat_kind row.kind → tree image p ≡ node_by kind (tree image) image (head_of p row) row
  unfolding node
  node_of_lem told = tree_node image p holds inside ∙ rw (told, at)

  -- the type is one
  pub type_inside : row.ty < type_count image
  unfolding pattern_holds
  type_inside =
      let there = pat_at image p in
      let named = names_type image there.ty in
      let few = leb there.derefs 16 in
      let shape = pattern_shape_holds (pat_kind there.kind) image there in
      rw at (ltb-true there.ty (type_count image) (and_left named few (and_left (named && few) shape (pattern_holds_lem image p holds inside))))

  -- the subpatterns are below
  pub subs_below : {kind : PatKind} → kind ≡ pat_kind row.kind → all_in (λ q. ltb q p) (subpatterns_by kind image row) ≡ true
  unfolding subpatterns_below valid
  subs_below told = rw (told, at) (below_at (subpatterns_below image) (pattern_count image) p (all_true_at (rules image) 8 holds) inside)

-- `path_fits`: a constant's operand holds
pub constant_holds_lem : (image : List ℕ) (b : ℕ) {kind : PathKind} → kind ≡ PathKind.Constant → path_holds kind image b ≡ true → operand_holds image b ≡ true
unfolding path_holds
constant_holds_lem image b k e = and_left (operand_holds image b) (eqb (operand_at image b).kind 8) (rw k at e)
