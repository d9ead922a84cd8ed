-- What holds of a node by its kind: whether it binds a name, and the name that it has. Assumes nothing.
use Prim.Native.Nat.{ℕ}
use mathlib.Core.Path.{◌≡◌, refl}
use mathlib.Core.Bool.{Bool, true, false, cond, ◌||◌, true≢false}
use mathlib.Core.Option.{none, some}
use mathlib.Core.List.{List}
use lib.Dec.{eqb, leb}
use borrow.Author.Tests.{ne_eqb}
use Rattle.pattern_syntax.specs.Written.{Name, Node, wildcard_node, rest_node, literal_node, bound_node, bound_path_node, range_node, path_node, ident_node, reference_node, tuple_node, tuple_struct_node, slice_node, record_node, field_node, or_node}
use Rattle.pattern_syntax.specs.Reduced.{bytes_from}
use Rattle.pattern_typing.specs.Resolving.{binds_in, field_name}
use Rattle.node_rows.specs.declared.NodeRow.{NodeRow}
use Rattle.node_rows.specs.Nodes.{literal_in, number_in, name_in, node_of}
use Rattle.name_resolving.specs.Gives.{marked_in}
use Rattle.part_resolving.specs.Parts.{has_name, without_name, field_row}

-- a node is chosen by its kind: what holds of both holds of the one that is chosen
no_binding_lem : (b : Bool) (x y : Node) → binds_in x ≡ none → binds_in y ≡ none → binds_in (cond b x y) ≡ none
no_binding_lem true x y e d = e
no_binding_lem false x y e d = d

-- a kind that it is not
passed : (b : Bool) (x y : Node) → b ≡ false → binds_in y ≡ none → binds_in (cond b x y) ≡ none
passed true x y e d = absurd (true≢false e)
passed false x y e d = d

module _ (text names : List ℕ) (row : NodeRow) where
  -- the name of the row, or none
  abbrev name_if : Bool → Name
  name_if b = name_in names (cond b row (without_name row))

  named_alike : (b : Bool) (x y : Node) (p q : Bool) → field_name x ≡ name_if p → field_name y ≡ name_if q → field_name (cond b x y) ≡ name_if (cond b p q)
  named_alike true x y p q e d = e
  named_alike false x y p q e d = d

  -- the nodes and the names of the kinds from a number on
  abbrev node13 : Node
  node13 = cond (eqb row.kind 13) (field_node (name_in names row)) or_node

  abbrev has13 : Bool
  has13 = cond (eqb row.kind 13) true false

  abbrev node12 : Node
  node12 = cond (eqb row.kind 12) (record_node (name_in names row)) node13

  abbrev has12 : Bool
  has12 = cond (eqb row.kind 12) true has13

  abbrev node11 : Node
  node11 = cond (eqb row.kind 11) (slice_node (number_in row.more)) node12

  abbrev has11 : Bool
  has11 = cond (eqb row.kind 11) false has12

  abbrev node10 : Node
  node10 = cond (eqb row.kind 10) (tuple_struct_node (name_in names row) (number_in row.more)) node11

  abbrev has10 : Bool
  has10 = cond (eqb row.kind 10) true has11

  abbrev node9 : Node
  node9 = cond (eqb row.kind 9) (tuple_node (number_in row.more)) node10

  abbrev has9 : Bool
  has9 = cond (eqb row.kind 9) false has10

  abbrev node8 : Node
  node8 = cond (eqb row.kind 8) (reference_node (eqb row.more 1)) node9

  abbrev has8 : Bool
  has8 = cond (eqb row.kind 8) false has9

  abbrev node7 : Node
  node7 = cond (eqb row.kind 7) (ident_node (eqb row.more 1 || eqb row.more 3) (leb 2 row.more) (name_in names row)) node8

  abbrev has7 : Bool
  has7 = cond (eqb row.kind 7) true has8

  abbrev node6 : Node
  node6 = cond (eqb row.kind 6) (path_node (name_in names row)) node7

  abbrev has6 : Bool
  has6 = cond (eqb row.kind 6) true has7

  abbrev node5 : Node
  node5 = cond (eqb row.kind 5) (range_node (eqb row.from 1) (eqb row.to 1) (eqb row.more 1)) node6

  abbrev has5 : Bool
  has5 = cond (eqb row.kind 5) false has6

  abbrev node4 : Node
  node4 = cond (eqb row.kind 4) (bound_path_node (name_in names row)) node5

  abbrev has4 : Bool
  has4 = cond (eqb row.kind 4) true has5

  abbrev node3 : Node
  node3 = cond (eqb row.kind 3) (bound_node (literal_in text row.more row.from row.to)) node4

  abbrev has3 : Bool
  has3 = cond (eqb row.kind 3) false has4

  abbrev node2 : Node
  node2 = cond (eqb row.kind 2) (literal_node (literal_in text row.more row.from row.to)) node3

  abbrev has2 : Bool
  has2 = cond (eqb row.kind 2) false has3

  abbrev node1 : Node
  node1 = cond (eqb row.kind 1) rest_node node2

  abbrev has1 : Bool
  has1 = cond (eqb row.kind 1) false has2

  pub binds_none : (row.kind ≡ 7 → ⊥) → binds_in (node_of text names row) ≡ none
  unfolding node_of binds_in
  binds_none ne =
      no_binding_lem (eqb row.kind 0) wildcard_node node1 refl
      (no_binding_lem (eqb row.kind 1) rest_node node2 refl
      (no_binding_lem (eqb row.kind 2) (literal_node (literal_in text row.more row.from row.to)) node3 refl
      (no_binding_lem (eqb row.kind 3) (bound_node (literal_in text row.more row.from row.to)) node4 refl
      (no_binding_lem (eqb row.kind 4) (bound_path_node (name_in names row)) node5 refl
      (no_binding_lem (eqb row.kind 5) (range_node (eqb row.from 1) (eqb row.to 1) (eqb row.more 1)) node6 refl
      (no_binding_lem (eqb row.kind 6) (path_node (name_in names row)) node7 refl
      (passed (eqb row.kind 7) (ident_node (eqb row.more 1 || eqb row.more 3) (leb 2 row.more) (name_in names row)) node8 (ne_eqb row.kind 7 ne)
      (no_binding_lem (eqb row.kind 8) (reference_node (eqb row.more 1)) node9 refl
      (no_binding_lem (eqb row.kind 9) (tuple_node (number_in row.more)) node10 refl
      (no_binding_lem (eqb row.kind 10) (tuple_struct_node (name_in names row) (number_in row.more)) node11 refl
      (no_binding_lem (eqb row.kind 11) (slice_node (number_in row.more)) node12 refl
      (no_binding_lem (eqb row.kind 12) (record_node (name_in names row)) node13 refl
      (no_binding_lem (eqb row.kind 13) (field_node (name_in names row)) or_node refl (refl))))))))))))))

  pub binds_some : row.kind ≡ 7 → binds_in (node_of text names row) ≡ some (marked_in names row)
  unfolding node_of binds_in
  binds_some e = rw e

  pub field_named : field_name (node_of text names row) ≡ name_in names (field_row row)
  unfolding node_of field_name field_row has_name name_in bytes_from
  field_named =
      named_alike (eqb row.kind 0) wildcard_node node1 false has1 refl
      (named_alike (eqb row.kind 1) rest_node node2 false has2 refl
      (named_alike (eqb row.kind 2) (literal_node (literal_in text row.more row.from row.to)) node3 false has3 refl
      (named_alike (eqb row.kind 3) (bound_node (literal_in text row.more row.from row.to)) node4 false has4 refl
      (named_alike (eqb row.kind 4) (bound_path_node (name_in names row)) node5 true has5 refl
      (named_alike (eqb row.kind 5) (range_node (eqb row.from 1) (eqb row.to 1) (eqb row.more 1)) node6 false has6 refl
      (named_alike (eqb row.kind 6) (path_node (name_in names row)) node7 true has7 refl
      (named_alike (eqb row.kind 7) (ident_node (eqb row.more 1 || eqb row.more 3) (leb 2 row.more) (name_in names row)) node8 true has8 refl
      (named_alike (eqb row.kind 8) (reference_node (eqb row.more 1)) node9 false has9 refl
      (named_alike (eqb row.kind 9) (tuple_node (number_in row.more)) node10 false has10 refl
      (named_alike (eqb row.kind 10) (tuple_struct_node (name_in names row) (number_in row.more)) node11 true has11 refl
      (named_alike (eqb row.kind 11) (slice_node (number_in row.more)) node12 false has12 refl
      (named_alike (eqb row.kind 12) (record_node (name_in names row)) node13 true has13 refl
      (named_alike (eqb row.kind 13) (field_node (name_in names row)) or_node true false refl (refl))))))))))))))
