-- What the row of a pattern of each kind names: types, operands, and patterns below it. Assumes nothing.
use Prim.Native.Nat.{ℕ, ◌+◌, ◌*◌, ◌≤◌, ◌<◌}
use mathlib.Core.Path.{◌≡◌, refl, sym, ◌∙◌}
use mathlib.Core.Bool.{Bool, true, false, ◌&&◌}
use mathlib.Core.List.{List, ◌++◌}
use native.Mathlib.Omega.{arith}
use borrow.Author.Tests.{ltb-true, lt-ltb, ne_eqb, eqb-false}
use lib.Dec.{eqb, ltb}
use Rattle.image.specs.declared.Tables.{Tables}
use Rattle.image.specs.declared.kinds.PatKind.{PatKind}
use Rattle.image.specs.declared.rows.PatRow.{PatRow}
use Rattle.image.specs.Tables.{type_count, pattern_count, list_count}
use Rattle.image.specs.Kinds.{path_kind}
use Rattle.image.specs.Lists.{all_in}
use Rattle.image.specs.Rules.{absent, is_flag, in_table, names_type, listed}
use Rattle.image.specs.Subpatterns.{if_present, subpatterns_by}
use Rattle.image.specs.Operands.{operand_holds}
use Rattle.image.specs.Patterns.{variant_or_absent, operand_or_absent, path_holds, pattern_shape_holds}
use Rattle.image.proofs.Bools.{and_left, and_right, all_in_left, all_in_right}
use Rattle.image.proofs.Known.{pattern_holds_lem}
use Rattle.marks.proofs.Shapes.{pattern_shape, tuple_in_list, or_in_list, record_in_list, tuple_struct_in_list, slice_in_list}
use Rattle.fit_shapes.specs.Slices.{pattern_or_absent}
use Rattle.fit_types.specs.Parts.{Node, Items, Pairs}
use Rattle.fit_shapes.proofs.Nodes.{type_inside, subs_below}

-- a pattern that may be absent is below p
pub sub_below : (p q : ℕ) → (q ≡ absent → ⊥) → all_in (λ s. ltb s p) (if_present q) ≡ true → q < p
unfolding if_present all_in
sub_below p q h e = ltb-true q p (and_left (ltb q p) true (rw (ne_eqb q absent h) at e))

module _ {image : List ℕ} {tables : Tables} {p : ℕ} {row : PatRow} where
  -- a row by its kind
  pub node_is : {kind : PatKind} (is : PatKind) → kind ≡ is → Node image tables p row kind → Node image tables p row is
  node_is is e n = record { parent = n.parent; at = n.at; told = sym e ∙ n.told }

  module _ {kind : PatKind} (n : Node image tables p row kind) where
    pub node_type : row.ty < type_count image
    node_type = type_inside image p n.at n.parent.sound n.parent.inside

    pub node_named : names_type image row.ty ≡ true
    node_named = lt-ltb row.ty (type_count image) node_type

    node_shape : pattern_shape_holds kind image row ≡ true
    node_shape = pattern_shape image p n.at n.told (pattern_holds_lem image p n.parent.sound n.parent.inside)

    node_subs : all_in (λ q. ltb q p) (subpatterns_by kind image row) ≡ true
    node_subs = subs_below image p n.at n.parent.sound n.parent.inside n.told

  pub tuple_items : Node image tables p row PatKind.Tuple → Items image p row.a row.b
  unfolding subpatterns_by
  tuple_items n = record { within = tuple_in_list image row refl (node_shape n); below = node_subs n }

  pub or_items : Node image tables p row PatKind.Or → Items image p row.a row.b
  unfolding subpatterns_by
  or_items n = record { within = or_in_list image row refl (node_shape n); below = node_subs n }

  pub tuple_struct_items : Node image tables p row PatKind.TupleStruct → Items image p row.a row.b
  unfolding subpatterns_by
  tuple_struct_items n = record { within = tuple_struct_in_list image row refl (node_shape n); below = node_subs n }

  pub tuple_struct_variant : Node image tables p row PatKind.TupleStruct → variant_or_absent image row.d ≡ true
  unfolding pattern_shape_holds
  tuple_struct_variant n = and_right (in_table row.a row.b (list_count image)) (variant_or_absent image row.d) (node_shape n)

  pub record_pairs : Node image tables p row PatKind.Record → Pairs image p row.a row.b
  unfolding subpatterns_by
  record_pairs n = record { within = record_in_list image row refl (node_shape n); below = node_subs n }

  pub record_variant : Node image tables p row PatKind.Record → variant_or_absent image row.c ≡ true
  unfolding pattern_shape_holds
  record_variant n = and_right (in_table row.a (2 * row.b) (list_count image)) (variant_or_absent image row.c) (node_shape n)

  module _ (n : Node image tables p row PatKind.Range) where
    abbrev starts : Bool
    starts = operand_or_absent image row.a

    abbrev ends : Bool
    ends = operand_or_absent image row.b

    pub range_start : operand_or_absent image row.a ≡ true
    unfolding pattern_shape_holds
    range_start = and_left starts ends (and_left (starts && ends) (is_flag row.c) (node_shape n))

    pub range_end_lem : operand_or_absent image row.b ≡ true
    unfolding pattern_shape_holds
    range_end_lem = and_right starts ends (and_left (starts && ends) (is_flag row.c) (node_shape n))

  pub path_holds_lem : Node image tables p row PatKind.Path → path_holds (path_kind row.a) image row.b ≡ true
  unfolding pattern_shape_holds
  path_holds_lem n = node_shape n

  pub lit_holds : Node image tables p row PatKind.Lit → operand_holds image row.a ≡ true
  unfolding pattern_shape_holds
  lit_holds n = node_shape n

  pub bind_below : Node image tables p row PatKind.Bind → all_in (λ q. ltb q p) (if_present row.b) ≡ true
  unfolding subpatterns_by
  bind_below n = node_subs n

  pub ref_below : Node image tables p row PatKind.Ref → row.a < p
  unfolding subpatterns_by all_in
  ref_below n = ltb-true row.a p (and_left (ltb row.a p) true (node_subs n))

  module _ (n : Node image tables p row PatKind.Slice) where
    prefix : List ℕ
    prefix = listed image 1 row.a row.b

    suffix : List ℕ
    suffix = listed image 1 (row.a + row.b) row.c

    parts : all_in (λ q. ltb q p) (listed image 1 row.a row.b ++ (listed image 1 (row.a + row.b) row.c ++ if_present row.d)) ≡ true
    unfolding subpatterns_by
    parts = node_subs n

    pub slice_within : row.a + (row.b + row.c) ≤ list_count image
    slice_within = slice_in_list image row (node_shape n)

    pub slice_prefix : Items image p row.a row.b
    slice_prefix =
        let w = slice_within in
        record { within = omega arith; below = all_in_left (λ q. ltb q p) (listed image 1 row.a row.b) (listed image 1 (row.a + row.b) row.c ++ if_present row.d) parts }

    behind : all_in (λ q. ltb q p) (listed image 1 (row.a + row.b) row.c ++ if_present row.d) ≡ true
    behind = all_in_right (λ q. ltb q p) (listed image 1 row.a row.b) (listed image 1 (row.a + row.b) row.c ++ if_present row.d) parts

    pub slice_suffix : Items image p (row.a + row.b) row.c
    slice_suffix =
        let w = slice_within in
        record { within = omega arith; below = all_in_left (λ q. ltb q p) (listed image 1 (row.a + row.b) row.c) (if_present row.d) behind }

    pub slice_rest : pattern_or_absent image row.d ≡ true
    slice_rest = go (eqb row.d absent) refl
      where
        go : (t : Bool) → eqb row.d absent ≡ t → pattern_or_absent image row.d ≡ true
        go true e = rw e
        go false e =
            let less = sub_below p row.d (eqb-false row.d absent e) (all_in_right (λ q. ltb q p) (listed image 1 (row.a + row.b) row.c) (if_present row.d) behind) in
            rw (e, lt-ltb row.d (pattern_count image) (omega (arith, n.parent.inside)))
