-- The rows of nodes, in the order in which they close: what each stands for. Assumes nothing: these are definitions.
use Rattle.std.specs.Prelude.{ℕ, zero, suc, ◌+◌, ◌*◌, true, false, cond, ◌||◌, List, [], ◌∷◌, ◌++◌, eqb, leb, get_or}
use Rattle.std.proofs.Math.Option.{Option, none, some}
use Rattle.decimal_values.specs.Values.{decimal_from}
use Rattle.pattern_syntax.specs.Written.{Name, LiteralValue, bool_value, char_value, whole_value, minus_value, Node, wildcard_node, rest_node, literal_node, bound_node, bound_path_node, range_node, path_node, ident_node, reference_node, tuple_node, tuple_struct_node, slice_node, record_node, field_node, or_node}
use Rattle.pattern_syntax.specs.Reduced.{bytes_from}
use Rattle.pattern_syntax.specs.Closing.{ClosedNode, closed_node}
use Rattle.node_rows.specs.declared.NodeRow.{NodeRow}

-- a row's words: 7 from 7 i on
unfoldable pub node_row_at : List ℕ → ℕ → NodeRow
node_row_at table i =
    record {
      kind = get_or table (7 * i) 0;
      at = get_or table (7 * i + 1) 0;
      parts = get_or table (7 * i + 2) 0;
      more = get_or table (7 * i + 3) 0;
      spot = get_or table (7 * i + 4) 0;
      from = get_or table (7 * i + 5) 0;
      to = get_or table (7 * i + 6) 0;
    }

-- a literal, by its sort: 0 false, 1 true, 2 a char, 3 an integer, 4 one behind a minus
unfoldable pub literal_in : List ℕ → ℕ → ℕ → ℕ → LiteralValue
literal_in text sort from to =
    cond (eqb sort 0) (bool_value false)
    (cond (eqb sort 1) (bool_value true)
    (cond (eqb sort 2) (char_value (to * 65536 + from))
    (cond (eqb sort 3) (whole_value (decimal_from 0 (bytes_from text from to)))
    (minus_value (decimal_from 0 (bytes_from text from to))))))

-- a number, or none for 65535
unfoldable pub number_in : ℕ → Option ℕ
number_in w = cond (eqb w 65535) none (some w)

-- the name of a row, among the bytes of names
unfoldable pub name_in : List ℕ → NodeRow → Name
name_in names row = record { at = row.spot; bytes = bytes_from names row.from row.to }

-- what a row stands for, by its kind. An ident's `more` is 1 with `ref`, 2 with `mut`, 3 with both; a reference's 1 with `mut`; a range's 1 with `..`, its
-- lower bound is there where `from` is 1, its upper one where `to` is; a list's `more` says how many items stand before its rest
unfoldable pub node_of : List ℕ → List ℕ → NodeRow → Node
node_of text names row =
    cond (eqb row.kind 0) wildcard_node
    (cond (eqb row.kind 1) rest_node
    (cond (eqb row.kind 2) (literal_node (literal_in text row.more row.from row.to))
    (cond (eqb row.kind 3) (bound_node (literal_in text row.more row.from row.to))
    (cond (eqb row.kind 4) (bound_path_node (name_in names row))
    (cond (eqb row.kind 5) (range_node (eqb row.from 1) (eqb row.to 1) (eqb row.more 1))
    (cond (eqb row.kind 6) (path_node (name_in names row))
    (cond (eqb row.kind 7) (ident_node (eqb row.more 1 || eqb row.more 3) (leb 2 row.more) (name_in names row))
    (cond (eqb row.kind 8) (reference_node (eqb row.more 1))
    (cond (eqb row.kind 9) (tuple_node (number_in row.more))
    (cond (eqb row.kind 10) (tuple_struct_node (name_in names row) (number_in row.more))
    (cond (eqb row.kind 11) (slice_node (number_in row.more))
    (cond (eqb row.kind 12) (record_node (name_in names row))
    (cond (eqb row.kind 13) (field_node (name_in names row))
    or_node)))))))))))))

unfoldable pub closed_node_of : List ℕ → List ℕ → NodeRow → ClosedNode
closed_node_of text names row = closed_node row.at (node_of text names row) row.parts

-- the first n rows
unfoldable pub nodes_in : List ℕ → List ℕ → List ℕ → ℕ → List ClosedNode
nodes_in text names table zero = []
nodes_in text names table (suc n) = nodes_in text names table n ++ (closed_node_of text names (node_row_at table n) ∷ [])
