-- A pattern as it is written, brought down to what names, types and the image go by: nodes, each with where it begins and what stands in it.
-- Assumes nothing: these are definitions.
use Rattle.std.specs.Prelude.{ℕ, zero, suc, Bool, List}
use Rattle.std.proofs.Math.Option.{Option}

-- a name as it is looked up: where it begins in the text, and its bytes. A path's names are joined by `::`, and `r#` is no part of a name
pub record Name : Type 0 where
  pub at : ℕ
  pub bytes : List ℕ

-- what a literal says: a bool, a char by its number, an integer, an integer behind a minus
pub data LiteralValue : Type 0 where
  bool_value : Bool → LiteralValue
  char_value : ℕ → LiteralValue
  whole_value : ℕ → LiteralValue
  minus_value : ℕ → LiteralValue

-- what stands at a place of the tree; the patterns in it are its parts
pub data Node : Type 0 where
  -- `_`, and `..` as a slice's item
  wildcard_node : Node
  rest_node : Node
  literal_node : LiteralValue → Node
  -- the bounds of a range are its parts: a literal or a path; the range has a lower one or not, an upper one or not, and is written with `..`
  -- or with `..=`
  bound_node : LiteralValue → Node
  bound_path_node : Name → Node
  range_node : Bool → Bool → Bool → Node
  -- two names or more
  path_node : Name → Node
  -- with `ref`, with `mut`; what is behind `@` is its part
  ident_node : Bool → Bool → Name → Node
  -- `&`, or `&mut`
  reference_node : Bool → Node
  -- how many items stand before `..`, which is no part
  tuple_node : Option ℕ → Node
  tuple_struct_node : Name → Option ℕ → Node
  -- how many items stand before the rest, which is a part
  slice_node : Option ℕ → Node
  -- its parts are fields, and a field's part is its pattern
  record_node : Name → Node
  field_node : Name → Node
  or_node : Node

mutual
  -- where it begins, what it is, and its parts in the text's order
  pub data Written : Type 0 where
    written : ℕ → Node → Parts → Written

  -- a row that grows at its end
  pub data Parts : Type 0 where
    no_parts : Parts
    more : Parts → Written → Parts

-- how many parts
unfoldable pub part_count : Parts → ℕ
part_count no_parts = zero
part_count (more ps w) = suc (part_count ps)

-- the first byte
unfoldable pub beginning : Written → ℕ
beginning (written at n ps) = at

-- the same from another byte on: behind a leading `|` or inside parentheses
unfoldable pub begun_at : ℕ → Written → Written
begun_at at (written old n ps) = written at n ps

-- one part alone
abbrev pub only : Written → Parts
only w = more no_parts w
