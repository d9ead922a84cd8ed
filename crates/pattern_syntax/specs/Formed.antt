-- What holds of every tree that a text is brought down to: how many parts a node has, that a record's are fields and no others are, and that
-- chars are scalar values. Assumes nothing: these are definitions.
use Rattle.std.specs.Prelude.{ℕ, ◌+◌, Bool, true, false, cond, ◌&&◌, eqb, leb, ltb}
use Rattle.std.proofs.Math.Option.{Option, none, some}
use Rattle.image.specs.Operands.{is_scalar_value}
use Rattle.pattern_syntax.specs.Written.{LiteralValue, bool_value, char_value, whole_value, minus_value, Node, wildcard_node, rest_node, literal_node, bound_node, bound_path_node, range_node, path_node, ident_node, reference_node, tuple_node, tuple_struct_node, slice_node, record_node, field_node, or_node, Written, written, Parts, no_parts, more, part_count}

unfoldable pub literal_formed : LiteralValue → Bool
literal_formed (bool_value b) = true
literal_formed (char_value v) = is_scalar_value v
literal_formed (whole_value v) = true
literal_formed (minus_value v) = true

-- one where it is so
abbrev pub one_if : Bool → ℕ
one_if b = cond b 1 0

-- the rest is one of the parts
unfoldable pub rest_within : Option ℕ → ℕ → Bool
rest_within none many = true
rest_within (some before) many = ltb before many

-- a node may have so many parts
unfoldable pub node_formed : Node → ℕ → Bool
node_formed wildcard_node many = eqb many 0
node_formed rest_node many = eqb many 0
node_formed (literal_node v) many = literal_formed v && eqb many 0
node_formed (bound_node v) many = literal_formed v && eqb many 0
node_formed (bound_path_node n) many = eqb many 0
node_formed (range_node lower upper dots) many = eqb many (one_if lower + one_if upper)
node_formed (path_node n) many = eqb many 0
node_formed (ident_node r m n) many = leb many 1
node_formed (reference_node m) many = eqb many 1
node_formed (tuple_node before) many = true
node_formed (tuple_struct_node n before) many = true
node_formed (slice_node before) many = rest_within before many
node_formed (record_node n) many = true
node_formed (field_node n) many = eqb many 1
node_formed or_node many = true

-- what a node is a part of: a list's rest among them, so that only `..` and names stand there
pub data Stand : Type 0 where
  in_pattern : Stand
  in_range : Stand
  in_record : Stand

-- what its own parts stand in
unfoldable pub stands_in : Node → Stand
stands_in wildcard_node = in_pattern
stands_in rest_node = in_pattern
stands_in (literal_node v) = in_pattern
stands_in (bound_node v) = in_pattern
stands_in (bound_path_node n) = in_pattern
stands_in (range_node lower upper dots) = in_range
stands_in (path_node n) = in_pattern
stands_in (ident_node r m n) = in_pattern
stands_in (reference_node m) = in_pattern
stands_in (tuple_node before) = in_pattern
stands_in (tuple_struct_node n before) = in_pattern
stands_in (slice_node before) = in_pattern
stands_in (record_node n) = in_record
stands_in (field_node n) = in_pattern
stands_in or_node = in_pattern

abbrev pub in_pattern_only : Stand → Bool
in_pattern_only in_pattern = true
in_pattern_only in_range = false
in_pattern_only in_record = false

-- bounds stand in ranges, fields in records, and everything else in patterns
unfoldable pub may_stand : Node → Stand → Bool
may_stand wildcard_node s = in_pattern_only s
may_stand rest_node s = in_pattern_only s
may_stand (literal_node v) s = in_pattern_only s
may_stand (bound_node v) in_pattern = false
may_stand (bound_node v) in_range = true
may_stand (bound_node v) in_record = false
may_stand (bound_path_node n) in_pattern = false
may_stand (bound_path_node n) in_range = true
may_stand (bound_path_node n) in_record = false
may_stand (range_node lower upper dots) s = in_pattern_only s
may_stand (path_node n) s = in_pattern_only s
may_stand (ident_node r m n) s = in_pattern_only s
may_stand (reference_node m) s = in_pattern_only s
may_stand (tuple_node before) s = in_pattern_only s
may_stand (tuple_struct_node n before) s = in_pattern_only s
may_stand (slice_node before) s = in_pattern_only s
may_stand (record_node n) s = in_pattern_only s
may_stand (field_node n) in_pattern = false
may_stand (field_node n) in_range = false
may_stand (field_node n) in_record = true
may_stand or_node s = in_pattern_only s

-- which part of a slice is its rest
unfoldable pub rest_place : Node → Option ℕ
rest_place wildcard_node = none
rest_place rest_node = none
rest_place (literal_node v) = none
rest_place (bound_node v) = none
rest_place (bound_path_node n) = none
rest_place (range_node lower upper dots) = none
rest_place (path_node n) = none
rest_place (ident_node r m n) = none
rest_place (reference_node m) = none
rest_place (tuple_node before) = none
rest_place (tuple_struct_node n before) = none
rest_place (slice_node before) = before
rest_place (record_node n) = none
rest_place (field_node n) = none
rest_place or_node = none

-- `..`, or a name that may be bound to it
unfoldable pub may_be_rest : Node → Bool
may_be_rest wildcard_node = false
may_be_rest rest_node = true
may_be_rest (literal_node v) = false
may_be_rest (bound_node v) = false
may_be_rest (bound_path_node n) = false
may_be_rest (range_node lower upper dots) = false
may_be_rest (path_node n) = false
may_be_rest (ident_node r m n) = true
may_be_rest (reference_node m) = false
may_be_rest (tuple_node before) = false
may_be_rest (tuple_struct_node n before) = false
may_be_rest (slice_node before) = false
may_be_rest (record_node n) = false
may_be_rest (field_node n) = false
may_be_rest or_node = false

unfoldable pub node_in : Written → Node
node_in (written at n ps) = n

unfoldable pub rest_part_formed : Option ℕ → Parts → Bool
rest_part_formed none ps = true
rest_part_formed (some before) no_parts = true
rest_part_formed (some before) (more ps w) = cond (eqb before (part_count ps)) (may_be_rest (node_in w)) (rest_part_formed (some before) ps)

unfoldable mutual
  pub formed : Written → Stand → Bool
  formed (written at n ps) s = may_stand n s && node_formed n (part_count ps) && rest_part_formed (rest_place n) ps && parts_formed ps (stands_in n)

  pub parts_formed : Parts → Stand → Bool
  parts_formed no_parts s = true
  parts_formed (more ps w) s = parts_formed ps s && formed w s
