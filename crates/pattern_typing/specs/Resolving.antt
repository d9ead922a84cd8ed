-- What becomes of a node, by what it is read at: number 20's position, or what is made of it and how its parts are read (patterns.ident.precedent,
-- patterns.path, patterns.struct, patterns.tuple-struct, patterns.slice, patterns.range). Assumes nothing: these are definitions.
use Rattle.std.specs.Prelude.{ℕ, ◌-◌, Bool, cond, ◌&&◌, ◌||◌, List, [], eqb, leb}
use Rattle.std.proofs.Math.Option.{Option, none, some}
use Rattle.image.specs.Rows.{type_at}
use Rattle.image.specs.Types.{is_set}
use Rattle.name_tables.specs.Names.{as_variant, as_constant, as_value, as_field_of, row_for, name_row_at}
use Rattle.pattern_syntax.specs.Written.{Name, Node, wildcard_node, rest_node, literal_node, bound_node, bound_path_node, range_node, path_node, ident_node, reference_node, tuple_node, tuple_struct_node, slice_node, record_node, field_node, or_node}
use Rattle.pattern_typing.specs.Crossing.{is_array, is_slice, by_value, by_ref, by_ref_mut, Crossed, crossed, tuple_fields, variant_fields_of}
use Rattle.pattern_typing.specs.Contexts.{Context, typed, rest_among, field_at, partless, unseen, PartsRead, unseen_parts, same_parts, target_part, argument_parts, item_parts, field_parts, field_part}
use Rattle.pattern_typing.specs.Making.{BoundAt, bound_at_type, bound_at_array, Making, not_made, row_made, literal_made, operand_made, operand_named, range_made, bind_made, reference_made, list_made, slice_made, field_made, pattern_row, or_absent}

-- refused at a position, or not; what is made; how the parts are read
pub record Resolved : Type 0 where
  pub refused_at : Option ℕ
  pub making : Making
  pub reads : PartsRead

-- number 20: nothing inside is looked at
abbrev pub refused_here : ℕ → Resolved
refused_here at = record { refused_at = some at; making = not_made; reads = unseen_parts }

-- taken
abbrev pub resolved_to : Making → PartsRead → Resolved
resolved_to making reads = record { refused_at = none; making = making; reads = reads }

-- where the table lacks a name it is refused, and else goes on with the row's number
unfoldable pub where_named : List ℕ → Option ℕ → Name → (ℕ → Resolved) → Resolved
where_named names none name go = refused_here name.at
where_named names (some row) name go = go (name_row_at names row).number

-- a path to a variant (1) or a constant (3), behind the references that are crossed
unfoldable pub path_made : Crossed → ℕ → ℕ → Making
path_made c kind number = row_made (pattern_row 9 c.ty c.derefs (cond (eqb kind 1) 1 3) number 0 0)

unfoldable pub resolved_path : List ℕ → Option ℕ → Name → Crossed → Resolved
resolved_path names none name c = refused_here name.at
resolved_path names (some row) name c = resolved_to (path_made c (name_row_at names row).kind (name_row_at names row).number) unseen_parts

-- `ref` and `mut` before a name, and a part behind it: it cannot be a variant or a constant
pub record Marked : Type 0 where
  pub reference : Bool
  pub mutable : Bool
  pub called : Name

-- `ref x` is mode 1, `ref mut x` mode 2, `mut x` mode 0 whatever the default mode; "If a binding pattern does not explicitly have ref, ref mut, or
-- mut, then it uses the default binding mode" (patterns.ident.ref, patterns.ident.binding.default-mode)
unfoldable pub mode_of : Marked → ℕ → ℕ
mode_of m mode = cond m.reference (cond m.mutable by_ref_mut by_ref) (cond m.mutable by_value mode)

-- 0 for `x`, 1 for `mut x`, 2 for the others
unfoldable pub annotation_of : Marked → ℕ
annotation_of m = cond m.reference 2 (cond m.mutable 1 0)

abbrev pub binding_made : Marked → ℕ → ℕ → BoundAt → Making
binding_made m t mode at = bind_made t (mode_of m mode) (annotation_of m) m.called.bytes at

-- "every plain name that is no variant or constant is one picked binding"; "variant or constant with ref, mut or `@`" is refused
unfoldable pub resolved_ident : List ℕ → List ℕ → Option ℕ → Marked → ℕ → ℕ → ℕ → Resolved
resolved_ident sheet names none m t mode many = resolved_to (binding_made m t mode (bound_at_type t)) (same_parts t mode)
resolved_ident sheet names (some row) m t mode many =
    cond (m.reference || m.mutable || leb 1 many) (refused_here m.called.at) (resolved_path names (some row) m.called (crossed sheet t mode))

-- what a rest is bound at: a slice's type, or an array of what is left, "an array's copy flag its element's"
unfoldable pub rest_bound_at : List ℕ → ℕ → ℕ → BoundAt
rest_bound_at sheet t others =
    cond (is_array sheet t)
    (bound_at_array (type_at sheet t).a ((type_at sheet t).b - others) (cond (is_set (type_at sheet (type_at sheet t).a).copy) 1 0))
    (bound_at_type t)

-- a rest that is bound has no part where the type is no array or slice, or the array is shorter than the other items
unfoldable pub rest_holds : List ℕ → ℕ → ℕ → Bool
rest_holds sheet t others = is_slice sheet t || is_array sheet t && leb others (type_at sheet t).b

-- `..`, or a name bound to it: its type is the slice's
abbrev pub rest_made : ℕ → Making
rest_made t = row_made (pattern_row 1 t 0 0 0 0 0)

unfoldable pub resolved_bound_rest : List ℕ → Option ℕ → Marked → ℕ → ℕ → ℕ → Resolved
resolved_bound_rest sheet none m t others mode = resolved_to (binding_made m t mode (rest_bound_at sheet t others)) (same_parts t mode)
resolved_bound_rest sheet (some row) m t others mode = refused_here m.called.at

unfoldable pub resolved_rest : List ℕ → List ℕ → ℕ → Option Marked → ℕ → ℕ → ℕ → Resolved
resolved_rest sheet names at none t others mode = resolved_to (rest_made t) unseen_parts
resolved_rest sheet names at (some m) t others mode =
    cond (rest_holds sheet t others) (resolved_bound_rest sheet (row_for names as_value m.called.bytes) m t others mode) (refused_here at)

-- a node that binds a name
unfoldable pub binds_in : Node → Option Marked
binds_in wildcard_node = none
binds_in rest_node = none
binds_in (literal_node v) = none
binds_in (bound_node v) = none
binds_in (bound_path_node n) = none
binds_in (range_node lower upper dots) = none
binds_in (path_node n) = none
binds_in (ident_node r m n) = some (record { reference = r; mutable = m; called = n })
binds_in (reference_node m) = none
binds_in (tuple_node before) = none
binds_in (tuple_struct_node n before) = none
binds_in (slice_node before) = none
binds_in (record_node n) = none
binds_in (field_node n) = none
binds_in or_node = none

-- the name of a field
unfoldable pub field_name : Node → Name
field_name wildcard_node = record { at = 0; bytes = [] }
field_name rest_node = record { at = 0; bytes = [] }
field_name (literal_node v) = record { at = 0; bytes = [] }
field_name (bound_node v) = record { at = 0; bytes = [] }
field_name (bound_path_node n) = n
field_name (range_node lower upper dots) = record { at = 0; bytes = [] }
field_name (path_node n) = n
field_name (ident_node r m n) = n
field_name (reference_node m) = record { at = 0; bytes = [] }
field_name (tuple_node before) = record { at = 0; bytes = [] }
field_name (tuple_struct_node n before) = n
field_name (slice_node before) = record { at = 0; bytes = [] }
field_name (record_node n) = n
field_name (field_node n) = n
field_name or_node = record { at = 0; bytes = [] }

-- a list's row, behind the references that are crossed
abbrev pub list_row : ℕ → Crossed → ℕ → ℕ → Making
list_row kind c w v = list_made (pattern_row kind c.ty c.derefs 0 0 w v)

-- a tuple struct or a record whose variant is found, and how their parts are read
unfoldable pub tuple_struct_as : List ℕ → Crossed → Option ℕ → ℕ → ℕ → Resolved
tuple_struct_as sheet c before many v =
    resolved_to (list_row 12 c (or_absent before) v) (argument_parts (variant_fields_of sheet c.ty v) c.mode before many)

unfoldable pub record_as : Crossed → ℕ → Resolved
record_as c v = resolved_to (list_row 6 c v 0) (field_parts c.ty v c.mode)

-- a node of this type and default mode, with so many parts, by its kind: Wild 3, Rest 1, Path 9, Tuple 4, Or 5. "Non-reference patterns include all
-- patterns except bindings, wildcard patterns (_), .. and reference patterns" (patterns.ident.binding.non-reference): literals, ranges, paths, tuple
-- structs, records, tuples and slices cross references, the alternatives of an Or each by themselves
unfoldable pub resolved_node : List ℕ → List ℕ → Node → ℕ → ℕ → ℕ → Resolved
resolved_node sheet names wildcard_node many t mode = resolved_to (row_made (pattern_row 3 t 0 0 0 0 0)) unseen_parts
resolved_node sheet names rest_node many t mode = resolved_to (rest_made t) unseen_parts
resolved_node sheet names (literal_node v) many t mode =
    resolved_to (literal_made (crossed sheet t mode).ty (crossed sheet t mode).derefs v) unseen_parts
resolved_node sheet names (bound_node v) many t mode = resolved_to (operand_made v) unseen_parts
resolved_node sheet names (bound_path_node n) many t mode =
    where_named names (row_for names as_constant n.bytes) n (λ number. resolved_to (operand_named number) unseen_parts)
resolved_node sheet names (range_node lower upper dots) many t mode =
    resolved_to (range_made (crossed sheet t mode).ty (crossed sheet t mode).derefs lower upper dots) (same_parts t mode)
resolved_node sheet names (path_node n) many t mode = resolved_path names (row_for names as_value n.bytes) n (crossed sheet t mode)
resolved_node sheet names (ident_node r m n) many t mode =
    resolved_ident sheet names (row_for names as_value n.bytes) (record { reference = r; mutable = m; called = n }) t mode many
resolved_node sheet names (reference_node m) many t mode = resolved_to (reference_made t) (target_part m t)
resolved_node sheet names (tuple_node before) many t mode =
    resolved_to (list_row 4 (crossed sheet t mode) (or_absent before) 0)
    (argument_parts (tuple_fields sheet (crossed sheet t mode).ty) (crossed sheet t mode).mode before many)
resolved_node sheet names (tuple_struct_node n before) many t mode =
    where_named names (row_for names as_variant n.bytes) n (tuple_struct_as sheet (crossed sheet t mode) before many)
resolved_node sheet names (slice_node before) many t mode =
    resolved_to (slice_made (crossed sheet t mode).ty (crossed sheet t mode).derefs before)
    (item_parts (crossed sheet t mode).ty (crossed sheet t mode).mode before many)
resolved_node sheet names (record_node n) many t mode = where_named names (row_for names as_variant n.bytes) n (record_as (crossed sheet t mode))
resolved_node sheet names (field_node n) many t mode = refused_here n.at
resolved_node sheet names or_node many t mode = resolved_to (list_made (pattern_row 5 t 0 0 0 0 0)) (same_parts t mode)

-- a field that the variant has in the table, and its pattern
unfoldable pub resolved_field : List ℕ → List ℕ → Name → ℕ → ℕ → ℕ → Resolved
resolved_field sheet names n t v mode =
    where_named names (row_for names (as_field_of v) n.bytes) n (λ number. resolved_to (field_made number) (field_part (variant_fields_of sheet t v) mode number))

-- what becomes of a node that begins at a byte and has so many parts, by what it is read at
unfoldable pub resolved : List ℕ → List ℕ → ℕ → Node → ℕ → Context → Resolved
resolved sheet names at n many (typed t mode) = resolved_node sheet names n many t mode
resolved sheet names at n many (rest_among t others mode) = resolved_rest sheet names at (binds_in n) t others mode
resolved sheet names at n many (field_at t v mode) = resolved_field sheet names (field_name n) t v mode
resolved sheet names at n many partless = refused_here at
resolved sheet names at n many unseen = resolved_to not_made unseen_parts
