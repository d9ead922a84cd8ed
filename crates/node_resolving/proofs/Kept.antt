-- The types that contexts and parts name stay the sheet's: from parts to their contexts, and from a context to the parts of a node that is read
-- at it. Assumes nothing.
use Prim.Native.Nat.{ℕ, zero, suc, ◌+◌, ◌-◌, ◌≤◌, ◌<◌}
use mathlib.Core.Path.{◌≡◌, refl}
use mathlib.Core.Bool.{Bool, true, false, cond, ◌&&◌, ◌||◌}
use mathlib.Core.Option.{Option, none, some}
use mathlib.Core.List.{List}
use native.Mathlib.Omega.{arith}
use borrow.Author.Tests.{eqb-true, ltb-true}
use lib.Dec.{leb, ltb}
use Rattle.image.specs.Tables.{type_count, variant_count}
use Rattle.image.specs.Rows.{type_at, variant_at, list_at}
use Rattle.image.specs.Types.{is_set}
use Rattle.image.proofs.Bools.{and_left, and_right}
use Rattle.type_sheets.specs.Sheets.{sheet_holds}
use Rattle.type_sheets.proofs.Known.{target_type, array_element, slice_element, tuple_types, adt_within, variant_types, listed_type}
use Rattle.pattern_syntax.specs.Written.{Name, Node, wildcard_node, rest_node, literal_node, bound_node, bound_path_node, range_node, path_node, ident_node, reference_node, tuple_node, tuple_struct_node, slice_node, record_node, field_node, or_node}
use Rattle.name_tables.specs.Names.{name_row_at, row_for, as_value}
use Rattle.pattern_typing.specs.Crossing.{is_reference, is_tuple, is_adt, is_array, is_slice, is_written_as, Crossed, cross_one, cross_up_to, crossed, FieldTypes, no_fields, tuple_fields, has_variant_of, variant_fields_of, by_value}
use Rattle.pattern_typing.specs.Contexts.{Context, typed, rest_among, field_at, partless, unseen, PartsRead, unseen_parts, same_parts, target_part, argument_parts, item_parts, field_parts, field_part, field_context, stands_before, argument_context, is_rest_item, item_context, target_context, part_context}
use Rattle.pattern_typing.specs.Resolving.{Resolved, refused_here, where_named, resolved_path, Marked, resolved_ident, rest_holds, resolved_bound_rest, binds_in, resolved_rest, tuple_struct_as, record_as, resolved_node, field_name, resolved_field, resolved}
use Rattle.node_resolving.specs.Known.{ContextKnown, FieldsKnown, PartsKnown}

module _ (sheet : List ℕ) (held : sheet_holds sheet ≡ true) where
  field_known : (fields : FieldTypes) (mode i : ℕ) → FieldsKnown sheet fields → ContextKnown sheet (field_context sheet fields mode i)
  unfolding field_context
  field_known fields mode i k = go (ltb i fields.count) refl
    where
      go : (b : Bool) → ltb i fields.count ≡ b → ContextKnown sheet (cond b (typed (list_at sheet (fields.start + i)) mode) partless)
      go true e = k i (ltb-true _ _ e)
      go false e = tt

  argument_known : (fields : FieldTypes) (mode : ℕ) (before : Option ℕ) (many i : ℕ) → FieldsKnown sheet fields → ContextKnown sheet (argument_context sheet fields mode before many i)
  unfolding argument_context
  argument_known fields mode before many i k = go (stands_before before i) (leb many (fields.count + i))
    where
      go : (b c : Bool) → ContextKnown sheet (cond b (field_context sheet fields mode i) (cond c (field_context sheet fields mode (fields.count + i - many)) partless))
      go true c = field_known fields mode i k
      go false true = field_known fields mode (fields.count + i - many) k
      go false false = tt

  item_known : (t mode : ℕ) (before : Option ℕ) (many i : ℕ) → t < type_count sheet → ContextKnown sheet (item_context sheet t mode before many i)
  unfolding item_context
  item_known t mode before many i h = go (is_rest_item before i) (is_array sheet t) (is_slice sheet t) refl refl
    where
      go : (b c d : Bool) → is_array sheet t ≡ c → is_slice sheet t ≡ d → ContextKnown sheet (cond b (rest_among t (many - 1) mode) (cond (c || d) (typed (type_at sheet t).a mode) partless))
      go true c d e f = h
      go false true d e f = array_element sheet t held h (eqb-true _ _ e)
      go false false true e f = slice_element sheet t held h (eqb-true _ _ f)
      go false false false e f = tt

  target_known : (mutable : Bool) (t : ℕ) → t < type_count sheet → ContextKnown sheet (target_context sheet mutable t)
  unfolding target_context is_written_as
  target_known mutable t h = go (is_written_as sheet mutable t) refl
    where
      go : (b : Bool) → is_written_as sheet mutable t ≡ b → ContextKnown sheet (cond b (typed (type_at sheet t).a by_value) partless)
      go true e = target_type sheet t held h (eqb-true _ _ (and_left (is_reference sheet t) (cond mutable (mathlib.Core.Bool.not (is_set (type_at sheet t).copy)) (is_set (type_at sheet t).copy)) e))
      go false e = tt

  -- a part's context
  pub part_known : (reads : PartsRead) (i : ℕ) → PartsKnown sheet reads → ContextKnown sheet (part_context sheet reads i)
  unfolding part_context
  part_known unseen_parts i k = tt
  part_known (same_parts t mode) i k = k
  part_known (target_part mutable t) i k = target_known mutable t k
  part_known (argument_parts fields mode before many) i k = argument_known fields mode before many i k
  part_known (item_parts t mode before many) i k = item_known t mode before many i k
  part_known (field_parts t v mode) i k = k
  part_known (field_part fields mode number) i k = field_known fields mode number k

  -- the type behind references
  cross_known : (most : ℕ) (c : Crossed) → c.ty < type_count sheet → (cross_up_to most sheet c).ty < type_count sheet
  unfolding cross_up_to cross_one
  cross_known zero c h = h
  cross_known (suc most) c h = go (is_reference sheet c.ty) refl (λ k. cross_known most (cross_one sheet c) k)
    where
      go : (b : Bool) → is_reference sheet c.ty ≡ b → ((cross_one sheet c).ty < type_count sheet → (cross_up_to most sheet (cross_one sheet c)).ty < type_count sheet) → (cond b (cross_up_to most sheet (cross_one sheet c)) c).ty < type_count sheet
      go true e later = later (target_type sheet c.ty held h (eqb-true _ _ e))
      go false e later = h

  crossed_known : (t mode : ℕ) → t < type_count sheet → (crossed sheet t mode).ty < type_count sheet
  unfolding crossed
  crossed_known t mode h = cross_known 257 (record { ty = t; derefs = 0; mode = mode }) h

  tuple_known : (t : ℕ) → t < type_count sheet → FieldsKnown sheet (tuple_fields sheet t)
  unfolding tuple_fields
  tuple_known t h = go (is_tuple sheet t) refl
    where
      go : (b : Bool) → is_tuple sheet t ≡ b → FieldsKnown sheet (cond b (record { start = (type_at sheet t).a; count = (type_at sheet t).b }) no_fields)
      go true e = λ i k. (listed_type sheet (type_at sheet t).a (type_at sheet t).b i (tuple_types sheet t held h (eqb-true _ _ e)) k).1
      go false e = λ i k. absurd (omega arith)

  variant_known : (t v : ℕ) → t < type_count sheet → FieldsKnown sheet (variant_fields_of sheet t v)
  unfolding variant_fields_of has_variant_of
  variant_known t v h = go (has_variant_of sheet t v) refl
    where
      go : (b : Bool) → has_variant_of sheet t v ≡ b → FieldsKnown sheet (cond b (record { start = (variant_at sheet v).fields; count = (variant_at sheet v).count }) no_fields)
      go true e =
          let adt = is_adt sheet t in
          let low = leb (type_at sheet t).a v in
          let high = ltb v ((type_at sheet t).a + (type_at sheet t).b) in
          let within : (type_at sheet t).a + (type_at sheet t).b ≤ variant_count sheet = adt_within sheet t held h (eqb-true _ _ (and_left adt low (and_left (adt && low) high e))) in
          let below : v < (type_at sheet t).a + (type_at sheet t).b = ltb-true _ _ (and_right (adt && low) high e) in
          λ i k. (listed_type sheet (variant_at sheet v).fields (variant_at sheet v).count i (variant_types sheet v held (omega arith)) k).1
      go false e = λ i k. absurd (omega arith)

  -- a name that is looked up
  where_known : (names : List ℕ) (o : Option ℕ) (n : Name) (go : ℕ → Resolved) → ((number : ℕ) → PartsKnown sheet (go number).reads) → PartsKnown sheet (where_named names o n go).reads
  unfolding where_named
  where_known names none n go k = tt
  where_known names (some row) n go k = k (name_row_at names row).number

  path_known : (names : List ℕ) (o : Option ℕ) (n : Name) (c : Crossed) → PartsKnown sheet (resolved_path names o n c).reads
  unfolding resolved_path
  path_known names none n c = tt
  path_known names (some row) n c = tt

  ident_known : (names : List ℕ) (o : Option ℕ) (m : Marked) (t mode many : ℕ) → t < type_count sheet → PartsKnown sheet (resolved_ident sheet names o m t mode many).reads
  unfolding resolved_ident resolved_path
  ident_known names none m t mode many h = h
  ident_known names (some row) m t mode many h = go (m.reference || m.mutable || leb 1 many)
    where
      go : (b : Bool) → PartsKnown sheet (cond b (refused_here m.called.at) (resolved_path names (some row) m.called (crossed sheet t mode))).reads
      go true = tt
      go false = tt

  rest_known : (names : List ℕ) (at : ℕ) (o : Option Marked) (t others mode : ℕ) → t < type_count sheet → PartsKnown sheet (resolved_rest sheet names at o t others mode).reads
  unfolding resolved_rest resolved_bound_rest
  rest_known names at none t others mode h = tt
  rest_known names at (some m) t others mode h = go (rest_holds sheet t others) (row_for names as_value m.called.bytes)
    where
      go : (b : Bool) (o : Option ℕ) → PartsKnown sheet (cond b (resolved_bound_rest sheet o m t others mode) (refused_here at)).reads
      go true none = h
      go true (some row) = tt
      go false o = tt

  node_known : (names : List ℕ) (n : Node) (many t mode : ℕ) → t < type_count sheet → PartsKnown sheet (resolved_node sheet names n many t mode).reads
  unfolding resolved_node tuple_struct_as record_as
  node_known names wildcard_node many t mode h = tt
  node_known names rest_node many t mode h = tt
  node_known names (literal_node v) many t mode h = tt
  node_known names (bound_node v) many t mode h = tt
  node_known names (bound_path_node n) many t mode h = where_known names _ n _ (λ number. tt)
  node_known names (range_node lower upper dots) many t mode h = h
  node_known names (path_node n) many t mode h = path_known names _ n (crossed sheet t mode)
  node_known names (ident_node r m n) many t mode h = ident_known names _ _ t mode many h
  node_known names (reference_node m) many t mode h = h
  node_known names (tuple_node before) many t mode h = tuple_known (crossed sheet t mode).ty (crossed_known t mode h)
  node_known names (tuple_struct_node n before) many t mode h = where_known names _ n _ (λ number. variant_known (crossed sheet t mode).ty number (crossed_known t mode h))
  node_known names (slice_node before) many t mode h = crossed_known t mode h
  node_known names (record_node n) many t mode h = where_known names _ n _ (λ number. crossed_known t mode h)
  node_known names (field_node n) many t mode h = tt
  node_known names or_node many t mode h = h

  -- how the parts of a node are read
  pub reads_known : (names : List ℕ) (at : ℕ) (n : Node) (many : ℕ) (c : Context) → ContextKnown sheet c → PartsKnown sheet (resolved sheet names at n many c).reads
  unfolding resolved resolved_field
  reads_known names at n many (typed t mode) k = node_known names n many t mode k
  reads_known names at n many (rest_among t others mode) k = rest_known names at (binds_in n) t others mode k
  reads_known names at n many (field_at t v mode) k = where_known names _ (field_name n) _ (λ number. variant_known t v k)
  reads_known names at n many partless k = tt
  reads_known names at n many unseen k = tt
