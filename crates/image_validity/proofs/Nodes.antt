-- A node at any place: what becomes of it where it is not refused. Assumes nothing.
use Prim.Native.Nat.{ℕ}
use mathlib.Core.Path.{◌≡◌, refl}
use mathlib.Core.Bool.{true, false, false≢true}
use mathlib.Core.Option.{none}
use mathlib.Core.List.{List}
use borrow.Author.Tests.{eqb-true}
use Rattle.type_sheets.specs.Sheets.{sheet_holds}
use Rattle.name_tables.specs.Names.{as_field_of, row_for, name_row_at, names_hold}
use Rattle.pattern_syntax.specs.Written.{Node, wildcard_node, rest_node, literal_node, bound_node, bound_path_node, range_node, path_node, ident_node, reference_node, tuple_node, tuple_struct_node, slice_node, record_node, field_node, or_node, Parts, part_count}
use Rattle.pattern_syntax.specs.Formed.{node_formed, Stand, in_pattern, in_range, in_record, stands_in, may_stand, rest_place, may_be_rest, rest_part_formed}
use Rattle.pattern_typing.specs.Crossing.{variant_fields_of}
use Rattle.pattern_typing.specs.Contexts.{Context, typed, rest_among, field_at, partless, unseen, unseen_parts, field_part}
use Rattle.pattern_typing.specs.Making.{Making}
use Rattle.pattern_typing.specs.Resolving.{resolved_to, binds_in, field_name, resolved_rest, resolved_field, resolved}
use Rattle.pattern_images.specs.Drafts.{Draft}
use Rattle.image_growth.specs.Growing.{IsBytes, Grown}
use Rattle.image_validity.proofs.Emits.{sound_field}
use Rattle.image_validity.proofs.Types.{variant_hold}
use Rattle.image_validity.proofs.Contexts.{TypedHolds, Fits, none_fits, field_part_fits}
use Rattle.image_validity.proofs.Resolves.{Resolves, refused_not, where_resolves, rest_sound, typed_resolves, bound_resolves, name_rest_resolves}

module _ (sheet names : List ℕ) (whole : Draft) (image : List ℕ) (g : Grown sheet whole image) (holds : sheet_holds sheet ≡ true) (named : names_hold sheet names ≡ true)
    (bytes : IsBytes sheet) where
  -- `..` or a name bound to it
  rest_resolves : (n : Node) (at : ℕ) (ps : Parts) (t others mode : ℕ) → TypedHolds sheet t mode → may_be_rest n ≡ true → node_formed n (part_count ps) ≡ true →
      (resolved_rest sheet names at (binds_in n) t others mode).refused_at ≡ none →
      Resolves sheet names whole image g holds named bytes (resolved_rest sheet names at (binds_in n) t others mode) ps in_pattern (stands_in n)
  unfolding may_be_rest node_formed binds_in stands_in resolved_rest
  rest_resolves wildcard_node at ps t others mode h may formed taken = absurd (false≢true may)
  rest_resolves rest_node at ps t others mode h may formed taken =
      record { sound = rest_sound sheet names whole image g holds named bytes t (part_count ps) in_pattern h.0; reads = none_fits sheet unseen_parts in_pattern ps formed }
  rest_resolves (literal_node v) at ps t others mode h may formed taken = absurd (false≢true may)
  rest_resolves (bound_node v) at ps t others mode h may formed taken = absurd (false≢true may)
  rest_resolves (bound_path_node n) at ps t others mode h may formed taken = absurd (false≢true may)
  rest_resolves (range_node lower upper dots) at ps t others mode h may formed taken = absurd (false≢true may)
  rest_resolves (path_node n) at ps t others mode h may formed taken = absurd (false≢true may)
  rest_resolves (ident_node r m n) at ps t others mode h may formed taken =
      name_rest_resolves sheet names whole image g holds named bytes at (record { reference = r; mutable = m; called = n }) t others mode ps h formed taken
  rest_resolves (reference_node m) at ps t others mode h may formed taken = absurd (false≢true may)
  rest_resolves (tuple_node before) at ps t others mode h may formed taken = absurd (false≢true may)
  rest_resolves (tuple_struct_node n before) at ps t others mode h may formed taken = absurd (false≢true may)
  rest_resolves (slice_node before) at ps t others mode h may formed taken = absurd (false≢true may)
  rest_resolves (record_node n) at ps t others mode h may formed taken = absurd (false≢true may)
  rest_resolves (field_node n) at ps t others mode h may formed taken = absurd (false≢true may)
  rest_resolves or_node at ps t others mode h may formed taken = absurd (false≢true may)

  -- a field of a record
  field_resolves : (n : Node) (ps : Parts) (t v mode : ℕ) → TypedHolds sheet t mode → may_stand n in_record ≡ true → node_formed n (part_count ps) ≡ true →
      (resolved_field sheet names (field_name n) t v mode).refused_at ≡ none →
      Resolves sheet names whole image g holds named bytes (resolved_field sheet names (field_name n) t v mode) ps in_record (stands_in n)
  unfolding may_stand node_formed field_name stands_in resolved_field
  field_resolves wildcard_node ps t v mode h stands formed taken = absurd (false≢true stands)
  field_resolves rest_node ps t v mode h stands formed taken = absurd (false≢true stands)
  field_resolves (literal_node l) ps t v mode h stands formed taken = absurd (false≢true stands)
  field_resolves (bound_node l) ps t v mode h stands formed taken = absurd (false≢true stands)
  field_resolves (bound_path_node n) ps t v mode h stands formed taken = absurd (false≢true stands)
  field_resolves (range_node lower upper dots) ps t v mode h stands formed taken = absurd (false≢true stands)
  field_resolves (path_node n) ps t v mode h stands formed taken = absurd (false≢true stands)
  field_resolves (ident_node r m n) ps t v mode h stands formed taken = absurd (false≢true stands)
  field_resolves (reference_node m) ps t v mode h stands formed taken = absurd (false≢true stands)
  field_resolves (tuple_node before) ps t v mode h stands formed taken = absurd (false≢true stands)
  field_resolves (tuple_struct_node n before) ps t v mode h stands formed taken = absurd (false≢true stands)
  field_resolves (slice_node before) ps t v mode h stands formed taken = absurd (false≢true stands)
  field_resolves (record_node n) ps t v mode h stands formed taken = absurd (false≢true stands)
  field_resolves (field_node n) ps t v mode h stands formed taken =
      where_resolves sheet names whole image g holds named bytes (as_field_of v) n.bytes (row_for names (as_field_of v) n.bytes) n
      (λ number. resolved_to (Making.field_made number) (field_part (variant_fields_of sheet t v) mode number)) ps in_record in_pattern refl
      (λ i e. record {
        sound = sound_field (name_row_at names i).number (part_count ps) (eqb-true (part_count ps) 1 formed);
        reads = field_part_fits sheet (variant_fields_of sheet t v) mode (name_row_at names i).number ps (variant_hold sheet holds t v h.0) h.1;
      })
      taken
  field_resolves or_node ps t v mode h stands formed taken = absurd (false≢true stands)

  -- a node that is read at what fits it
  pub resolves : (c : Context) (s : Stand) (n : Node) (at : ℕ) (ps : Parts) → Fits sheet c n s → may_stand n s ≡ true → node_formed n (part_count ps) ≡ true →
      rest_part_formed (rest_place n) ps ≡ true →
      (resolved sheet names at n (part_count ps) c).refused_at ≡ none →
      Resolves sheet names whole image g holds named bytes (resolved sheet names at n (part_count ps) c) ps s (stands_in n)
  unfolding resolved
  resolves (typed t mode) in_pattern n at ps h stands formed rest taken = typed_resolves sheet names whole image g holds named bytes n ps t mode h stands formed rest taken
  resolves (typed t mode) in_range n at ps h stands formed rest taken = bound_resolves sheet names whole image g holds named bytes n ps t mode stands formed taken
  resolves (typed t mode) in_record n at ps h stands formed rest taken = absurd h
  resolves (rest_among t others mode) in_pattern n at ps h stands formed rest taken = rest_resolves n at ps t others mode h.0 h.1 formed taken
  resolves (rest_among t others mode) in_range n at ps h stands formed rest taken = absurd h
  resolves (rest_among t others mode) in_record n at ps h stands formed rest taken = absurd h
  resolves (field_at t v mode) in_pattern n at ps h stands formed rest taken = absurd h
  resolves (field_at t v mode) in_range n at ps h stands formed rest taken = absurd h
  resolves (field_at t v mode) in_record n at ps h stands formed rest taken = field_resolves n ps t v mode h stands formed taken
  resolves partless s n at ps h stands formed rest taken = refused_not at taken
  resolves unseen s n at ps h stands formed rest taken = absurd h
