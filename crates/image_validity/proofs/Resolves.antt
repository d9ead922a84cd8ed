-- What becomes of a node that is not refused is sound, and its parts are read at types that exist. Assumes nothing.
use Prim.Native.Nat.{ℕ, ◌+◌, ◌*◌, ◌-◌, ◌≤◌, ◌<◌}
use mathlib.Core.Path.{◌≡◌, refl}
use mathlib.Core.Bool.{Bool, true, false, cond, ◌&&◌, ◌||◌, true≢false, false≢true}
use mathlib.Core.Option.{Option, none, some}
use mathlib.Core.List.{List}
use native.Mathlib.Omega.{arith}
use borrow.Author.Tests.{leb-true, le-leb, eqb-true}
use lib.Dec.{eqb, ltb, leb}
use Rattle.image.specs.Tables.{type_count, variant_count, list_count}
use Rattle.image.specs.Kinds.{path_kind}
use Rattle.image.specs.Rows.{type_at, operand_at}
use Rattle.image.specs.Types.{is_set}
use Rattle.image.specs.Operands.{operand_holds}
use Rattle.image.specs.Rules.{absent, in_table}
use Rattle.image.specs.Subpatterns.{subpatterns_by}
use Rattle.image.specs.Patterns.{variant_or_absent, path_holds, pattern_shape_holds}
use Rattle.image.proofs.Bools.{and_left, and_right, and_true}
use Rattle.type_sheets.specs.Sheets.{sheet_holds}
use Rattle.name_tables.specs.Names.{Use, as_variant, as_constant, as_value, row_for, name_row_at, names_hold}
use Rattle.pattern_syntax.specs.Written.{Name, Node, wildcard_node, rest_node, literal_node, bound_node, bound_path_node, range_node, path_node, ident_node, reference_node, tuple_node, tuple_struct_node, slice_node, record_node, field_node, or_node, Parts, part_count}
use Rattle.pattern_syntax.specs.Formed.{literal_formed, node_formed, Stand, in_pattern, in_range, in_record, stands_in, may_stand, rest_place, rest_part_formed}
use Rattle.pattern_typing.specs.Crossing.{is_array, Crossed, crossed, tuple_fields, variant_fields_of}
use Rattle.pattern_typing.specs.Contexts.{unseen_parts}
use Rattle.pattern_typing.specs.Making.{bound_at_type, bound_at_array, Making, pattern_row, or_absent}
use Rattle.pattern_typing.specs.Resolving.{Resolved, refused_here, resolved_to, where_named, path_made, resolved_path, Marked, mode_of, annotation_of, resolved_ident, rest_bound_at, rest_holds, rest_made, resolved_bound_rest, resolved_rest, list_row, tuple_struct_as, record_as, resolved_node}
use Rattle.pattern_images.specs.Drafts.{Draft}
use Rattle.image_growth.specs.Growing.{IsBytes, Grown}
use Rattle.image_validity.proofs.Tests.{or_right}
use Rattle.image_validity.proofs.Keeping.{operand_holds_kept, constant_kept, variant_number_kept}
use Rattle.image_validity.proofs.Bindings.{BoundHolds}
use Rattle.image_validity.proofs.Emits.{Sound, sound_row, sound_literal, sound_operand, sound_named, sound_range, sound_bind, sound_reference, sound_items, sound_fields, sound_slice}
use Rattle.image_validity.proofs.Types.{array_element, array_length, tuple_hold, variant_hold, crossed_holds, variant_named, constant_named, value_named}
use Rattle.image_validity.proofs.Contexts.{TypedHolds, ReadsFit, none_fits, same_fits, arguments_fit_lem, fields_fit_lem, target_fits, items_fit_lem}

-- the modes and annotations of names
mode_most : (m : Marked) (mode : ℕ) → mode ≤ 2 → mode_of m mode ≤ 2
unfolding mode_of
mode_most m mode h = by m.reference m.mutable
  where
    by : (a b : Bool) → cond a (cond b 2 1) (cond b 0 mode) ≤ 2
    by true true = omega arith
    by true false = omega arith
    by false true = omega arith
    by false false = h

annotation_most : (m : Marked) → annotation_of m ≤ 2
unfolding annotation_of
annotation_most m = by m.reference m.mutable
  where
    by : (a b : Bool) → cond a 2 (cond b 1 0) ≤ 2
    by true b = omega arith
    by false true = omega arith
    by false false = omega arith

pattern_not_record : in_pattern ≡ in_record → ⊥
pattern_not_record e =
    let z : ◌≡◌ {A = ℕ} 0 1 = cc in
    omega arith

range_not_record : in_range ≡ in_record → ⊥
range_not_record e =
    let z : ◌≡◌ {A = ℕ} 0 1 = cc in
    omega arith

-- what is refused is not taken
pub refused_not : {C : Type 0} (at : ℕ) → some at ≡ none → C
refused_not at e =
    let z : ◌≡◌ {A = ℕ} 0 1 = cc in
    absurd (omega arith)

module _ (sheet names : List ℕ) (whole : Draft) (image : List ℕ) (g : Grown sheet whole image) (holds : sheet_holds sheet ≡ true) (named : names_hold sheet names ≡ true)
    (bytes : IsBytes sheet) where
  -- sound, and its parts fit
  pub record Resolves (r : Resolved) (ps : Parts) (s p : Stand) : Type 0 where
    pub sound : Sound sheet image r.making (part_count ps) s p
    pub reads : ReadsFit sheet r.reads ps p

  -- a path to a variant or a constant
  variant_path_lem : (kind number : ℕ) → kind ≡ 1 → ltb number (variant_count sheet) ≡ true → path_holds (path_kind (cond (eqb kind 1) 1 3)) image number ≡ true
  unfolding path_holds
  variant_path_lem kind number e h = rw e (variant_number_kept sheet whole image g holds number h)

  constant_path_lem : (kind number : ℕ) → kind ≡ 3 → operand_holds sheet number && eqb (operand_at sheet number).kind 8 ≡ true →
      path_holds (path_kind (cond (eqb kind 1) 1 3)) image number ≡ true
  unfolding path_holds
  constant_path_lem kind number e h = rw e (constant_kept sheet whole image g holds number h)

  path_sound : (i : ℕ) (name : List ℕ) (c : Crossed) (many : ℕ) (p : Stand) → row_for names as_value name ≡ some i → c.ty < type_count sheet →
      Sound sheet image (path_made c (name_row_at names i).kind (name_row_at names i).number) many in_pattern p
  unfolding path_made pattern_shape_holds subpatterns_by
  path_sound i name c many p e t =
      let row = name_row_at names i in
      sound_row _ many p t (value_named sheet names named name i e (variant_path_lem row.kind row.number) (constant_path_lem row.kind row.number)) refl

  pub where_resolves : (wanted : Use) (bs : List ℕ) (o : Option ℕ) (name : Name) (go : ℕ → Resolved) (ps : Parts) (s p : Stand) → row_for names wanted bs ≡ o →
      ((i : ℕ) → row_for names wanted bs ≡ some i → Resolves (go (name_row_at names i).number) ps s p) → (where_named names o name go).refused_at ≡ none →
      Resolves (where_named names o name go) ps s p
  unfolding where_named
  where_resolves wanted bs none name go ps s p e each h = refused_not name.at h
  where_resolves wanted bs (some i) name go ps s p e each h = each i e

  path_resolves : (name : Name) (o : Option ℕ) (c : Crossed) (ps : Parts) → row_for names as_value name.bytes ≡ o → c.ty < type_count sheet → eqb (part_count ps) 0 ≡ true →
      (resolved_path names o name c).refused_at ≡ none → Resolves (resolved_path names o name c) ps in_pattern in_pattern
  unfolding resolved_path
  path_resolves name none c ps e t none-there h = refused_not name.at h
  path_resolves name (some i) c ps e t none-there h =
      record { sound = path_sound i name.bytes c (part_count ps) in_pattern e t; reads = none_fits sheet unseen_parts in_pattern ps none-there }

  -- a name that is bound, or a path
  no_marks : (a b c : Bool) → a || b || c ≡ false → c ≡ false
  no_marks true true c e = absurd (true≢false e)
  no_marks true false c e = absurd (true≢false e)
  no_marks false true c e = absurd (true≢false e)
  no_marks false false c e = e

  ident_resolves : (m : Marked) (o : Option ℕ) (t mode : ℕ) (ps : Parts) → row_for names as_value m.called.bytes ≡ o → TypedHolds sheet t mode → leb (part_count ps) 1 ≡ true →
      (resolved_ident sheet names o m t mode (part_count ps)).refused_at ≡ none → Resolves (resolved_ident sheet names o m t mode (part_count ps)) ps in_pattern in_pattern
  unfolding resolved_ident
  ident_resolves m none t mode ps e known few h =
      record {
        sound = sound_bind t (mode_of m mode) (annotation_of m) m.called.bytes (bound_at_type t) (part_count ps) known.0 (mode_most m mode known.1) (annotation_most m)
            known.0 (leb-true (part_count ps) 1 few);
        reads = same_fits sheet t mode in_pattern ps known pattern_not_record;
      }
  ident_resolves m (some i) t mode ps e known few h = by (m.reference || m.mutable || leb 1 (part_count ps)) refl h
    where
      path : Resolved
      path = resolved_path names (some i) m.called (crossed sheet t mode)

      by : (b : Bool) → m.reference || m.mutable || leb 1 (part_count ps) ≡ b → (cond b (refused_here m.called.at) path).refused_at ≡ none →
          Resolves (cond b (refused_here m.called.at) path) ps in_pattern in_pattern
      by true q r = refused_not m.called.at r
      by false q r =
          let bare = borrow.Author.Tests.leb-false 1 (part_count ps) (no_marks m.reference m.mutable (leb 1 (part_count ps)) q) in
          path_resolves m.called (some i) (crossed sheet t mode) ps e (crossed_holds sheet holds t mode known.0 known.1).0
          (borrow.Author.Tests.eq-eqb (part_count ps) 0 (omega (arith, bare))) r

  -- a list's row
  variant_there : (v : ℕ) → ltb v (variant_count sheet) ≡ true → variant_or_absent image v ≡ true
  variant_there v h = or_right (eqb v absent) (ltb v (variant_count image)) (variant_number_kept sheet whole image g holds v h)

  tuple_sound : (c : Crossed) (w many : ℕ) → c.ty < type_count sheet → Sound sheet image (list_row 4 c w 0) many in_pattern in_pattern
  unfolding pattern_shape_holds subpatterns_by
  tuple_sound c w many t = sound_items _ many t (λ from n le. le-leb (from + n) (list_count image) le) (λ from n. refl)

  or_sound : (t many : ℕ) → t < type_count sheet → Sound sheet image (Making.list_made (pattern_row 5 t 0 0 0 0 0)) many in_pattern in_pattern
  unfolding pattern_shape_holds subpatterns_by
  or_sound t many h = sound_items _ many h (λ from n le. le-leb (from + n) (list_count image) le) (λ from n. refl)

  struct_sound : (c : Crossed) (w v many : ℕ) → c.ty < type_count sheet → ltb v (variant_count sheet) ≡ true → Sound sheet image (list_row 12 c w v) many in_pattern in_pattern
  unfolding pattern_shape_holds subpatterns_by
  struct_sound c w v many t h =
      sound_items _ many t (λ from n le. and_true (in_table from n (list_count image)) (variant_or_absent image v) (le-leb (from + n) (list_count image) le) (variant_there v h))
      (λ from n. refl)

  record_sound : (c : Crossed) (v many : ℕ) → c.ty < type_count sheet → ltb v (variant_count sheet) ≡ true → Sound sheet image (list_row 6 c v 0) many in_pattern in_record
  unfolding pattern_shape_holds subpatterns_by
  record_sound c v many t h =
      sound_fields _ many t (λ from n le. and_true (in_table from (2 * n) (list_count image)) (variant_or_absent image v) (le-leb (from + 2 * n) (list_count image) le) (variant_there v h)) (λ from n. refl)

  -- `_` and `..`
  pub rest_sound : (t many : ℕ) (p : Stand) → t < type_count sheet → Sound sheet image (rest_made t) many in_pattern p
  unfolding pattern_shape_holds subpatterns_by
  rest_sound t many p h = sound_row _ many p h refl refl

  wild_sound : (t many : ℕ) (p : Stand) → t < type_count sheet → Sound sheet image (Making.row_made (pattern_row 3 t 0 0 0 0 0)) many in_pattern p
  unfolding pattern_shape_holds subpatterns_by
  wild_sound t many p h = sound_row _ many p h refl refl

  -- a node that stands in a pattern
  pub typed_resolves : (n : Node) (ps : Parts) (t mode : ℕ) → TypedHolds sheet t mode → may_stand n in_pattern ≡ true → node_formed n (part_count ps) ≡ true →
      rest_part_formed (rest_place n) ps ≡ true →
      (resolved_node sheet names n (part_count ps) t mode).refused_at ≡ none → Resolves (resolved_node sheet names n (part_count ps) t mode) ps in_pattern (stands_in n)
  unfolding may_stand node_formed rest_place stands_in resolved_node tuple_struct_as record_as
  typed_resolves wildcard_node ps t mode h stands formed rest taken = record { sound = wild_sound t (part_count ps) in_pattern h.0; reads = none_fits sheet unseen_parts in_pattern ps formed }
  typed_resolves rest_node ps t mode h stands formed rest taken = record { sound = rest_sound t (part_count ps) in_pattern h.0; reads = none_fits sheet unseen_parts in_pattern ps formed }
  typed_resolves (literal_node v) ps t mode h stands formed rest taken =
      record {
        sound = sound_literal _ _ v (part_count ps) in_pattern (crossed_holds sheet holds t mode h.0 h.1).0 (and_left (literal_formed v) (eqb (part_count ps) 0) formed);
        reads = none_fits sheet unseen_parts in_pattern ps (and_right (literal_formed v) (eqb (part_count ps) 0) formed);
      }
  typed_resolves (bound_node v) ps t mode h stands formed rest taken = absurd (false≢true stands)
  typed_resolves (bound_path_node n) ps t mode h stands formed rest taken = absurd (false≢true stands)
  typed_resolves (range_node lower upper dots) ps t mode h stands formed rest taken =
      record {
        sound = sound_range _ _ lower upper dots (part_count ps) (crossed_holds sheet holds t mode h.0 h.1).0 (eqb-true (part_count ps) _ formed);
        reads = same_fits sheet t mode in_range ps h range_not_record;
      }
  typed_resolves (path_node n) ps t mode h stands formed rest taken =
      path_resolves n (row_for names as_value n.bytes) (crossed sheet t mode) ps refl (crossed_holds sheet holds t mode h.0 h.1).0 formed taken
  typed_resolves (ident_node r m n) ps t mode h stands formed rest taken =
      ident_resolves (record { reference = r; mutable = m; called = n }) (row_for names as_value n.bytes) t mode ps refl h formed taken
  typed_resolves (reference_node m) ps t mode h stands formed rest taken =
      record { sound = sound_reference t (part_count ps) h.0 (eqb-true (part_count ps) 1 formed); reads = target_fits sheet holds m t ps h.0 }
  typed_resolves (tuple_node before) ps t mode h stands formed rest taken =
      let c = crossed sheet t mode in
      let own = crossed_holds sheet holds t mode h.0 h.1 in
      record {
        sound = tuple_sound c (or_absent before) (part_count ps) own.0;
        reads = arguments_fit_lem sheet (tuple_fields sheet c.ty) c.mode before (part_count ps) ps (tuple_hold sheet holds c.ty own.0) own.1;
      }
  typed_resolves (tuple_struct_node n before) ps t mode h stands formed rest taken =
      let c = crossed sheet t mode in
      let own = crossed_holds sheet holds t mode h.0 h.1 in
      where_resolves as_variant n.bytes (row_for names as_variant n.bytes) n (tuple_struct_as sheet c before (part_count ps)) ps in_pattern in_pattern refl
      (λ i e. record {
        sound = struct_sound c (or_absent before) (name_row_at names i).number (part_count ps) own.0 (variant_named sheet names named n.bytes i e);
        reads = arguments_fit_lem sheet (variant_fields_of sheet c.ty (name_row_at names i).number) c.mode before (part_count ps) ps
            (variant_hold sheet holds c.ty (name_row_at names i).number own.0) own.1;
      })
      taken
  typed_resolves (slice_node before) ps t mode h stands formed rest taken =
      let c = crossed sheet t mode in
      let own = crossed_holds sheet holds t mode h.0 h.1 in
      record { sound = sound_slice c.ty c.derefs before (part_count ps) own.0 formed; reads = items_fit_lem sheet holds ps c.ty c.mode before (part_count ps) own rest }
  typed_resolves (record_node n) ps t mode h stands formed rest taken =
      let c = crossed sheet t mode in
      let own = crossed_holds sheet holds t mode h.0 h.1 in
      where_resolves as_variant n.bytes (row_for names as_variant n.bytes) n (record_as c) ps in_pattern in_record refl
      (λ i e. record {
        sound = record_sound c (name_row_at names i).number (part_count ps) own.0 (variant_named sheet names named n.bytes i e);
        reads = fields_fit_lem sheet c.ty (name_row_at names i).number c.mode ps own;
      })
      taken
  typed_resolves (field_node n) ps t mode h stands formed rest taken = absurd (false≢true stands)
  typed_resolves or_node ps t mode h stands formed rest taken = record { sound = or_sound t (part_count ps) h.0; reads = same_fits sheet t mode in_pattern ps h pattern_not_record }

  -- a bound of a range
  pub bound_resolves : (n : Node) (ps : Parts) (t mode : ℕ) → may_stand n in_range ≡ true → node_formed n (part_count ps) ≡ true →
      (resolved_node sheet names n (part_count ps) t mode).refused_at ≡ none → Resolves (resolved_node sheet names n (part_count ps) t mode) ps in_range (stands_in n)
  unfolding may_stand node_formed stands_in resolved_node
  bound_resolves wildcard_node ps t mode stands formed taken = absurd (false≢true stands)
  bound_resolves rest_node ps t mode stands formed taken = absurd (false≢true stands)
  bound_resolves (literal_node v) ps t mode stands formed taken = absurd (false≢true stands)
  bound_resolves (bound_node v) ps t mode stands formed taken =
      record {
        sound = sound_operand v (part_count ps) in_pattern (and_left (literal_formed v) (eqb (part_count ps) 0) formed);
        reads = none_fits sheet unseen_parts in_pattern ps (and_right (literal_formed v) (eqb (part_count ps) 0) formed);
      }
  bound_resolves (bound_path_node n) ps t mode stands formed taken =
      where_resolves as_constant n.bytes (row_for names as_constant n.bytes) n (λ number. resolved_to (Making.operand_named number) unseen_parts) ps in_range in_pattern refl
      (λ i e. record {
        sound = sound_named (name_row_at names i).number (part_count ps) in_pattern
            (operand_holds_kept sheet whole image g holds (name_row_at names i).number (constant_named sheet names named n.bytes i e));
        reads = none_fits sheet unseen_parts in_pattern ps formed;
      })
      taken
  bound_resolves (range_node lower upper dots) ps t mode stands formed taken = absurd (false≢true stands)
  bound_resolves (path_node n) ps t mode stands formed taken = absurd (false≢true stands)
  bound_resolves (ident_node r m n) ps t mode stands formed taken = absurd (false≢true stands)
  bound_resolves (reference_node m) ps t mode stands formed taken = absurd (false≢true stands)
  bound_resolves (tuple_node before) ps t mode stands formed taken = absurd (false≢true stands)
  bound_resolves (tuple_struct_node n before) ps t mode stands formed taken = absurd (false≢true stands)
  bound_resolves (slice_node before) ps t mode stands formed taken = absurd (false≢true stands)
  bound_resolves (record_node n) ps t mode stands formed taken = absurd (false≢true stands)
  bound_resolves (field_node n) ps t mode stands formed taken = absurd (false≢true stands)
  bound_resolves or_node ps t mode stands formed taken = absurd (false≢true stands)

  -- a rest, bare or bound
  rest_bound_lem : (t others : ℕ) → t < type_count sheet → BoundHolds sheet (rest_bound_at sheet t others)
  unfolding rest_bound_at
  rest_bound_lem t others lt = by (is_array sheet t) refl
    where
      copies : (b : Bool) → cond b 1 0 ≤ 1
      copies true = omega arith
      copies false = omega arith

      by : (b : Bool) → is_array sheet t ≡ b →
          BoundHolds sheet (cond b (bound_at_array (type_at sheet t).a ((type_at sheet t).b - others) (cond (is_set (type_at sheet (type_at sheet t).a).copy) 1 0)) (bound_at_type t))
      by true e = (
        array_element sheet holds t lt e,
        (let l = array_length sheet holds bytes t lt e in omega (arith, l), copies (is_set (type_at sheet (type_at sheet t).a).copy)),
      )
      by false e = lt

  bound_rest_resolves : (m : Marked) (o : Option ℕ) (t others mode : ℕ) (ps : Parts) → TypedHolds sheet t mode → leb (part_count ps) 1 ≡ true →
      (resolved_bound_rest sheet o m t others mode).refused_at ≡ none → Resolves (resolved_bound_rest sheet o m t others mode) ps in_pattern in_pattern
  unfolding resolved_bound_rest
  bound_rest_resolves m none t others mode ps h few taken =
      record {
        sound = sound_bind t (mode_of m mode) (annotation_of m) m.called.bytes (rest_bound_at sheet t others) (part_count ps) h.0 (mode_most m mode h.1) (annotation_most m)
            (rest_bound_lem t others h.0) (leb-true (part_count ps) 1 few);
        reads = same_fits sheet t mode in_pattern ps h pattern_not_record;
      }
  bound_rest_resolves m (some i) t others mode ps h few taken = refused_not m.called.at taken

  pub name_rest_resolves : (at : ℕ) (m : Marked) (t others mode : ℕ) (ps : Parts) → TypedHolds sheet t mode → leb (part_count ps) 1 ≡ true →
      (resolved_rest sheet names at (some m) t others mode).refused_at ≡ none → Resolves (resolved_rest sheet names at (some m) t others mode) ps in_pattern in_pattern
  unfolding resolved_rest
  name_rest_resolves at m t others mode ps h few taken = by (rest_holds sheet t others) taken
    where
      go : Resolved
      go = resolved_bound_rest sheet (row_for names as_value m.called.bytes) m t others mode

      by : (b : Bool) → (cond b go (refused_here at)).refused_at ≡ none → Resolves (cond b go (refused_here at)) ps in_pattern in_pattern
      by true q = bound_rest_resolves m (row_for names as_value m.called.bytes) t others mode ps h few q
      by false q = refused_not at q
