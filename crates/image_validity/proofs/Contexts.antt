-- What the parts of a node are read at names types that exist. Assumes nothing.
use Prim.Native.Nat.{ℕ, suc, ◌+◌, ◌-◌, ◌≤◌, ◌<◌}
use mathlib.Core.Path.{◌≡◌, refl}
use mathlib.Core.Bool.{Bool, true, false, cond, ◌||◌, false≢true}
use mathlib.Core.Option.{Option, none, some}
use mathlib.Core.List.{List}
use native.Mathlib.Omega.{arith}
use borrow.Author.Tests.{ltb-true, eqb-true, ne_eqb}
use lib.Dec.{eqb, ltb, leb}
use Rattle.image.specs.Tables.{type_count}
use Rattle.image.specs.Rows.{type_at, list_at}
use Rattle.image.proofs.Bools.{and_left}
use Rattle.type_sheets.specs.Sheets.{sheet_holds}
use Rattle.pattern_syntax.specs.Written.{Node, Parts, no_parts, more, part_count}
use Rattle.pattern_syntax.specs.Formed.{Stand, in_pattern, in_range, in_record, may_be_rest, node_in, rest_part_formed}
use Rattle.pattern_typing.specs.Crossing.{is_reference, is_array, is_slice, is_written_as, by_value, FieldTypes}
use Rattle.pattern_typing.specs.Contexts.{Context, typed, rest_among, field_at, partless, unseen, PartsRead, same_parts, target_part, argument_parts, item_parts, field_parts, field_part, field_context, stands_before, argument_context, is_rest_item, item_context, target_context, part_context}
use Rattle.image_validity.proofs.Types.{FieldsHold, reference_target, item_element}

-- a type of the sheet, and one of the three modes
abbrev pub TypedHolds : List ℕ → ℕ → ℕ → Type 0
TypedHolds sheet t mode = (t < type_count sheet) × (mode ≤ 2)

-- what a node that stands here can be read at: where it has no part it is refused
abbrev pub Fits : List ℕ → Context → Node → Stand → Type 0
Fits sheet (typed t mode) n in_pattern = TypedHolds sheet t mode
Fits sheet (typed t mode) n in_range = TypedHolds sheet t mode
Fits sheet (typed t mode) n in_record = ⊥
Fits sheet (rest_among t others mode) n in_pattern = TypedHolds sheet t mode × (may_be_rest n ≡ true)
Fits sheet (rest_among t others mode) n in_range = ⊥
Fits sheet (rest_among t others mode) n in_record = ⊥
Fits sheet (field_at t v mode) n in_pattern = ⊥
Fits sheet (field_at t v mode) n in_range = ⊥
Fits sheet (field_at t v mode) n in_record = TypedHolds sheet t mode
Fits sheet partless n s = Unit
Fits sheet unseen n s = ⊥

-- so each of the parts
abbrev pub ReadsFit : List ℕ → PartsRead → Parts → Stand → Type 0
ReadsFit sheet reads no_parts s = Unit
ReadsFit sheet reads (more ps w) s = ReadsFit sheet reads ps s × Fits sheet (part_context sheet reads (part_count ps)) (node_in w) s

module _ (sheet : List ℕ) where
  pub each_fits_lem : (reads : PartsRead) (s : Stand) → ((i : ℕ) (n : Node) → Fits sheet (part_context sheet reads i) n s) → (ps : Parts) → ReadsFit sheet reads ps s
  each_fits_lem reads s h no_parts = tt
  each_fits_lem reads s h (more ps w) = (each_fits_lem reads s h ps, h (part_count ps) (node_in w))

  pub none_fits : (reads : PartsRead) (s : Stand) (ps : Parts) → eqb (part_count ps) 0 ≡ true → ReadsFit sheet reads ps s
  unfolding part_count
  none_fits reads s no_parts e = tt
  none_fits reads s (more ps w) e = absurd (omega (arith, eqb-true (suc (part_count ps)) 0 e))

  pub same_fits : (t mode : ℕ) (s : Stand) (ps : Parts) → TypedHolds sheet t mode → (s ≡ in_record → ⊥) → ReadsFit sheet (same_parts t mode) ps s
  unfolding part_context
  same_fits t mode s ps h other = each_fits_lem (same_parts t mode) s (λ i n. by s n other) ps
    where
      by : (k : Stand) (n : Node) → (k ≡ in_record → ⊥) → Fits sheet (typed t mode) n k
      by in_pattern n o = h
      by in_range n o = h
      by in_record n o = absurd (o refl)

  field_fits : (fields : FieldTypes) (mode i : ℕ) (n : Node) → FieldsHold sheet fields → mode ≤ 2 → Fits sheet (field_context sheet fields mode i) n in_pattern
  unfolding field_context
  field_fits fields mode i n h le = by (ltb i fields.count) refl
    where
      by : (b : Bool) → ltb i fields.count ≡ b → Fits sheet (cond b (typed (list_at sheet (fields.start + i)) mode) partless) n in_pattern
      by true e = (h i (ltb-true i fields.count e), le)
      by false e = tt

  argument_fits : (fields : FieldTypes) (mode : ℕ) (before : Option ℕ) (many i : ℕ) (n : Node) → FieldsHold sheet fields → mode ≤ 2 →
      Fits sheet (argument_context sheet fields mode before many i) n in_pattern
  unfolding argument_context
  argument_fits fields mode before many i n h le = by (stands_before before i) (leb many (fields.count + i))
    where
      by : (a b : Bool) → Fits sheet (cond a (field_context sheet fields mode i) (cond b (field_context sheet fields mode (fields.count + i - many)) partless)) n in_pattern
      by true b = field_fits fields mode i n h le
      by false true = field_fits fields mode (fields.count + i - many) n h le
      by false false = tt

  pub arguments_fit_lem : (fields : FieldTypes) (mode : ℕ) (before : Option ℕ) (many : ℕ) (ps : Parts) → FieldsHold sheet fields → mode ≤ 2 →
      ReadsFit sheet (argument_parts fields mode before many) ps in_pattern
  unfolding part_context
  arguments_fit_lem fields mode before many ps h le = each_fits_lem (argument_parts fields mode before many) in_pattern (λ i n. argument_fits fields mode before many i n h le) ps

  pub field_part_fits : (fields : FieldTypes) (mode number : ℕ) (ps : Parts) → FieldsHold sheet fields → mode ≤ 2 → ReadsFit sheet (field_part fields mode number) ps in_pattern
  unfolding part_context
  field_part_fits fields mode number ps h le = each_fits_lem (field_part fields mode number) in_pattern (λ i n. field_fits fields mode number n h le) ps

  pub fields_fit_lem : (t v mode : ℕ) (ps : Parts) → TypedHolds sheet t mode → ReadsFit sheet (field_parts t v mode) ps in_record
  unfolding part_context
  fields_fit_lem t v mode ps h = each_fits_lem (field_parts t v mode) in_record (λ i n. h) ps

  module _ (holds : sheet_holds sheet ≡ true) where
    pub target_fits : (mutable : Bool) (t : ℕ) (ps : Parts) → t < type_count sheet → ReadsFit sheet (target_part mutable t) ps in_pattern
    unfolding part_context target_context is_written_as
    target_fits mutable t ps lt = each_fits_lem (target_part mutable t) in_pattern (λ i n. by n (is_written_as sheet mutable t) refl) ps
      where
        by : (n : Node) (b : Bool) → is_written_as sheet mutable t ≡ b → Fits sheet (cond b (typed (type_at sheet t).a by_value) partless) n in_pattern
        by n true e = (reference_target sheet holds t lt (and_left (is_reference sheet t) _ e), omega arith)
        by n false e = tt

    element_fits : (t mode : ℕ) (n : Node) → TypedHolds sheet t mode → Fits sheet (cond (is_array sheet t || is_slice sheet t) (typed (type_at sheet t).a mode) partless) n in_pattern
    element_fits t mode n h = by (is_array sheet t || is_slice sheet t) refl
      where
        by : (b : Bool) → is_array sheet t || is_slice sheet t ≡ b → Fits sheet (cond b (typed (type_at sheet t).a mode) partless) n in_pattern
        by true e = (item_element sheet holds t h.0 e, h.1)
        by false e = tt

    item_fits : (t mode : ℕ) (before : Option ℕ) (many i : ℕ) (n : Node) → TypedHolds sheet t mode → (is_rest_item before i ≡ true → may_be_rest n ≡ true) →
        Fits sheet (item_context sheet t mode before many i) n in_pattern
    unfolding item_context
    item_fits t mode before many i n h rest = by (is_rest_item before i) refl
      where
        by : (b : Bool) → is_rest_item before i ≡ b →
            Fits sheet (cond b (rest_among t (many - 1) mode) (cond (is_array sheet t || is_slice sheet t) (typed (type_at sheet t).a mode) partless)) n in_pattern
        by true e = (h, rest e)
        by false e = element_fits t mode n h

    -- a rest behind the parts is none of them
    rest_behind_lem : (ps : Parts) (before : ℕ) → part_count ps ≤ before → rest_part_formed (some before) ps ≡ true
    unfolding rest_part_formed part_count
    rest_behind_lem no_parts before h = refl
    rest_behind_lem (more ps w) before h = rw (ne_eqb before (part_count ps) (λ e. omega (arith, e, h))) (rest_behind_lem ps before (omega arith))

    pub items_fit_lem : (ps : Parts) (t mode : ℕ) (before : Option ℕ) (many : ℕ) → TypedHolds sheet t mode → rest_part_formed before ps ≡ true →
        ReadsFit sheet (item_parts t mode before many) ps in_pattern
    unfolding part_context rest_part_formed is_rest_item
    items_fit_lem no_parts t mode before many h r = tt
    items_fit_lem (more ps w) t mode none many h r =
        (items_fit_lem ps t mode none many h refl, item_fits t mode none many (part_count ps) (node_in w) h (λ e. absurd (false≢true e)))
    items_fit_lem (more ps w) t mode (some before) many h r = (
      items_fit_lem ps t mode (some before) many h (before_it (eqb before (part_count ps)) refl r),
      item_fits t mode (some before) many (part_count ps) (node_in w) h (λ e. rw e at r),
    )
      where
        before_it : (b : Bool) → eqb before (part_count ps) ≡ b → cond b (may_be_rest (node_in w)) (rest_part_formed (some before) ps) ≡ true → rest_part_formed (some before) ps ≡ true
        before_it true e q = rest_behind_lem ps before (omega (arith, eqb-true before (part_count ps) e))
        before_it false e q = q
