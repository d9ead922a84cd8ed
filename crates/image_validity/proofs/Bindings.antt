-- A binding that is made, and the types that it lacks, hold in the whole image. Assumes nothing.
use Prim.Native.Nat.{ℕ, zero, suc, ◌+◌, ◌≤◌, ◌<◌}
use mathlib.Core.Path.{◌≡◌, refl, sym, ap, ◌∙◌}
use mathlib.Core.Bool.{Bool, true, false, not, cond, ◌&&◌}
use mathlib.Core.Option.{Option, none, some}
use mathlib.Core.List.{List, [], ◌∷◌}
use native.Mathlib.Omega.{arith}
use borrow.Author.Tests.{lt-ltb, ne_eqb}
use lib.Dec.{eqb}
use lib.ListN.{length, get_or, length-append}
use Rattle.image.specs.declared.rows.TypeRow.{TypeRow}
use Rattle.image.specs.Tables.{type_count, binding_count}
use Rattle.image.specs.Rules.{absent, is_flag, names_type, type_shape_holds, variants_by}
use Rattle.image.proofs.Bools.{and_true}
use Rattle.name_tables.specs.Names.{first_from}
use Rattle.pattern_words.specs.Words.{same_word}
use Rattle.pattern_typing.specs.Crossing.{by_value, by_ref}
use Rattle.pattern_typing.specs.Making.{BoundAt, bound_at_type, bound_at_array}
use Rattle.pattern_images.specs.Drafts.{Draft, next_type, add_type, add_binding, alike, type_in, like_in, add_unless, with_type, number_or, number_of_type, binding_for}
use Rattle.pattern_images.specs.Emitting.{array_row, with_bound_at, bound_type, reference_row, with_mode, mode_type, new_binding, with_binding, binding_number}
use Rattle.image_growth.specs.Growing.{Grown}
use Rattle.image_validity.specs.Standing.{Good, TypeGood}
use Rattle.image_validity.proofs.Extending.{Extends, extends_on, begins_long, extends_mode, extends_binding}
use Rattle.image_validity.proofs.Steps.{good_type, good_binding}

-- a number that is found passes the test, and is one of those looked at
pub found : (test : ℕ → Bool) (many at i : ℕ) → first_from test at many ≡ some i → (test i ≡ true) × (i < at + many)
unfolding first_from
found test zero at i e =
    let z : ◌≡◌ {A = ℕ} 0 1 = cc in
    absurd (omega arith)
found test (suc many) at i e = by (λ q. found test many (suc at) i q) (test at) refl e
  where
    by :
        (first_from test (suc at) many ≡ some i → (test i ≡ true) × (i < suc at + many)) → (b : Bool) → test at ≡ b
        → cond b (some at) (first_from test (suc at) many) ≡ some i → (test i ≡ true) × (i < at + suc many)
    by later true t q =
        let same : at ≡ i = cc in
        (ap test (sym same) ∙ t, omega (arith, same))
    by later false t q = let own = later q in (own.0, let l = own.1 in omega (arith, l))

-- 1 and 0 are flags
pub flag_one : (b : Bool) → is_flag (cond b 1 0) ≡ true
flag_one true = refl
flag_one false = refl

-- what a name is bound at exists in the sheet
abbrev pub BoundHolds : List ℕ → BoundAt → Type 0
BoundHolds sheet (bound_at_type t) = t < type_count sheet
BoundHolds sheet (bound_at_array element many copy) = (element < type_count sheet) × ((many < absent) × (copy ≤ 1))

module _ (sheet : List ℕ) (whole : Draft) (image : List ℕ) (g : Grown sheet whole image) where
  pub named : (t : ℕ) → t < type_count image → names_type image t ≡ true
  named t h = lt-ltb t (type_count image) h

  pub types_most : (e : Draft) → Extends e whole → next_type sheet e ≤ type_count image
  types_most e x = omega (arith, begins_long x.types, g.types_are)

  -- types that are looked for
  good_unless : (o : Option ℕ) (row : TypeRow) (e : Draft) → Good sheet image e → TypeGood image (length e.types) row → Good sheet image (add_unless o row e)
  unfolding add_unless
  good_unless none row e h own = good_type sheet image row e h own
  good_unless (some t) row e h own = h

  unless_patterns : (o : Option ℕ) (row : TypeRow) (e : Draft) → (add_unless o row e).patterns ≡ e.patterns
  unfolding add_unless add_type
  unless_patterns none row e = refl
  unless_patterns (some t) row e = refl

  unless_bindings : (o : Option ℕ) (row : TypeRow) (e : Draft) → length (add_unless o row e).bindings ≡ length e.bindings
  unfolding add_unless add_type
  unless_bindings none row e = refl
  unless_bindings (some t) row e = refl

  number_below : (o : Option ℕ) (row : TypeRow) (e : Draft) → like_in sheet e row ≡ o → Extends e whole → Extends (add_unless o row e) whole →
      number_or o (next_type sheet e) < type_count image
  unfolding add_unless add_type number_or like_in
  number_below none row e q x y = omega (arith, begins_long y.types, length-append e.types (row ∷ []), g.types_are)
  number_below (some t) row e q x y =
      let own = (found (λ t. alike row (type_in sheet e t)) (next_type sheet e) 0 t q).1 in
      omega (arith, own, types_most e x)

  reference_good : (t mode n : ℕ) → t < type_count image → TypeGood image n (reference_row t mode)
  unfolding type_shape_holds variants_by
  reference_good t mode n h =
      record { holds = and_true (is_flag (cond (eqb mode by_ref) 1 0)) (names_type image t) (flag_one (eqb mode by_ref)) (named t h); alone = refl }

  array_good : (element many copy n : ℕ) → element < type_count image → many < absent → copy ≤ 1 → TypeGood image n (array_row element many copy)
  unfolding type_shape_holds variants_by
  array_good element many copy n h m c =
      record {
        holds = and_true (is_flag copy) (names_type image element && not (eqb many absent)) (ap not (ne_eqb copy absent (λ e. omega (arith, e))))
            (and_true (names_type image element) (not (eqb many absent)) (named element h) (ap not (ne_eqb many absent (λ e. omega (arith, e)))));
        alone = refl;
      }

  -- what a name is bound at
  bound_good : (at : BoundAt) (e : Draft) → BoundHolds sheet at → Good sheet image e → Good sheet image (with_bound_at sheet at e)
  unfolding with_bound_at
  bound_good (bound_at_type t) e h good = good
  bound_good (bound_at_array element many copy) e h good =
      good_unless (like_in sheet e (array_row element many copy)) (array_row element many copy) e good
      (array_good element many copy (length e.types) (let l = h.0 in omega (arith, l, g.types_are)) h.1.0 h.1.1)

  pub bound_below : (at : BoundAt) (e : Draft) → BoundHolds sheet at → Extends e whole → Extends (with_bound_at sheet at e) whole → bound_type sheet at e < type_count image
  unfolding with_bound_at bound_type
  bound_below (bound_at_type t) e h x y = omega (arith, h, g.types_are)
  bound_below (bound_at_array element many copy) e h x y = number_below (like_in sheet e (array_row element many copy)) (array_row element many copy) e refl x y

  bound_patterns : (at : BoundAt) (e : Draft) → (with_bound_at sheet at e).patterns ≡ e.patterns
  unfolding with_bound_at
  bound_patterns (bound_at_type t) e = refl
  bound_patterns (bound_at_array element many copy) e = unless_patterns (like_in sheet e (array_row element many copy)) (array_row element many copy) e

  bound_bindings : (at : BoundAt) (e : Draft) → length (with_bound_at sheet at e).bindings ≡ length e.bindings
  unfolding with_bound_at
  bound_bindings (bound_at_type t) e = refl
  bound_bindings (bound_at_array element many copy) e = unless_bindings (like_in sheet e (array_row element many copy)) (array_row element many copy) e

  -- a reference to it, or the type itself
  mode_good : (mode t : ℕ) (e : Draft) → t < type_count image → Good sheet image e → Good sheet image (with_mode sheet mode t e)
  unfolding with_mode
  mode_good mode t e h good = by (eqb mode by_value)
    where
      by : (b : Bool) → Good sheet image (cond b e (with_type sheet (reference_row t mode) e))
      by true = good
      by false = good_unless (like_in sheet e (reference_row t mode)) (reference_row t mode) e good (reference_good t mode (length e.types) h)

  pub mode_below : (mode t : ℕ) (e : Draft) → t < type_count image → Extends e whole → Extends (with_mode sheet mode t e) whole → mode_type sheet mode t e < type_count image
  unfolding with_mode mode_type
  mode_below mode t e h x y = by (eqb mode by_value) y
    where
      by : (b : Bool) → Extends (cond b e (with_type sheet (reference_row t mode) e)) whole → cond b t (number_of_type sheet (reference_row t mode) e) < type_count image
      by true z = h
      by false z = number_below (like_in sheet e (reference_row t mode)) (reference_row t mode) e refl x z

  mode_patterns : (mode t : ℕ) (e : Draft) → (with_mode sheet mode t e).patterns ≡ e.patterns
  unfolding with_mode
  mode_patterns mode t e = by (eqb mode by_value)
    where
      by : (b : Bool) → (cond b e (with_type sheet (reference_row t mode) e)).patterns ≡ e.patterns
      by true = refl
      by false = unless_patterns (like_in sheet e (reference_row t mode)) (reference_row t mode) e

  mode_bindings : (mode t : ℕ) (e : Draft) → length (with_mode sheet mode t e).bindings ≡ length e.bindings
  unfolding with_mode
  mode_bindings mode t e = by (eqb mode by_value)
    where
      by : (b : Bool) → length (cond b e (with_type sheet (reference_row t mode) e)).bindings ≡ length e.bindings
      by true = refl
      by false = unless_bindings (like_in sheet e (reference_row t mode)) (reference_row t mode) e

  -- a binding, new or found
  pub binding_good : (o : Option ℕ) (mode : ℕ) (name : List ℕ) (at : BoundAt) (e : Draft) → BoundHolds sheet at → Good sheet image e → Extends e whole →
      Extends (with_binding sheet o mode name at e) whole → Good sheet image (with_binding sheet o mode name at e)
  unfolding with_binding new_binding
  binding_good none mode name at e h good x y =
      let b = with_bound_at sheet at e in
      let t = bound_type sheet at e in
      let last = extends_binding (record { ty = mode_type sheet mode t b; picked = 1 }) name (with_mode sheet mode t b) in
      let moded = extends_on last y in
      let bounded = extends_on (extends_mode sheet mode t b) moded in
      let known = bound_below at e h x bounded in
      good_binding sheet image _ name (with_mode sheet mode t b) (mode_good mode t b known (bound_good at e h good))
      (record { holds = and_true (names_type image (mode_type sheet mode t b)) true (named _ (mode_below mode t b known bounded moded)) refl })
  binding_good (some b) mode name at e h good x y = good

  pub binding_patterns : (o : Option ℕ) (mode : ℕ) (name : List ℕ) (at : BoundAt) (e : Draft) → (with_binding sheet o mode name at e).patterns ≡ e.patterns
  unfolding with_binding new_binding add_binding
  binding_patterns none mode name at e = mode_patterns mode (bound_type sheet at e) (with_bound_at sheet at e) ∙ bound_patterns at e
  binding_patterns (some b) mode name at e = refl

  pub binding_below : (o : Option ℕ) (mode : ℕ) (name : List ℕ) (at : BoundAt) (e : Draft) → binding_for e name ≡ o → Good sheet image e → Extends e whole →
      Extends (with_binding sheet o mode name at e) whole → binding_number sheet o e < binding_count image
  unfolding with_binding new_binding add_binding binding_number binding_for
  binding_below none mode name at e q good x y =
      let b = with_bound_at sheet at e in
      let t = bound_type sheet at e in
      omega (
        arith,
        begins_long y.bindings,
        length-append (with_mode sheet mode t b).bindings (record { ty = mode_type sheet mode t b; picked = 1 } ∷ []),
        mode_bindings mode t b,
        bound_bindings at e,
        g.bindings_are,
      )
  binding_below (some b) mode name at e q good x y =
      let own = (found (λ b. same_word (get_or e.called b []) name) (length e.called) 0 b q).1 in
      omega (arith, own, good.called, begins_long x.bindings, g.bindings_are)
